-- Two fronts of a text, as tokens: they are one, or one goes on behind the other; and no front goes on behind a fault.
use Rattle.std.proofs.Common.{◌≡◌, ℕ, ◌≤◌, List, [], ◌∷◌, ◌++◌, All, refl, sym, ◌∙◌, ap, arith, subst, inl, inr, ◌⊎◌, append_assoc}
use Rattle.std.proofs.lemmas.List.Elements.{All-append}
use Rattle.spec_step.specs.Gaps.{IsNext}
use Rattle.spec_step.specs.Lexemes.{Lexeme, lexeme_of, IsToken, Reads}
use Rattle.spec_step.specs.Grammar.{IsDerived}
use Rattle.spec_step.specs.Files.{IsShallow, BeginsFile, BreaksOff, open_behind}
use Rattle.spec_step.specs.declared.token.Token.{Token}
use Rattle.spec_step.specs.declared.token.TokenStep.{TokenStep}
use Rattle.spec_step.specs.declared.token.TokenStep.TheVariants.{Got, End}
use Rattle.step_token.proofs.Unique.{one_next}
use Rattle.step_text.proofs.Glue.{reads_tokens}

pub one_got : (s : List ℕ) (at : ℕ) (t u : Token) → IsNext s at (Got t) → IsNext s at (Got u) → t ≡ u
one_got s at t u p q = let e : Got t ≡ Got u = one_next s at (Got t) (Got u) p q in cc

pub got_or_end : (s : List ℕ) (at : ℕ) (t : Token) → IsNext s at (Got t) → IsNext s at End → ⊥
got_or_end s at t p q = let e : Got t ≡ End = one_next s at (Got t) End p q in cc

-- the tokens xs go on behind ys, with the token that stands there
pub record GoesOn (s : List ℕ) (ys : List Lexeme) (end : ℕ) (xs : List Lexeme) (to : ℕ) : Type 0 where
  pub token : Token
  pub more : List Lexeme
  pub next : IsNext s end (Got token)
  pub rest : Reads s token.end more to
  pub all : xs ≡ ys ++ lexeme_of s token ∷ more

abbrev pub Fronts : List ℕ → List Lexeme → ℕ → List Lexeme → ℕ → Type 0
Fronts s xs to ys end = ((xs ≡ ys) × (to ≡ end)) ⊎ (GoesOn s ys end xs to ⊎ GoesOn s xs to ys end)

goes_on_cons : (s : List ℕ) (l m : Lexeme) (ys : List Lexeme) (end : ℕ) (xs : List Lexeme) (to : ℕ) → l ≡ m → GoesOn s ys end xs to → GoesOn s (m ∷ ys) end (l ∷ xs) to
goes_on_cons s l m ys end xs to e g = record {
  token = g.token;
  more = g.more;
  next = g.next;
  rest = g.rest;
  all = ap (λ x. x ∷ xs) e ∙ ap (λ x. m ∷ x) g.all;
}

fronts_cons : (s : List ℕ) (l m : Lexeme) (xs ys : List Lexeme) (to end : ℕ) → l ≡ m → Fronts s xs to ys end → Fronts s (l ∷ xs) to (m ∷ ys) end
fronts_cons s l m xs ys to end e (inl same) = inl (ap (λ x. x ∷ xs) e ∙ ap (λ x. m ∷ x) same.0, same.1)
fronts_cons s l m xs ys to end e (inr (inl g)) = inr (inl (goes_on_cons s l m ys end xs to e g))
fronts_cons s l m xs ys to end e (inr (inr g)) = inr (inr (goes_on_cons s m l xs to ys end (sym e) g))

pub fronts : (s : List ℕ) (at : ℕ) (xs ys : List Lexeme) (to end : ℕ) → Reads s at xs to → Reads s at ys end → Fronts s xs to ys end
fronts s at [] [] to end h k = inl (refl, sym h ∙ k)
fronts s at [] (m ∷ ys) to end h k = inr (inr (record {
  token = k.0;
  more = ys;
  next = subst (λ n. IsNext s n (Got k.0)) h k.1;
  rest = k.3;
  all = ap (λ x. x ∷ ys) k.2;
}))
fronts s at (l ∷ xs) [] to end h k = inr (inl (record {
  token = h.0;
  more = xs;
  next = subst (λ n. IsNext s n (Got h.0)) k h.1;
  rest = h.3;
  all = ap (λ x. x ∷ xs) h.2;
}))
fronts s at (l ∷ xs) (m ∷ ys) to end h k =
    let same : k.0 ≡ h.0 = one_got s at k.0 h.0 k.1 h.1 in
    fronts_cons s l m xs ys to end (h.2 ∙ ap (lexeme_of s) (sym same) ∙ sym k.2)
    (fronts s h.0.end xs ys to end h.3 (subst (λ (t : Token). Reads s t.end ys end) same k.3))

-- a front of tokens that begin a file begins one
pub begins_front : (ys zs : List Lexeme) → All IsToken zs → BeginsFile (ys ++ zs) → BeginsFile ys
begins_front ys zs are b = record {
  more = zs ++ b.more;
  head = b.head;
  instances = b.instances;
  tokens = All-append IsToken zs b.more are b.tokens;
  derived = subst (λ l. IsDerived l b.head b.instances) (append_assoc ys zs b.more) b.derived;
}

-- behind tokens that break off no front goes on that begins a file
pub broken : (s : List ℕ) (ys : List Lexeme) (end : ℕ) (xs : List Lexeme) (to : ℕ) (step : TokenStep)
    → GoesOn s ys end xs to → IsNext s end step → BreaksOff s ys step → BeginsFile xs → ⊥
broken s ys end xs to step g next breaks b =
    let l : Lexeme = lexeme_of s g.token in
    let here : BreaksOff s ys (Got g.token) = subst (BreaksOff s ys) (one_next s end step (Got g.token) next g.next) breaks in
    here (begins_front (ys ++ l ∷ []) g.more (reads_tokens s g.token.end to g.more g.rest) (subst BeginsFile (g.all ∙ sym (append_assoc ys (l ∷ []) g.more)) b))

-- behind the 33rd parenthesis that stands open no front goes on that is shallow
pub too_deep : (s : List ℕ) (ys : List Lexeme) (end : ℕ) (xs : List Lexeme) (to : ℕ) (t : Token)
    → GoesOn s ys end xs to → IsNext s end (Got t) → open_behind 0 (ys ++ lexeme_of s t ∷ []) ≡ 33 → IsShallow xs → ⊥
too_deep s ys end xs to t g next deep shallow =
    let l : Lexeme = lexeme_of s g.token in
    let le : open_behind 0 (ys ++ l ∷ []) ≤ 32 = shallow (ys ++ l ∷ []) g.more (g.all ∙ sym (append_assoc ys (l ∷ []) g.more)) in
    let here : open_behind 0 (ys ++ l ∷ []) ≡ 33 = subst (λ (u : Token). open_behind 0 (ys ++ lexeme_of s u ∷ []) ≡ 33) (one_got s end t g.token next g.next) deep in
    omega arith
