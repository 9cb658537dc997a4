-- The reading loop, by the laws of the machine.
use Rattle.std.proofs.Common.{◌≡◌, ℕ, ◌+◌, ◌-◌, ◌<◌, ◌≤◌, List, [], ◌∷◌, ◌++◌, Some, None, All, length, refl, sym, ◌∙◌, ap, arith, subst, Bool, true, false, codes, if◌then◌else◌, inl, inr, ◌⊎◌, reverse, append-nil}
use Rattle.spec_step.specs.Gaps.{IsNext}
use Rattle.spec_step.specs.Lexemes.{Lexeme, lexeme_of, IsToken, Reads}
use Rattle.spec_step.specs.Files.{IsFile, IsShallow, HasSyntaxFault, HasNestedFault, open_behind, open_after, is_mark_of}
use Rattle.spec_step.specs.declared.token.Token.{Token}
use Rattle.spec_step.specs.declared.token.TokenStep.TheVariants.{Got, Bad, End}
use Rattle.spec_step.specs.declared.tree.Entry.{Entry}
use Rattle.spec_step.specs.declared.tree.Instance.{Instance}
use Rattle.spec_step.specs.declared.fault.StepFault.{StepFault}
use Rattle.spec_step.specs.declared.fault.StepFault.TheVariants.{Syntax, Nested, Schema, DuplicateNumber, NoMemory}
use Rattle.step_grammar.specs.Symbols.{symbol_of}
use Rattle.step_grammar.specs.Places.{State, start, step, run_on, open_at}
use Rattle.step_grammar.specs.Runs.{runs, whole}
use Rattle.step_text.specs.Answers.{IsCauseOrWant}
use Rattle.step_text.specs.Reading.{Goes, Halts}
use Rattle.step_text.proofs.HasRead.{HasRead}
use Rattle.std.proofs.lemmas.List.Elements.{All-cons}
use Rattle.step_token.proofs.Places.{got_behind, got_end}
use Rattle.step_grammar.specs.Places.{state}
use Rattle.step_grammar.specs.declared.place.Progress.{Progress}
use Rattle.step_grammar.specs.declared.entry.Frame.{Frame}
use Rattle.step_grammar.specs.declared.place.Fixed.TheVariants.{StartWord}
use Rattle.step_grammar.specs.declared.place.Place.TheVariants.{Fixed}
use Rattle.std.proofs.Common.{Result, Ok, Err, IfOk, IfErr, IsErrAnd, is_err}
use Rattle.std.proofs.lemmas.Bool.{true≢false}
use Rattle.step_text.specs.Reading.{IsWhole, IsUnfinished}
use Rattle.step_text.specs.declared.read.Trees.{Trees}
use Rattle.step_grammar.specs.declared.place.Place.{Place}
use Rattle.step_grammar.proofs.Runs.{run_on-nil, runs_both}
use Rattle.step_text.proofs.Laws.{sound, complete, begins, no_begin, depth, place_whole}

-- one token more
pub runs_more : (ls : List Lexeme) (l : Lexeme) (q : State) → runs ls ≡ Some q → runs (ls ++ l ∷ []) ≡ step q (symbol_of l)
runs_more ls l q h =
    runs_both ls (l ∷ []) ∙ ap (λ o. run_on o (symbol_of l ∷ [])) h ∙ run_on-nil (step q (symbol_of l))

pub reads_more : (s : List ℕ) (from at : ℕ) (ls : List Lexeme) (t : Token) → Reads s from ls at → IsNext s at (Got t) → Reads s from (ls ++ lexeme_of s t ∷ []) t.end
reads_more s from at [] t h next = (t, subst (λ n. IsNext s n (Got t)) (sym h) next, refl, refl)
reads_more s from at (l ∷ ls) t h next = (h.0, h.1, h.2, reads_more s h.0.end at ls t h.3 next)

pub token_kind : (s : List ℕ) (at : ℕ) (t : Token) → IsNext s at (Got t) → IsToken (lexeme_of s t)
token_kind s at t next = next.2.token

-- with nothing read the state is that before the first token
pub start_state : (p : Progress) → p.frames.items ≡ [] → p.head ≡ [] → p.instances ≡ [] → state (Fixed StartWord) p ≡ start
start_state p f h i =
    let made : List Frame → List Entry → List Instance → State = λ x y z. record { place = Fixed StartWord; frames = reverse x; head = y; instances = z } in
    ap (λ x. made x p.head p.instances) f ∙ ap (λ y. made [] y p.instances) h ∙ ap (λ z. made [] [] z) i

-- what is read are tokens
pub reads_tokens : (s : List ℕ) (from at : ℕ) (ls : List Lexeme) → Reads s from ls at → All IsToken ls
reads_tokens s from at [] h = λ k d lt. absurd (omega arith)
reads_tokens s from at (l ∷ ls) h =
    All-cons IsToken l ls (subst IsToken (sym h.2) (token_kind s from h.0 h.1)) (reads_tokens s h.0.end at ls h.3)

split_cons : (x : Lexeme) (ls : List Lexeme) (l f : Lexeme) (front : List Lexeme) → f ≡ x → (front ≡ ls ++ l ∷ []) ⊎ ((more : List Lexeme) × (ls ≡ front ++ more))
    → (f ∷ front ≡ x ∷ (ls ++ l ∷ [])) ⊎ ((more : List Lexeme) × (x ∷ ls ≡ f ∷ (front ++ more)))
split_cons x ls l f front first (inl e) = inl (cc)
split_cons x ls l f front first (inr e) = inr (e.0, let rest : ls ≡ front ++ e.0 = e.1 in cc)

-- a front of some tokens and one more is all of them, or a front of those
split_last : (ls : List Lexeme) (l : Lexeme) (front rest : List Lexeme) → ls ++ l ∷ [] ≡ front ++ rest → (front ≡ ls ++ l ∷ []) ⊎ ((more : List Lexeme) × (ls ≡ front ++ more))
split_last [] l [] rest e = inr ([], refl)
split_last [] l (f ∷ []) rest e = let first : f ≡ l = cc in inl (ap (λ x. x ∷ []) first)
split_last [] l (f ∷ g ∷ front) rest e = absurd (cc)
split_last (x ∷ ls) l [] rest e = inr (x ∷ ls, refl)
split_last (x ∷ ls) l (f ∷ front) rest e =
    let first : f ≡ x = cc in
    let tail : ls ++ l ∷ [] ≡ front ++ rest = cc in
    split_cons x ls l f front first (split_last ls l front rest tail)

shallow_front : (ls : List Lexeme) (l : Lexeme) → IsShallow ls → open_behind 0 (ls ++ l ∷ []) ≤ 32
    → (front : List Lexeme) → (front ≡ ls ++ l ∷ []) ⊎ ((more : List Lexeme) × (ls ≡ front ++ more)) → open_behind 0 front ≤ 32
shallow_front ls l h here front (inl e) = subst (λ x. open_behind 0 x ≤ 32) (sym e) here
shallow_front ls l h here front (inr e) = h front e.0 e.1

-- where at most 32 are open before a token and with it, nowhere more are
shallow_more : (ls : List Lexeme) (l : Lexeme) → IsShallow ls → open_behind 0 (ls ++ l ∷ []) ≤ 32 → IsShallow (ls ++ l ∷ [])
shallow_more ls l h here front rest e = shallow_front ls l h here front (split_last ls l front rest e)

open_behind-append : (n : ℕ) (xs ys : List Lexeme) → open_behind n (xs ++ ys) ≡ open_behind (open_behind n xs) ys
open_behind-append n [] ys = refl
open_behind-append n (x ∷ xs) ys = open_behind-append (open_after n x) xs ys

chosen_le : (b c : Bool) (n : ℕ) → (if b then n + 1 else (if c then n - 1 else n)) ≤ n + 1
chosen_le true c n = omega arith
chosen_le false true n = omega arith
chosen_le false false n = omega arith

open_after_le : (n : ℕ) (l : Lexeme) → open_after n l ≤ n + 1
open_after_le n l = chosen_le (is_mark_of (codes "(") l) (is_mark_of (codes ")") l) n

-- one parenthesis more at most
open_more : (ls : List Lexeme) (l : Lexeme) → open_behind 0 ls ≤ 32 → 32 < open_behind 0 (ls ++ l ∷ []) → open_behind 0 (ls ++ l ∷ []) ≡ 33
open_more ls l h k =
    let last : open_behind 0 (ls ++ l ∷ []) ≡ open_after (open_behind 0 ls) l = open_behind-append 0 ls (l ∷ []) in
    omega (arith, open_after_le (open_behind 0 ls) l)

pub shallow_end : (ls : List Lexeme) → IsShallow ls → open_behind 0 ls ≤ 32
shallow_end ls h = h ls [] (sym (append-nil ls))

nothing_shallow : IsShallow []
nothing_shallow [] rest e = omega arith
nothing_shallow (l ∷ front) rest e = absurd (cc)

pub nothing_read : (s : List ℕ) → HasRead s 0 start
nothing_read s = record { lexemes = []; tokens = refl; read = refl; shallow = nothing_shallow }

pub token_end : (s : List ℕ) (at : ℕ) (t : Token) → IsNext s at (Got t) → (at < t.end) × (t.from ≤ t.end) × (t.end ≤ length s)
token_end s at t next = (got_behind s at t next, omega (arith, next.1), got_end s at t next)

pub read_more : (s : List ℕ) (at : ℕ) (t : Token) (q next : State) → IsNext s at (Got t) → HasRead s at q
    → Goes (step q (symbol_of (lexeme_of s t))) next → HasRead s t.end next
read_more s at t q next is h goes =
    let l = lexeme_of s t in
    let tokens : Reads s 0 (h.lexemes ++ l ∷ []) t.end = reads_more s 0 at h.lexemes t h.tokens is in
    let read : runs (h.lexemes ++ l ∷ []) ≡ Some next = runs_more h.lexemes l q h.read ∙ goes.0 in
    let counted : open_behind 0 (h.lexemes ++ l ∷ []) ≡ open_at next = depth (h.lexemes ++ l ∷ []) next (reads_tokens s 0 t.end (h.lexemes ++ l ∷ []) tokens) read in
    record {
      lexemes = h.lexemes ++ l ∷ [];
      tokens = tokens;
      read = read;
      shallow = shallow_more h.lexemes l h.shallow (subst (λ n. n ≤ 32) (sym counted) goes.1);
    }

pub bad_cause : (s : List ℕ) (at place : ℕ) (q : State) → HasRead s at q → IsNext s at (Bad place) → IsCauseOrWant s (Syntax place)
bad_cause s at place q h next = inl (record {
  before = h.lexemes;
  to = at;
  step = Bad place;
  tokens = h.tokens;
  begins = begins h.lexemes q (reads_tokens s 0 at h.lexemes h.tokens) h.read;
  shallow = h.shallow;
  next = next;
  breaks = tt;
  place = refl;
})

pub whole_file : (s : List ℕ) (at : ℕ) (q : State) → HasRead s at q → IsNext s at End → q.place ≡ (whole [] []).place → IsFile s q.head q.instances
whole_file s at q h next is = record {
  lexemes = h.lexemes;
  tokens = (at, h.tokens, next);
  derived = sound h.lexemes q.head q.instances (reads_tokens s 0 at h.lexemes h.tokens) (h.read ∙ ap Some (place_whole h.lexemes q h.read is));
  shallow = h.shallow;
}

some_place : (p q : State) → Some p ≡ Some q → p.place ≡ q.place
some_place p q e = cc

pub end_cause : (s : List ℕ) (at : ℕ) (q : State) → HasRead s at q → IsNext s at End → (q.place ≡ (whole [] []).place → ⊥) → IsCauseOrWant s (Syntax (length s))
end_cause s at q h next other = inl (record {
  before = h.lexemes;
  to = at;
  step = End;
  tokens = h.tokens;
  begins = begins h.lexemes q (reads_tokens s 0 at h.lexemes h.tokens) h.read;
  shallow = h.shallow;
  next = next;
  breaks = λ head instances d. other (some_place q (whole head instances) (sym h.read ∙ complete h.lexemes head instances d));
  place = refl;
})

halt_syntax : (s : List ℕ) (at place : ℕ) (t : Token) (q : State) → HasRead s at q → IsNext s at (Got t)
    → step q (symbol_of (lexeme_of s t)) ≡ None → place ≡ t.from → HasSyntaxFault s place
halt_syntax s at place t q h next none is = record {
  before = h.lexemes;
  to = at;
  step = Got t;
  tokens = h.tokens;
  begins = begins h.lexemes q (reads_tokens s 0 at h.lexemes h.tokens) h.read;
  shallow = h.shallow;
  next = next;
  breaks = no_begin (h.lexemes ++ lexeme_of s t ∷ []) (runs_more h.lexemes (lexeme_of s t) q h.read ∙ none);
  place = is;
}

halt_nested : (s : List ℕ) (at place : ℕ) (t : Token) (q next : State) → HasRead s at q → IsNext s at (Got t)
    → step q (symbol_of (lexeme_of s t)) ≡ Some next → 32 < open_at next → place ≡ t.from → HasNestedFault s place
halt_nested s at place t q next h is goes deep place_is =
    let l = lexeme_of s t in
    let tokens : Reads s 0 (h.lexemes ++ l ∷ []) t.end = reads_more s 0 at h.lexemes t h.tokens is in
    let read : runs (h.lexemes ++ l ∷ []) ≡ Some next = runs_more h.lexemes l q h.read ∙ goes in
    let are : All IsToken (h.lexemes ++ l ∷ []) = reads_tokens s 0 t.end (h.lexemes ++ l ∷ []) tokens in
    let counted : open_behind 0 (h.lexemes ++ l ∷ []) ≡ open_at next = depth (h.lexemes ++ l ∷ []) next are read in
    record {
      before = h.lexemes;
      to = at;
      token = t;
      tokens = h.tokens;
      shallow = h.shallow;
      next = is;
      begins = begins (h.lexemes ++ l ∷ []) next are read;
      deep = open_more h.lexemes l (shallow_end h.lexemes h.shallow) (subst (λ n. 32 < n) (sym counted) deep);
      place = place_is;
    }

pub halt_cause : (s : List ℕ) (at : ℕ) (t : Token) (q : State) (fault : StepFault) → HasRead s at q → IsNext s at (Got t)
    → Halts (step q (symbol_of (lexeme_of s t))) t.from fault → IsCauseOrWant s fault
halt_cause s at t q (Syntax place) h next halts = inl (halt_syntax s at place t q h next halts.0 halts.1)
halt_cause s at t q (Nested place) h next halts = inl (halt_nested s at place t q halts.0 h next halts.1 halts.2 halts.3)
halt_cause s at t q Schema h next halts = absurd halts
halt_cause s at t q (DuplicateNumber n first second) h next halts = absurd halts
halt_cause s at t q NoMemory h next halts = inr refl

-- the text ends: it is a file, or it ends too early
pub end_file : (s : List ℕ) (at : ℕ) (p : Place) (progress : Progress) (r : Result Trees StepFault) → HasRead s at (state p progress) → IsNext s at End
    → IfOk r (λ t. IsWhole p progress t.head t.instances) → IfOk r (λ t. IsFile s t.head t.instances)
end_file s at p progress (Ok t) h next w =
    let file : IsFile s progress.head progress.instances = whole_file s at (state p progress) h next w.0 in
    subst (λ x. IsFile s x t.instances) (sym w.1) (subst (λ y. IsFile s progress.head y) (sym w.2) file)
end_file s at p progress (Err fault) h next w = tt

pub end_fault : (s : List ℕ) (at : ℕ) (p : Place) (progress : Progress) (r : Result Trees StepFault) → HasRead s at (state p progress) → IsNext s at End
    → IfErr r (λ fault. IsUnfinished p (length s) fault) → IfErr r (λ fault. IsCauseOrWant s fault)
end_fault s at p progress (Ok t) h next u = tt
end_fault s at p progress (Err fault) h next u = subst (λ x. IsCauseOrWant s x) (sym u.1) (end_cause s at (state p progress) h next u.0)

-- an error owes nothing of what a value owes
pub owes_nothing : {T E : Type 0} (r : Result T E) (P : T → Type 0) → is_err r ≡ true → IfOk r P
owes_nothing (Ok x) P e = absurd (true≢false (sym e))
owes_nothing (Err y) P e = tt

-- an error that comes through a `?` as it is
pub gives : {T : Type 0} (r : Result T StepFault) (P : StepFault → Type 0) (x : StepFault) → IsErrAnd r (λ e. e ≡ x) → P x → IfErr r P
gives (Ok t) P x e h = tt
gives (Err f) P x e h = subst P (sym e) h
