-- A text has one answer: it is accepted with one pair of lists, or refused with one cause.
use Rattle.std.proofs.Common.{◌≡◌, ℕ, List, [], ◌∷◌, ◌++◌, Some, Result, Ok, Err, IsErrAnd, append-nil, refl, sym, ◌∙◌, ap, subst, inl, inr, ◌⊎◌}
use Rattle.spec_step.specs.Gaps.{IsNext, step_place}
use Rattle.spec_step.specs.Lexemes.{Lexeme, lexeme_of, IsToken, Reads, HasTokens}
use Rattle.spec_step.specs.Grammar.{IsDerived}
use Rattle.spec_step.specs.Files.{IsFile, IsAccepted, IsCause, NamesSchema, RepeatsFirst, BeginsFile, BreaksOff, HasSyntaxFault, HasNestedFault, LacksSchema, HasDuplicate}
use Rattle.spec_step.specs.declared.token.Token.{Token}
use Rattle.spec_step.specs.declared.token.TokenStep.{TokenStep}
use Rattle.spec_step.specs.declared.token.TokenStep.TheVariants.{Got, Bad, End}
use Rattle.spec_step.specs.declared.tree.Entry.{Entry}
use Rattle.spec_step.specs.declared.tree.Instance.{Instance}
use Rattle.spec_step.specs.declared.fault.StepFault.{StepFault}
use Rattle.spec_step.specs.declared.fault.StepFault.TheVariants.{Syntax, Nested, Schema, DuplicateNumber, NoMemory}
use Rattle.step_grammar.specs.Runs.{runs, whole}
use Rattle.step_text.specs.Answers.{IsCauseOrWant, IsOkOrWant, IsFaultOrWant}
use Rattle.std.proofs.Math.Logic.{∥∥₁_elim}
use Rattle.std.proofs.lemmas.List.Elements.{All-nil}
use Rattle.step_token.proofs.Unique.{one_next}
use Rattle.step_text.proofs.Laws.{complete}
use Rattle.step_text.proofs.Fronts.{one_got, got_or_end, Fronts, fronts, begins_front, broken, too_deep}
use Rattle.step_text.proofs.Glue.{reads_tokens}
use Rattle.step_text.proofs.Repeats.{one_repeat, no_repeat}

-- the tokens from a place to the end of a text are one list
one_rest : (s : List ℕ) (at : ℕ) (ls ms : List Lexeme) (to end : ℕ) → Reads s at ls to → IsNext s to End → Reads s at ms end → IsNext s end End → ls ≡ ms
one_rest s at [] [] to end h p k q = refl
one_rest s at [] (m ∷ ms) to end h p k q = absurd (got_or_end s at k.0 k.1 (subst (λ n. IsNext s n End) (sym h) p))
one_rest s at (l ∷ ls) [] to end h p k q = absurd (got_or_end s at h.0 h.1 (subst (λ n. IsNext s n End) (sym k) q))
one_rest s at (l ∷ ls) (m ∷ ms) to end h p k q =
    let same : k.0 ≡ h.0 = one_got s at k.0 h.0 k.1 h.1 in
    let head : l ≡ m = h.2 ∙ ap (lexeme_of s) (sym same) ∙ sym k.2 in
    let rest : ls ≡ ms = one_rest s h.0.end ls ms to end h.3 p (subst (λ (t : Token). Reads s t.end ms end) same k.3) q in
    cc

-- a text is one list of tokens
pub one_text : (s : List ℕ) (ls ms : List Lexeme) → HasTokens s ls → HasTokens s ms → ls ≡ ms
one_text s ls ms h k = one_rest s 0 ls ms h.0 k.0 h.1 h.2 k.1 k.2

same_trees : (h g : List Entry) (i j : List Instance) → Some (whole h i) ≡ Some (whole g j) → (h ≡ g) × (i ≡ j)
same_trees h g i j e = let same : whole h i ≡ whole g j = cc in (ap (λ q. q.head) same, ap (λ q. q.instances) same)

-- a file has one list of head entries and one of instances
pub one_file : (s : List ℕ) (h g : List Entry) (i j : List Instance) → IsFile s h i → IsFile s g j → (h ≡ g) × (i ≡ j)
one_file s h g i j p q =
    let same : p.lexemes ≡ q.lexemes = one_text s p.lexemes q.lexemes p.tokens q.tokens in
    same_trees h g i j (sym (complete p.lexemes h i p.derived) ∙ ap runs same ∙ complete q.lexemes g j q.derived)

-- Two faults of one text are one.

syntax_once : (s : List ℕ) (p q : ℕ) (f : HasSyntaxFault s p) (g : HasSyntaxFault s q) → Fronts s f.before f.to g.before g.to → p ≡ q
syntax_once s p q f g (inl same) =
    let there : IsNext s f.to g.step = subst (λ n. IsNext s n g.step) (sym same.1) g.next in
    f.place ∙ ap (step_place s) (one_next s f.to f.step g.step f.next there) ∙ sym g.place
syntax_once s p q f g (inr (inl on)) = absurd (broken s g.before g.to f.before f.to g.step on g.next g.breaks f.begins)
syntax_once s p q f g (inr (inr on)) = absurd (broken s f.before f.to g.before g.to f.step on f.next f.breaks g.begins)

nested_begins : (s : List ℕ) (q : ℕ) (g : HasNestedFault s q) → BeginsFile g.before
nested_begins s q g =
    begins_front g.before (lexeme_of s g.token ∷ []) (reads_tokens s g.to g.token.end (lexeme_of s g.token ∷ []) (g.token, g.next, refl, refl)) g.begins

syntax_or_nested : (s : List ℕ) (p q : ℕ) (f : HasSyntaxFault s p) (g : HasNestedFault s q) → Fronts s f.before f.to g.before g.to → ⊥
syntax_or_nested s p q f g (inl same) =
    let there : IsNext s f.to (Got g.token) = subst (λ n. IsNext s n (Got g.token)) (sym same.1) g.next in
    let breaks : BreaksOff s f.before (Got g.token) = subst (BreaksOff s f.before) (one_next s f.to f.step (Got g.token) f.next there) f.breaks in
    breaks (subst (λ (ls : List Lexeme). BeginsFile (ls ++ lexeme_of s g.token ∷ [])) (sym same.0) g.begins)
syntax_or_nested s p q f g (inr (inl on)) = too_deep s g.before g.to f.before f.to g.token on g.next g.deep f.shallow
syntax_or_nested s p q f g (inr (inr on)) = broken s f.before f.to g.before g.to f.step on f.next f.breaks (nested_begins s q g)

nested_once : (s : List ℕ) (p q : ℕ) (f : HasNestedFault s p) (g : HasNestedFault s q) → Fronts s f.before f.to g.before g.to → p ≡ q
nested_once s p q f g (inl same) =
    let there : IsNext s f.to (Got g.token) = subst (λ n. IsNext s n (Got g.token)) (sym same.1) g.next in
    f.place ∙ ap (λ (t : Token). t.from) (one_got s f.to f.token g.token f.next there) ∙ sym g.place
nested_once s p q f g (inr (inl on)) = absurd (too_deep s g.before g.to f.before f.to g.token on g.next g.deep f.shallow)
nested_once s p q f g (inr (inr on)) = absurd (too_deep s f.before f.to g.before g.to f.token on f.next f.deep g.shallow)

file_begins : (ls : List Lexeme) (h : List Entry) (i : List Instance) → IsDerived ls h i → BeginsFile ls
file_begins ls h i d = record {
  more = [];
  head = h;
  instances = i;
  tokens = All-nil IsToken;
  derived = subst (λ l. IsDerived l h i) (sym (append-nil ls)) d;
}

-- and a file has none

file_or_syntax : (s : List ℕ) (h : List Entry) (i : List Instance) (p : ℕ) (a : IsFile s h i) (f : HasSyntaxFault s p) → Fronts s f.before f.to a.lexemes a.tokens.0 → ⊥
file_or_syntax s h i p a f (inl same) =
    let there : IsNext s f.to End = subst (λ n. IsNext s n End) (sym same.1) a.tokens.2 in
    let breaks : BreaksOff s f.before End = subst (BreaksOff s f.before) (one_next s f.to f.step End f.next there) f.breaks in
    breaks h i (subst (λ l. IsDerived l h i) (sym same.0) a.derived)
file_or_syntax s h i p a f (inr (inl on)) = got_or_end s a.tokens.0 on.token on.next a.tokens.2
file_or_syntax s h i p a f (inr (inr on)) = broken s f.before f.to a.lexemes a.tokens.0 f.step on f.next f.breaks (file_begins a.lexemes h i a.derived)

file_or_nested : (s : List ℕ) (h : List Entry) (i : List Instance) (p : ℕ) (a : IsFile s h i) (f : HasNestedFault s p) → Fronts s f.before f.to a.lexemes a.tokens.0 → ⊥
file_or_nested s h i p a f (inl same) = got_or_end s f.to f.token f.next (subst (λ n. IsNext s n End) (sym same.1) a.tokens.2)
file_or_nested s h i p a f (inr (inl on)) = got_or_end s a.tokens.0 on.token on.next a.tokens.2
file_or_nested s h i p a f (inr (inr on)) = too_deep s f.before f.to a.lexemes a.tokens.0 f.token on f.next f.deep a.shallow

no_syntax : (s : List ℕ) (h : List Entry) (i : List Instance) (p : ℕ) → IsFile s h i → HasSyntaxFault s p → ⊥
no_syntax s h i p a f = file_or_syntax s h i p a f (fronts s 0 f.before a.lexemes f.to a.tokens.0 f.tokens a.tokens.1)

no_nested : (s : List ℕ) (h : List Entry) (i : List Instance) (p : ℕ) → IsFile s h i → HasNestedFault s p → ⊥
no_nested s h i p a f = file_or_nested s h i p a f (fronts s 0 f.before a.lexemes f.to a.tokens.0 f.tokens a.tokens.1)

-- a file lacks no schema that it names
no_lack : (s : List ℕ) (h : List Entry) (i : List Instance) → IsFile s h i → NamesSchema s h → LacksSchema s → ⊥
no_lack s h i a names l = l.lacks (subst (NamesSchema s) (one_file s h l.head i l.instances a l.file).0 names)

same_repeat : (n a b m c e : ℕ) → (n ≡ m) × (a ≡ c) × (b ≡ e) → DuplicateNumber n a b ≡ DuplicateNumber m c e
same_repeat n a b m c e h = let x : n ≡ m = h.0 in let y : a ≡ c = h.1 in let z : b ≡ e = h.2 in cc

duplicate_once : (s : List ℕ) (n a b m c e : ℕ) → HasDuplicate s n a b → HasDuplicate s m c e → DuplicateNumber n a b ≡ DuplicateNumber m c e
duplicate_once s n a b m c e f g =
    let instances : f.instances ≡ g.instances = (one_file s f.head g.head f.instances g.instances f.file g.file).1 in
    same_repeat n a b m c e (one_repeat f.instances n a b m c e f.repeats (subst (λ is. RepeatsFirst is m c e) (sym instances) g.repeats))

-- a text is refused with one cause
pub one_cause : (s : List ℕ) (f g : StepFault) → IsCause s f → IsCause s g → f ≡ g
one_cause s (Syntax p) (Syntax q) h k = ap Syntax (syntax_once s p q h k (fronts s 0 h.before k.before h.to k.to h.tokens k.tokens))
one_cause s (Syntax p) (Nested q) h k = absurd (syntax_or_nested s p q h k (fronts s 0 h.before k.before h.to k.to h.tokens k.tokens))
one_cause s (Syntax p) Schema h k = absurd (no_syntax s k.head k.instances p k.file h)
one_cause s (Syntax p) (DuplicateNumber m c e) h k = absurd (no_syntax s k.head k.instances p k.file h)
one_cause s (Nested p) (Syntax q) h k = absurd (syntax_or_nested s q p k h (fronts s 0 k.before h.before k.to h.to k.tokens h.tokens))
one_cause s (Nested p) (Nested q) h k = ap Nested (nested_once s p q h k (fronts s 0 h.before k.before h.to k.to h.tokens k.tokens))
one_cause s (Nested p) Schema h k = absurd (no_nested s k.head k.instances p k.file h)
one_cause s (Nested p) (DuplicateNumber m c e) h k = absurd (no_nested s k.head k.instances p k.file h)
one_cause s Schema (Syntax q) h k = absurd (no_syntax s h.head h.instances q h.file k)
one_cause s Schema (Nested q) h k = absurd (no_nested s h.head h.instances q h.file k)
one_cause s Schema Schema h k = refl
one_cause s Schema (DuplicateNumber m c e) h k = absurd (no_lack s k.head k.instances k.file k.schema h)
one_cause s (DuplicateNumber n a b) (Syntax q) h k = absurd (no_syntax s h.head h.instances q h.file k)
one_cause s (DuplicateNumber n a b) (Nested q) h k = absurd (no_nested s h.head h.instances q h.file k)
one_cause s (DuplicateNumber n a b) Schema h k = absurd (no_lack s h.head h.instances h.file h.schema k)
one_cause s (DuplicateNumber n a b) (DuplicateNumber m c e) h k = duplicate_once s n a b m c e h k
one_cause s NoMemory g h k = absurd h
one_cause s f NoMemory h k = absurd k

-- and with none where it is accepted
pub no_cause : (s : List ℕ) (h : List Entry) (i : List Instance) (f : StepFault) → IsAccepted s h i → IsCause s f → ⊥
no_cause s h i (Syntax p) a k = no_syntax s h i p a.file k
no_cause s h i (Nested p) a k = no_nested s h i p a.file k
no_cause s h i Schema a k = no_lack s h i a.file a.schema k
no_cause s h i (DuplicateNumber n first second) a k =
    no_repeat i n first second a.distinct (subst (λ is. RepeatsFirst is n first second) (sym (one_file s h k.head i k.instances a.file k.file).1) k.repeats)
no_cause s h i NoMemory a k = k

-- the clauses on a fault, and on a file, from the cause that it has

pub accepts_fault : (s : List ℕ) (f : StepFault) → IsCauseOrWant s f → (h : List Entry) (i : List Instance) → IsAccepted s h i → f ≡ NoMemory
accepts_fault s f (inl k) h i a = absurd (no_cause s h i f a k)
accepts_fault s f (inr w) h i a = w

pub refuses_fault : (s : List ℕ) (f : StepFault) → IsCauseOrWant s f → (g : StepFault) → IsCause s g → (f ≡ g) ⊎ (f ≡ NoMemory)
refuses_fault s f (inl k) g c = inl (one_cause s f g k c)
refuses_fault s f (inr w) g c = inr w

-- the same of an error that comes through a `?`
pub accepts_error : {T : Type 0} (s : List ℕ) (r : Result T StepFault) (f : StepFault) (P : List Entry → List Instance → T → Type 0)
    → IsErrAnd r (λ e. e ≡ f) → IsCauseOrWant s f → (h : List Entry) (i : List Instance) → IsAccepted s h i → IsOkOrWant r (P h i)
accepts_error s (Ok t) f P e c h i a = absurd e
accepts_error s (Err x) f P e c h i a = accepts_fault s x (subst (IsCauseOrWant s) (sym e) c) h i a

pub refuses_error : {T : Type 0} (s : List ℕ) (r : Result T StepFault) (f : StepFault)
    → IsErrAnd r (λ e. e ≡ f) → IsCauseOrWant s f → (g : StepFault) → IsCause s g → IsFaultOrWant r g
refuses_error s (Ok t) f e c g k = absurd e
refuses_error s (Err x) f e c g k = refuses_fault s x (subst (IsCauseOrWant s) (sym e) c) g k

bad_or_end : (s : List ℕ) (at p : ℕ) → IsNext s at (Bad p) → IsNext s at End → ⊥
bad_or_end s at p h k = let e : Bad p ≡ End = one_next s at (Bad p) End h k in cc

bad_or_got : (s : List ℕ) (at p : ℕ) (t : Token) → IsNext s at (Bad p) → IsNext s at (Got t) → ⊥
bad_or_got s at p t h k = let e : Bad p ≡ Got t = one_next s at (Bad p) (Got t) h k in cc

-- behind the front of a text of tokens stands no byte at which none begins
not_bad : (s : List ℕ) (from at to p : ℕ) (ls ms : List Lexeme) → Reads s from ls at → IsNext s at (Bad p) → Reads s from ms to → IsNext s to End → ⊥
not_bad s from at to p [] [] h b k e = bad_or_end s at p b (subst (λ n. IsNext s n End) (sym k ∙ h) e)
not_bad s from at to p [] (m ∷ ms) h b k e = bad_or_got s at p k.0 b (subst (λ n. IsNext s n (Got k.0)) h k.1)
not_bad s from at to p (l ∷ ls) [] h b k e = got_or_end s from h.0 h.1 (subst (λ n. IsNext s n End) (sym k) e)
not_bad s from at to p (l ∷ ls) (m ∷ ms) h b k e =
    let same : k.0 ≡ h.0 = one_got s from k.0 h.0 k.1 h.1 in
    not_bad s h.0.end at to p ls ms h.3 b (subst (λ (t : Token). Reads s t.end ms to) same k.3) e

-- where a file has no token more, it ends
pub ends_here : (s : List ℕ) (at : ℕ) (step : TokenStep) (ls : List Lexeme) (h : List Entry) (i : List Instance) → IsNext s at step → ((t : Token) → step ≡ Got t → ⊥)
    → ∥ IsFile s h i ∥₁ → Reads s 0 ls at → IsNext s at End
ends_here s at (Got t) ls h i next other given r = absurd (other t refl)
ends_here s at (Bad p) ls h i next other given r =
    absurd (∥∥₁_elim given (λ a b. absurd a) (λ f. not_bad s 0 at f.tokens.0 p ls f.lexemes r next f.tokens.1 f.tokens.2))
ends_here s at End ls h i next other given r = next
