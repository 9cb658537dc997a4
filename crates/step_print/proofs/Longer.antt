-- A token with a mark behind it is the longest token there, and so is a mark with anything behind it.
use Rattle.std.proofs.Common.{◌≡◌, ℕ, ◌+◌, ◌-◌, ◌≤◌, suc, Bool, true, false, ◌==◌, ◌||◌, List, [], ◌∷◌, ◌++◌, length, take, Option, Some, None, refl, sym, ◌∙◌, ap, arith, subst, inl, inr, length-append, append-nil, cond}
use Rattle.std.proofs.lemmas.Bool.{true≢false, cases_lt, or_cases, eqb-true, and_parts}
use Rattle.std.proofs.Math.Seq.{take-append_seam, take-append-add}
use Rattle.spec_step.specs.Spelling.{is_mark, by_class, is_spelled, no_bytes}
use Rattle.spec_step.specs.Gaps.{is_blank}
use Rattle.spec_step.specs.Kinds.{is_mark_kind}
use Rattle.spec_step.specs.Longest.{IsLongest}
use Rattle.spec_step.specs.declared.token.TokenKind.{TokenKind}
use Rattle.spec_step.specs.declared.token.TokenKind.TheVariants as kind
use Rattle.step_token.specs.declared.machine.State.{State}
use Rattle.step_token.specs.declared.machine.State.TheVariants.{Start, Bang, Word, Hash, Number, Sign, Digits, Fraction, Exponent, ExponentSign, ExponentDigits, Quoted, Quote, Point, Name, NameEnd, BinaryStart, BinaryDigits, BinaryEnd, Mark}
use Rattle.step_token.specs.Machine.{step_of, accepted_kind}
use Rattle.step_token.proofs.Residual.{after}
use Rattle.step_token.proofs.Steps.{steps, ends, takes}
use Rattle.step_token.proofs.Words.{start_longest, end_longest}
use Rattle.step_token.proofs.Unique.{same_kind, Spelt, spelt}

-- the state behind some bytes
abbrev run_bytes : Option State → List ℕ → Option State
run_bytes None bs = None
run_bytes (Some s) [] = Some s
run_bytes (Some s) (b ∷ bs) = run_bytes (step_of s b) bs

after_run : (o : Option State) (k : TokenKind) (xs ys : List ℕ) → after o k (xs ++ ys) ≡ after (run_bytes o xs) k ys
after_run None k xs ys = refl
after_run (Some s) k [] ys = refl
after_run (Some s) k (b ∷ xs) ys = steps s k b (xs ++ ys) ∙ after_run (step_of s b) k xs ys

accepted_is : (o : Option TokenKind) (k : TokenKind) → takes o k ≡ true → o ≡ Some k
accepted_is None k e = absurd (true≢false (sym e))
accepted_is (Some j) k e = ap Some (sym (same_kind k j e))

-- behind a token the state accepts its kind
abbrev Accepts : Option State → TokenKind → Type 0
Accepts o k = (s : State) × (o ≡ Some s) × (accepted_kind s ≡ Some k)

accepts : (o : Option State) (k : TokenKind) → after o k [] ≡ true → Accepts o k
accepts None k e = absurd (true≢false (sym e))
accepts (Some s) k e = (s, refl, accepted_is (accepted_kind s) k (sym (ends s k) ∙ e))

at_byte : (P : ℕ → Type 0) (b n : ℕ) → (b == n) ≡ true → P n → P b
at_byte P b n e h = subst P (sym (eqb-true b n e)) h

-- what holds of each mark
at_mark : (P : ℕ → Type 0) → P 59 → P 61 → P 40 → P 41 → P 44 → P 36 → P 42 → (b : ℕ) → is_mark b ≡ true → P b
at_mark P p0 p1 p2 p3 p4 p5 p6 b e = elim (or_cases _ _ e) [
  | inr g ↦ at_byte P b 42 g p6
  | inl f ↦ elim (or_cases _ _ f) [
    | inr g ↦ at_byte P b 36 g p5
    | inl f ↦ elim (or_cases _ _ f) [
      | inr g ↦ at_byte P b 44 g p4
      | inl f ↦ elim (or_cases _ _ f) [
        | inr g ↦ at_byte P b 41 g p3
        | inl f ↦ elim (or_cases _ _ f) [
          | inr g ↦ at_byte P b 40 g p2
          | inl f ↦ elim (or_cases _ _ f) [ inr g ↦ at_byte P b 61 g p1 | inl g ↦ at_byte P b 59 g p0 ]
        ]
      ]
    ]
  ]
]

-- a mark, or a token with a mark behind it
abbrev pub is_next : TokenKind → List ℕ → Bool
is_next k [] = true
is_next k (b ∷ bs) = is_mark_kind k || is_mark b

same_some : (j k : TokenKind) → Some j ≡ Some k → j ≡ k
same_some j k e = cc

-- in a state that accepts another kind than a mark, no mark goes on
stops : (j k : TokenKind) (b : ℕ) → is_mark_kind j ≡ false → Some j ≡ Some k → (is_mark_kind k || is_mark b) ≡ true → is_mark b ≡ true
stops j k b no_mark e h =
    let other : is_mark_kind k ≡ false = ap is_mark_kind (sym (same_some j k e)) ∙ no_mark in
    sym (ap (λ x. x || is_mark b) other) ∙ h

not_accepted : (k : TokenKind) → None ≡ Some k → ⊥
not_accepted k e = cc

none_both : (b : Bool) → cond {A = Option State} b None None ≡ None
none_both true = refl
none_both false = refl

no_step : (s : State) (k : TokenKind) (b : ℕ) → accepted_kind s ≡ Some k → (is_mark_kind k || is_mark b) ≡ true → step_of s b ≡ None
no_step Word k b e h = at_mark (λ x. step_of Word x ≡ None) refl refl refl refl refl refl refl b (stops kind.Keyword k b refl e h)
no_step (Number left) k b e h =
    let none : cond {A = Option State} (left == 0) None None ≡ None = none_both (left == 0) in
    at_mark (λ x. step_of (Number left) x ≡ None) none none none none none none none b (stops kind.Number k b refl e h)
no_step Digits k b e h = at_mark (λ x. step_of Digits x ≡ None) refl refl refl refl refl refl refl b (stops kind.Int k b refl e h)
no_step Fraction k b e h = at_mark (λ x. step_of Fraction x ≡ None) refl refl refl refl refl refl refl b (stops kind.Real k b refl e h)
no_step ExponentDigits k b e h = at_mark (λ x. step_of ExponentDigits x ≡ None) refl refl refl refl refl refl refl b (stops kind.Real k b refl e h)
no_step Quote k b e h = at_mark (λ x. step_of Quote x ≡ None) refl refl refl refl refl refl refl b (stops kind.Text k b refl e h)
no_step NameEnd k b e h = refl
no_step BinaryEnd k b e h = refl
no_step Mark k b e h = refl
no_step Start k b e h = absurd (not_accepted k e)
no_step Bang k b e h = absurd (not_accepted k e)
no_step Hash k b e h = absurd (not_accepted k e)
no_step Sign k b e h = absurd (not_accepted k e)
no_step Exponent k b e h = absurd (not_accepted k e)
no_step ExponentSign k b e h = absurd (not_accepted k e)
no_step Quoted k b e h = absurd (not_accepted k e)
no_step Point k b e h = absurd (not_accepted k e)
no_step Name k b e h = absurd (not_accepted k e)
no_step BinaryStart k b e h = absurd (not_accepted k e)
no_step BinaryDigits k b e h = absurd (not_accepted k e)

-- so no token of a class goes on
class_ends : (k other : TokenKind) (text : List ℕ) (b : ℕ) (more : List ℕ) → by_class k text ≡ true → (is_mark_kind k || is_mark b) ≡ true
    → by_class other (text ++ b ∷ more) ≡ false
class_ends k other text b more e h =
    let whole : after (run_bytes (Some Start) text) k [] ≡ true = sym (after_run (Some Start) k text []) ∙ ap (by_class k) (append-nil text) ∙ e in
    let a : Accepts (run_bytes (Some Start) text) k = accepts (run_bytes (Some Start) text) k whole in
    after_run (Some Start) other text (b ∷ more) ∙ ap (λ o. after o other (b ∷ more)) a.1 ∙ steps a.0 other b more
    ∙ ap (λ o. after o other more) (no_step a.0 k b a.2 h)

-- Nor one of the two words, in which no mark stands.

abbrev has_mark : List ℕ → Bool
has_mark [] = false
has_mark (b ∷ bs) = is_mark b || has_mark bs

or_left : (a b : Bool) → a ≡ true → (a || b) ≡ true
or_left true b e = refl
or_left false b e = absurd (true≢false (sym e))

or_right : (a b : Bool) → b ≡ true → (a || b) ≡ true
or_right true b e = refl
or_right false b e = e

mark_behind : (xs : List ℕ) (b : ℕ) (ys : List ℕ) → is_mark b ≡ true → has_mark (xs ++ b ∷ ys) ≡ true
mark_behind [] b ys e = or_left (is_mark b) (has_mark ys) e
mark_behind (x ∷ xs) b ys e = or_right (is_mark x) (has_mark (xs ++ b ∷ ys)) (mark_behind xs b ys e)

pub mark_kind : (k : TokenKind) → is_mark_kind k ≡ true → k ≡ kind.Mark
mark_kind kind.Mark e = refl
mark_kind kind.StartWord e = absurd (true≢false (sym e))
mark_kind kind.EndWord e = absurd (true≢false (sym e))
mark_kind kind.Keyword e = absurd (true≢false (sym e))
mark_kind kind.Number e = absurd (true≢false (sym e))
mark_kind kind.Int e = absurd (true≢false (sym e))
mark_kind kind.Real e = absurd (true≢false (sym e))
mark_kind kind.Text e = absurd (true≢false (sym e))
mark_kind kind.Enumeration e = absurd (true≢false (sym e))
mark_kind kind.Binary e = absurd (true≢false (sym e))

mark_front : (text ys : List ℕ) → by_class kind.Mark text ≡ true → has_mark (text ++ ys) ≡ true
mark_front [] ys e = absurd (true≢false (sym e))
mark_front (b ∷ bs) ys e = or_left (is_mark b) (has_mark (bs ++ ys)) (and_parts (is_mark b) (no_bytes bs) e).0

marked : (k : TokenKind) (text : List ℕ) (b : ℕ) (more : List ℕ) → by_class k text ≡ true → (is_mark_kind k || is_mark b) ≡ true → has_mark (text ++ b ∷ more) ≡ true
marked k text b more e h = elim (or_cases (is_mark_kind k) (is_mark b) h) [
  | inl m ↦ mark_front text (b ∷ more) (subst (λ j. by_class j text ≡ true) (mark_kind k m) e)
  | inr m ↦ mark_behind text b more m
]

none_longer : (other : TokenKind) (bytes : List ℕ) → has_mark bytes ≡ true → by_class other bytes ≡ false → Spelt other bytes → ⊥
none_longer other bytes m e (inl h) = true≢false (sym m ∙ ap has_mark h.1)
none_longer other bytes m e (inr (inl h)) = true≢false (sym m ∙ ap has_mark h.1)
none_longer other bytes m e (inr (inr h)) = true≢false (sym h ∙ e)

-- no front that goes on into what follows is a token
no_longer : (k other : TokenKind) (text rest : List ℕ) (n : ℕ) → by_class k text ≡ true → is_next k rest ≡ true
    → length text + suc n ≤ length (text ++ rest) → is_spelled other (take (length text + suc n) (text ++ rest)) ≡ true → ⊥
no_longer k other text [] n e h le is = let same : length (text ++ []) ≡ length text = ap length (append-nil text) in omega arith
no_longer k other text (b ∷ rest) n e h le is =
    let bytes : take (length text + suc n) (text ++ b ∷ rest) ≡ text ++ b ∷ take n rest = take-append-add text (b ∷ rest) (suc n) in
    none_longer other (text ++ b ∷ take n rest) (marked k text b (take n rest) e h) (class_ends k other text b (take n rest) e h)
    (spelt other (text ++ b ∷ take n rest) (ap (is_spelled other) (sym bytes) ∙ is))

class_longest : (k : TokenKind) (text rest : List ℕ) → is_spelled k text ≡ true → by_class k text ≡ true → is_next k rest ≡ true
    → IsLongest is_spelled (text ++ rest) k (length text)
class_longest k text rest is e h = record {
  within = omega (arith, length-append text rest);
  token = ap (is_spelled k) (take-append_seam text rest) ∙ is;
  longest = λ other m le f. elim (cases_lt (length text) m) [
    | inr shorter ↦ shorter
    | inl longer ↦
        let n : ℕ = m - suc (length text) in
        let same : m ≡ length text + suc n = omega arith in
        absurd (no_longer k other text rest n e h (subst (λ i. i ≤ length (text ++ rest)) same le)
        (subst (λ i. is_spelled other (take i (text ++ rest)) ≡ true) same f))
  ];
}

spelt_longest : (k : TokenKind) (text rest : List ℕ) → is_spelled k text ≡ true → Spelt k text → is_next k rest ≡ true → IsLongest is_spelled (text ++ rest) k (length text)
spelt_longest k text rest is (inl h) next =
    subst (λ n. IsLongest is_spelled (text ++ rest) k n) (sym (ap length h.1))
    (subst (λ j. IsLongest is_spelled (text ++ rest) j 12) (sym h.0) (start_longest (text ++ rest) rest (ap (λ l. l ++ rest) h.1)))
spelt_longest k text rest is (inr (inl h)) next =
    subst (λ n. IsLongest is_spelled (text ++ rest) k n) (sym (ap length h.1))
    (subst (λ j. IsLongest is_spelled (text ++ rest) j 16) (sym h.0) (end_longest (text ++ rest) rest (ap (λ l. l ++ rest) h.1)))
spelt_longest k text rest is (inr (inr h)) next = class_longest k text rest is h next

-- the longest token at a token with what may stand behind it
pub token_longest : (k : TokenKind) (text rest : List ℕ) → is_spelled k text ≡ true → is_next k rest ≡ true → IsLongest is_spelled (text ++ rest) k (length text)
token_longest k text rest is next = spelt_longest k text rest is (spelt k text is) next

-- The first byte of a token.

pub some_byte : (k : TokenKind) → is_spelled k [] ≡ true → ⊥
some_byte kind.StartWord e = true≢false (sym e)
some_byte kind.EndWord e = true≢false (sym e)
some_byte kind.Keyword e = true≢false (sym e)
some_byte kind.Number e = true≢false (sym e)
some_byte kind.Int e = true≢false (sym e)
some_byte kind.Real e = true≢false (sym e)
some_byte kind.Text e = true≢false (sym e)
some_byte kind.Enumeration e = true≢false (sym e)
some_byte kind.Binary e = true≢false (sym e)
some_byte kind.Mark e = true≢false (sym e)

-- a blank, or the stroke with which a comment begins
abbrev pub begins_gap : ℕ → Bool
begins_gap b = is_blank b || b == 47

at_gap : (P : ℕ → Type 0) → P 32 → P 9 → P 13 → P 10 → P 47 → (b : ℕ) → begins_gap b ≡ true → P b
at_gap P p0 p1 p2 p3 p4 b e = elim (or_cases _ _ e) [
  | inr g ↦ at_byte P b 47 g p4
  | inl f ↦ elim (or_cases _ _ f) [
    | inl f ↦ elim (or_cases _ _ f) [ inl g ↦ at_byte P b 32 g p0 | inr g ↦ at_byte P b 9 g p1 ]
    | inr f ↦ elim (or_cases _ _ f) [ inl g ↦ at_byte P b 13 g p2 | inr g ↦ at_byte P b 10 g p3 ]
  ]
]

gap_class : (k : TokenKind) (b : ℕ) (bs : List ℕ) → begins_gap b ≡ true → by_class k (b ∷ bs) ≡ false
gap_class k b bs e = steps Start k b bs ∙ ap (λ o. after o k bs) (at_gap (λ x. step_of Start x ≡ None) refl refl refl refl refl b e)

first_is : (b : ℕ) (bs : List ℕ) (c : ℕ) (cs : List ℕ) → b ∷ bs ≡ c ∷ cs → b ≡ c
first_is b bs c cs e = cc

gap_spelt : (k : TokenKind) (b : ℕ) (bs : List ℕ) → Spelt k (b ∷ bs) → begins_gap b ≡ true → ⊥
gap_spelt k b bs (inl h) e = true≢false (sym e ∙ ap begins_gap (first_is b bs 73 _ h.1))
gap_spelt k b bs (inr (inl h)) e = true≢false (sym e ∙ ap begins_gap (first_is b bs 69 _ h.1))
gap_spelt k b bs (inr (inr h)) e = true≢false (sym h ∙ gap_class k b bs e)

-- no token begins like a gap
pub no_gap : (k : TokenKind) (b : ℕ) (bs : List ℕ) → is_spelled k (b ∷ bs) ≡ true → begins_gap b ≡ true → ⊥
no_gap k b bs e gap = gap_spelt k b bs (spelt k (b ∷ bs) e) gap
