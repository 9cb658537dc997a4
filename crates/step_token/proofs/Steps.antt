-- A step leaves what may follow then, from the first byte of a token on.
use Rattle.std.proofs.Common.{◌≡◌, ℕ, zero, suc, Bool, true, false, cond, ◌==◌, Option, Some, None, List, [], ◌∷◌, refl, arith, inl, inr}
use Rattle.std.proofs.lemmas.Bool.{or_cases}
use Rattle.std.specs.Char.{is_ascii_digit}
use Rattle.spec_num.specs.Decimals.{is_sign}
use Rattle.spec_step.specs.Spelling.{is_letter, is_mark, by_class}
use Rattle.step_token.specs.Machine.{step_of, accepted_kind}
use Rattle.spec_step.specs.declared.token.TokenKind.{TokenKind}
use Rattle.spec_step.specs.declared.token.TokenKind.TheVariants as kind
use Rattle.step_token.specs.declared.machine.State.{State}
use Rattle.step_token.specs.declared.machine.State.TheVariants.{Start, Bang, Word, Hash, Number, Sign, Digits, Fraction, Exponent, ExponentSign, ExponentDigits, Quoted, Quote, Point, Name, NameEnd, BinaryStart, BinaryDigits, BinaryEnd, Mark}
use Rattle.step_token.proofs.Residual.{same, residual, after, at_byte, step-Bang, step-Word, step-Hash, step-Sign, step-Digits, step-Fraction, step-Exponent, step-ExponentSign, step-ExponentDigits, step-Quoted, step-Quote, step-Point, step-Name, step-NameEnd, step-BinaryStart, step-BinaryDigits, step-BinaryEnd, step-Mark, step-Number}

start-Word : (b : ℕ) → is_letter b ≡ true → (k : TokenKind) (bs : List ℕ) → by_class k (b ∷ bs) ≡ residual Word k bs
start-Word b e kind.StartWord bs = grind arith
start-Word b e kind.EndWord bs = grind arith
start-Word b e kind.Keyword bs = grind arith
start-Word b e kind.Number bs = grind arith
start-Word b e kind.Int bs = grind arith
start-Word b e kind.Real bs = grind arith
start-Word b e kind.Text bs = grind arith
start-Word b e kind.Enumeration bs = grind arith
start-Word b e kind.Binary bs = grind arith
start-Word b e kind.Mark bs = grind arith

start-Digits : (b : ℕ) → is_ascii_digit b ≡ true → (k : TokenKind) (bs : List ℕ) → by_class k (b ∷ bs) ≡ residual Digits k bs
start-Digits b e kind.StartWord bs = grind arith
start-Digits b e kind.EndWord bs = grind arith
start-Digits b e kind.Keyword bs = grind arith
start-Digits b e kind.Number bs = grind arith
start-Digits b e kind.Int bs = grind arith
start-Digits b e kind.Real bs = grind arith
start-Digits b e kind.Text bs = grind arith
start-Digits b e kind.Enumeration bs = grind arith
start-Digits b e kind.Binary bs = grind arith
start-Digits b e kind.Mark bs = grind arith

at-43 : (k : TokenKind) (bs : List ℕ) → by_class k (43 ∷ bs) ≡ residual Sign k bs
at-43 kind.StartWord bs = grind arith
at-43 kind.EndWord bs = grind arith
at-43 kind.Keyword bs = grind arith
at-43 kind.Number bs = grind arith
at-43 kind.Int bs = grind arith
at-43 kind.Real bs = grind arith
at-43 kind.Text bs = grind arith
at-43 kind.Enumeration bs = grind arith
at-43 kind.Binary bs = grind arith
at-43 kind.Mark bs = grind arith

at-45 : (k : TokenKind) (bs : List ℕ) → by_class k (45 ∷ bs) ≡ residual Sign k bs
at-45 kind.StartWord bs = grind arith
at-45 kind.EndWord bs = grind arith
at-45 kind.Keyword bs = grind arith
at-45 kind.Number bs = grind arith
at-45 kind.Int bs = grind arith
at-45 kind.Real bs = grind arith
at-45 kind.Text bs = grind arith
at-45 kind.Enumeration bs = grind arith
at-45 kind.Binary bs = grind arith
at-45 kind.Mark bs = grind arith

start-Sign : (b : ℕ) → is_sign b ≡ true → (k : TokenKind) (bs : List ℕ) → by_class k (b ∷ bs) ≡ residual Sign k bs
start-Sign b e k bs = elim (or_cases _ _ e) [ inl f0 ↦ at_byte (λ x. by_class k (x ∷ bs) ≡ residual Sign k bs) b 43 f0 (at-43 k bs) | inr g0 ↦ at_byte (λ x. by_class k (x ∷ bs) ≡ residual Sign k bs) b 45 g0 (at-45 k bs) ]

at-59 : (k : TokenKind) (bs : List ℕ) → by_class k (59 ∷ bs) ≡ residual Mark k bs
at-59 kind.StartWord bs = grind arith
at-59 kind.EndWord bs = grind arith
at-59 kind.Keyword bs = grind arith
at-59 kind.Number bs = grind arith
at-59 kind.Int bs = grind arith
at-59 kind.Real bs = grind arith
at-59 kind.Text bs = grind arith
at-59 kind.Enumeration bs = grind arith
at-59 kind.Binary bs = grind arith
at-59 kind.Mark bs = grind arith

at-61 : (k : TokenKind) (bs : List ℕ) → by_class k (61 ∷ bs) ≡ residual Mark k bs
at-61 kind.StartWord bs = grind arith
at-61 kind.EndWord bs = grind arith
at-61 kind.Keyword bs = grind arith
at-61 kind.Number bs = grind arith
at-61 kind.Int bs = grind arith
at-61 kind.Real bs = grind arith
at-61 kind.Text bs = grind arith
at-61 kind.Enumeration bs = grind arith
at-61 kind.Binary bs = grind arith
at-61 kind.Mark bs = grind arith

at-40 : (k : TokenKind) (bs : List ℕ) → by_class k (40 ∷ bs) ≡ residual Mark k bs
at-40 kind.StartWord bs = grind arith
at-40 kind.EndWord bs = grind arith
at-40 kind.Keyword bs = grind arith
at-40 kind.Number bs = grind arith
at-40 kind.Int bs = grind arith
at-40 kind.Real bs = grind arith
at-40 kind.Text bs = grind arith
at-40 kind.Enumeration bs = grind arith
at-40 kind.Binary bs = grind arith
at-40 kind.Mark bs = grind arith

at-41 : (k : TokenKind) (bs : List ℕ) → by_class k (41 ∷ bs) ≡ residual Mark k bs
at-41 kind.StartWord bs = grind arith
at-41 kind.EndWord bs = grind arith
at-41 kind.Keyword bs = grind arith
at-41 kind.Number bs = grind arith
at-41 kind.Int bs = grind arith
at-41 kind.Real bs = grind arith
at-41 kind.Text bs = grind arith
at-41 kind.Enumeration bs = grind arith
at-41 kind.Binary bs = grind arith
at-41 kind.Mark bs = grind arith

at-44 : (k : TokenKind) (bs : List ℕ) → by_class k (44 ∷ bs) ≡ residual Mark k bs
at-44 kind.StartWord bs = grind arith
at-44 kind.EndWord bs = grind arith
at-44 kind.Keyword bs = grind arith
at-44 kind.Number bs = grind arith
at-44 kind.Int bs = grind arith
at-44 kind.Real bs = grind arith
at-44 kind.Text bs = grind arith
at-44 kind.Enumeration bs = grind arith
at-44 kind.Binary bs = grind arith
at-44 kind.Mark bs = grind arith

at-36 : (k : TokenKind) (bs : List ℕ) → by_class k (36 ∷ bs) ≡ residual Mark k bs
at-36 kind.StartWord bs = grind arith
at-36 kind.EndWord bs = grind arith
at-36 kind.Keyword bs = grind arith
at-36 kind.Number bs = grind arith
at-36 kind.Int bs = grind arith
at-36 kind.Real bs = grind arith
at-36 kind.Text bs = grind arith
at-36 kind.Enumeration bs = grind arith
at-36 kind.Binary bs = grind arith
at-36 kind.Mark bs = grind arith

at-42 : (k : TokenKind) (bs : List ℕ) → by_class k (42 ∷ bs) ≡ residual Mark k bs
at-42 kind.StartWord bs = grind arith
at-42 kind.EndWord bs = grind arith
at-42 kind.Keyword bs = grind arith
at-42 kind.Number bs = grind arith
at-42 kind.Int bs = grind arith
at-42 kind.Real bs = grind arith
at-42 kind.Text bs = grind arith
at-42 kind.Enumeration bs = grind arith
at-42 kind.Binary bs = grind arith
at-42 kind.Mark bs = grind arith

start-Mark : (b : ℕ) → is_mark b ≡ true → (k : TokenKind) (bs : List ℕ) → by_class k (b ∷ bs) ≡ residual Mark k bs
start-Mark b e k bs = elim (or_cases _ _ e) [ inl f0 ↦ elim (or_cases _ _ f0) [ inl f1 ↦ elim (or_cases _ _ f1) [ inl f2 ↦ elim (or_cases _ _ f2) [ inl f3 ↦ elim (or_cases _ _ f3) [ inl f4 ↦ elim (or_cases _ _ f4) [ inl f5 ↦ at_byte (λ x. by_class k (x ∷ bs) ≡ residual Mark k bs) b 59 f5 (at-59 k bs) | inr g5 ↦ at_byte (λ x. by_class k (x ∷ bs) ≡ residual Mark k bs) b 61 g5 (at-61 k bs) ] | inr g4 ↦ at_byte (λ x. by_class k (x ∷ bs) ≡ residual Mark k bs) b 40 g4 (at-40 k bs) ] | inr g3 ↦ at_byte (λ x. by_class k (x ∷ bs) ≡ residual Mark k bs) b 41 g3 (at-41 k bs) ] | inr g2 ↦ at_byte (λ x. by_class k (x ∷ bs) ≡ residual Mark k bs) b 44 g2 (at-44 k bs) ] | inr g1 ↦ at_byte (λ x. by_class k (x ∷ bs) ≡ residual Mark k bs) b 36 g1 (at-36 k bs) ] | inr g0 ↦ at_byte (λ x. by_class k (x ∷ bs) ≡ residual Mark k bs) b 42 g0 (at-42 k bs) ]

at-33 : (k : TokenKind) (bs : List ℕ) → by_class k (33 ∷ bs) ≡ residual Bang k bs
at-33 kind.StartWord bs = grind arith
at-33 kind.EndWord bs = grind arith
at-33 kind.Keyword bs = grind arith
at-33 kind.Number bs = grind arith
at-33 kind.Int bs = grind arith
at-33 kind.Real bs = grind arith
at-33 kind.Text bs = grind arith
at-33 kind.Enumeration bs = grind arith
at-33 kind.Binary bs = grind arith
at-33 kind.Mark bs = grind arith

start-Bang : (b : ℕ) → (b == 33) ≡ true → (k : TokenKind) (bs : List ℕ) → by_class k (b ∷ bs) ≡ residual Bang k bs
start-Bang b e k bs = at_byte (λ x. by_class k (x ∷ bs) ≡ residual Bang k bs) b 33 e (at-33 k bs)

at-35 : (k : TokenKind) (bs : List ℕ) → by_class k (35 ∷ bs) ≡ residual Hash k bs
at-35 kind.StartWord bs = grind arith
at-35 kind.EndWord bs = grind arith
at-35 kind.Keyword bs = grind arith
at-35 kind.Number bs = grind arith
at-35 kind.Int bs = grind arith
at-35 kind.Real bs = grind arith
at-35 kind.Text bs = grind arith
at-35 kind.Enumeration bs = grind arith
at-35 kind.Binary bs = grind arith
at-35 kind.Mark bs = grind arith

start-Hash : (b : ℕ) → (b == 35) ≡ true → (k : TokenKind) (bs : List ℕ) → by_class k (b ∷ bs) ≡ residual Hash k bs
start-Hash b e k bs = at_byte (λ x. by_class k (x ∷ bs) ≡ residual Hash k bs) b 35 e (at-35 k bs)

at-39 : (k : TokenKind) (bs : List ℕ) → by_class k (39 ∷ bs) ≡ residual Quoted k bs
at-39 kind.StartWord bs = grind arith
at-39 kind.EndWord bs = grind arith
at-39 kind.Keyword bs = grind arith
at-39 kind.Number bs = grind arith
at-39 kind.Int bs = grind arith
at-39 kind.Real bs = grind arith
at-39 kind.Text bs = grind arith
at-39 kind.Enumeration bs = grind arith
at-39 kind.Binary bs = grind arith
at-39 kind.Mark bs = grind arith

start-Quoted : (b : ℕ) → (b == 39) ≡ true → (k : TokenKind) (bs : List ℕ) → by_class k (b ∷ bs) ≡ residual Quoted k bs
start-Quoted b e k bs = at_byte (λ x. by_class k (x ∷ bs) ≡ residual Quoted k bs) b 39 e (at-39 k bs)

at-46 : (k : TokenKind) (bs : List ℕ) → by_class k (46 ∷ bs) ≡ residual Point k bs
at-46 kind.StartWord bs = grind arith
at-46 kind.EndWord bs = grind arith
at-46 kind.Keyword bs = grind arith
at-46 kind.Number bs = grind arith
at-46 kind.Int bs = grind arith
at-46 kind.Real bs = grind arith
at-46 kind.Text bs = grind arith
at-46 kind.Enumeration bs = grind arith
at-46 kind.Binary bs = grind arith
at-46 kind.Mark bs = grind arith

start-Point : (b : ℕ) → (b == 46) ≡ true → (k : TokenKind) (bs : List ℕ) → by_class k (b ∷ bs) ≡ residual Point k bs
start-Point b e k bs = at_byte (λ x. by_class k (x ∷ bs) ≡ residual Point k bs) b 46 e (at-46 k bs)

at-34 : (k : TokenKind) (bs : List ℕ) → by_class k (34 ∷ bs) ≡ residual BinaryStart k bs
at-34 kind.StartWord bs = grind arith
at-34 kind.EndWord bs = grind arith
at-34 kind.Keyword bs = grind arith
at-34 kind.Number bs = grind arith
at-34 kind.Int bs = grind arith
at-34 kind.Real bs = grind arith
at-34 kind.Text bs = grind arith
at-34 kind.Enumeration bs = grind arith
at-34 kind.Binary bs = grind arith
at-34 kind.Mark bs = grind arith

start-BinaryStart : (b : ℕ) → (b == 34) ≡ true → (k : TokenKind) (bs : List ℕ) → by_class k (b ∷ bs) ≡ residual BinaryStart k bs
start-BinaryStart b e k bs = at_byte (λ x. by_class k (x ∷ bs) ≡ residual BinaryStart k bs) b 34 e (at-34 k bs)

start-none : (b : ℕ) → is_letter b ≡ false → is_ascii_digit b ≡ false → is_sign b ≡ false → is_mark b ≡ false → (b == 33) ≡ false → (b == 35) ≡ false → (b == 39) ≡ false → (b == 46) ≡ false → (b == 34) ≡ false → (k : TokenKind) (bs : List ℕ) → by_class k (b ∷ bs) ≡ false
start-none b e0 e1 e2 e3 e4 e5 e6 e7 e8 kind.StartWord bs = grind arith
start-none b e0 e1 e2 e3 e4 e5 e6 e7 e8 kind.EndWord bs = grind arith
start-none b e0 e1 e2 e3 e4 e5 e6 e7 e8 kind.Keyword bs = grind arith
start-none b e0 e1 e2 e3 e4 e5 e6 e7 e8 kind.Number bs = grind arith
start-none b e0 e1 e2 e3 e4 e5 e6 e7 e8 kind.Int bs = grind arith
start-none b e0 e1 e2 e3 e4 e5 e6 e7 e8 kind.Real bs = grind arith
start-none b e0 e1 e2 e3 e4 e5 e6 e7 e8 kind.Text bs = grind arith
start-none b e0 e1 e2 e3 e4 e5 e6 e7 e8 kind.Enumeration bs = grind arith
start-none b e0 e1 e2 e3 e4 e5 e6 e7 e8 kind.Binary bs = grind arith
start-none b e0 e1 e2 e3 e4 e5 e6 e7 e8 kind.Mark bs = grind arith

-- a test picks the state, or leaves the rest
pick : (k : TokenKind) (b : ℕ) (bs : List ℕ) (t : Bool) (s : State) (o : Option State)
    → (t ≡ true → by_class k (b ∷ bs) ≡ residual s k bs) → (t ≡ false → by_class k (b ∷ bs) ≡ after o k bs)
    → by_class k (b ∷ bs) ≡ after (cond t (Some s) o) k bs
pick k b bs true s o yes_ no_ = yes_ refl
pick k b bs false s o yes_ no_ = no_ refl

step-Start : (k : TokenKind) (b : ℕ) (bs : List ℕ) → residual Start k (b ∷ bs) ≡ after (step_of Start b) k bs
step-Start k b bs = pick k b bs (is_letter b) Word _ (λ e. start-Word b e k bs) (λ e0. pick k b bs (is_ascii_digit b) Digits _ (λ e. start-Digits b e k bs) (λ e1. pick k b bs (is_sign b) Sign _ (λ e. start-Sign b e k bs) (λ e2. pick k b bs (is_mark b) Mark _ (λ e. start-Mark b e k bs) (λ e3. pick k b bs (b == 33) Bang _ (λ e. start-Bang b e k bs) (λ e4. pick k b bs (b == 35) Hash _ (λ e. start-Hash b e k bs) (λ e5. pick k b bs (b == 39) Quoted _ (λ e. start-Quoted b e k bs) (λ e6. pick k b bs (b == 46) Point _ (λ e. start-Point b e k bs) (λ e7. pick k b bs (b == 34) BinaryStart _ (λ e. start-BinaryStart b e k bs) (λ e8. start-none b e0 e1 e2 e3 e4 e5 e6 e7 e8 k bs)))))))))

pub steps : (s : State) (k : TokenKind) (b : ℕ) (bs : List ℕ) → residual s k (b ∷ bs) ≡ after (step_of s b) k bs
steps Start k b bs = step-Start k b bs
steps Bang k b bs = step-Bang k b bs
steps Word k b bs = step-Word k b bs
steps Hash k b bs = step-Hash k b bs
steps Sign k b bs = step-Sign k b bs
steps Digits k b bs = step-Digits k b bs
steps Fraction k b bs = step-Fraction k b bs
steps Exponent k b bs = step-Exponent k b bs
steps ExponentSign k b bs = step-ExponentSign k b bs
steps ExponentDigits k b bs = step-ExponentDigits k b bs
steps Quoted k b bs = step-Quoted k b bs
steps Quote k b bs = step-Quote k b bs
steps Point k b bs = step-Point k b bs
steps Name k b bs = step-Name k b bs
steps NameEnd k b bs = step-NameEnd k b bs
steps BinaryStart k b bs = step-BinaryStart k b bs
steps BinaryDigits k b bs = step-BinaryDigits k b bs
steps BinaryEnd k b bs = step-BinaryEnd k b bs
steps Mark k b bs = step-Mark k b bs
steps (Number left) k b bs = step-Number left k b bs

-- the kind that is accepted
abbrev pub takes : Option TokenKind → TokenKind → Bool
takes None k = false
takes (Some j) k = same k j

pub ends : (s : State) (k : TokenKind) → residual s k [] ≡ takes (accepted_kind s) k
ends Bang k = grind arith
ends Word k = grind arith
ends Hash k = grind arith
ends Sign k = grind arith
ends Digits k = grind arith
ends Fraction k = grind arith
ends Exponent k = grind arith
ends ExponentSign k = grind arith
ends ExponentDigits k = grind arith
ends Quoted k = grind arith
ends Quote k = grind arith
ends Point k = grind arith
ends Name k = grind arith
ends NameEnd k = grind arith
ends BinaryStart k = grind arith
ends BinaryDigits k = grind arith
ends BinaryEnd k = grind arith
ends Mark k = grind arith
ends (Number zero) k = refl
ends (Number (suc left)) k = refl
ends Start kind.StartWord = refl
ends Start kind.EndWord = refl
ends Start kind.Keyword = refl
ends Start kind.Number = refl
ends Start kind.Int = refl
ends Start kind.Real = refl
ends Start kind.Text = refl
ends Start kind.Enumeration = refl
ends Start kind.Binary = refl
ends Start kind.Mark = refl
