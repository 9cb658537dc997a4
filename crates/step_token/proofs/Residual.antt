-- What may follow in each state, and what may follow behind a byte of a token that has begun.
use Rattle.std.proofs.Common.{◌≡◌, ℕ, zero, suc, Bool, true, false, cond, ◌&&◌, ◌||◌, ◌==◌, Option, Some, None, List, [], ◌∷◌, refl, sym, arith, subst, inl, inr}
use Rattle.std.proofs.lemmas.Bool.{eqb-true, true≢false, or_cases}
use Rattle.std.specs.Char.{is_ascii_digit, is_ascii_hexdigit}
use Rattle.spec_num.specs.Decimals.{is_sign, is_exponent}
use Rattle.spec_step.specs.Spelling.{is_letter, is_word_byte, no_bytes, one, maybe, many, some, up_to, text_rest, fraction, by_class}
use Rattle.step_token.specs.Machine.{go, step_of}
use Rattle.spec_step.specs.declared.token.TokenKind.{TokenKind}
use Rattle.spec_step.specs.declared.token.TokenKind.TheVariants as kind
use Rattle.step_token.specs.declared.machine.State.{State}
use Rattle.step_token.specs.declared.machine.State.TheVariants.{Start, Bang, Word, Hash, Number, Sign, Digits, Fraction, Exponent, ExponentSign, ExponentDigits, Quoted, Quote, Point, Name, NameEnd, BinaryStart, BinaryDigits, BinaryEnd, Mark}

abbrev pub code : TokenKind → ℕ
code kind.StartWord = 0
code kind.EndWord = 1
code kind.Keyword = 2
code kind.Number = 3
code kind.Int = 4
code kind.Real = 5
code kind.Text = 6
code kind.Enumeration = 7
code kind.Binary = 8
code kind.Mark = 9

abbrev pub same : TokenKind → TokenKind → Bool
same k j = code k == code j

abbrev pub is_point : ℕ → Bool
is_point b = b == 46

abbrev pub is_double : ℕ → Bool
is_double b = b == 34

-- behind a quote that may end the text
abbrev pub after_quote : List ℕ → Bool
after_quote [] = true
after_quote (b ∷ bs) = (b == 39) && text_rest bs

abbrev pub residual : State → TokenKind → List ℕ → Bool
residual Start k bs = by_class k bs
residual Bang k bs = one is_letter (many is_word_byte no_bytes) bs && same k kind.Keyword
residual Word k bs = many is_word_byte no_bytes bs && same k kind.Keyword
residual Hash k bs = one is_ascii_digit (up_to 17 is_ascii_digit no_bytes) bs && same k kind.Number
residual (Number left) k bs = up_to left is_ascii_digit no_bytes bs && same k kind.Number
residual Sign k bs = (some is_ascii_digit no_bytes bs && same k kind.Int) || (some is_ascii_digit (one is_point fraction) bs && same k kind.Real)
residual Digits k bs = (many is_ascii_digit no_bytes bs && same k kind.Int) || (many is_ascii_digit (one is_point fraction) bs && same k kind.Real)
residual Fraction k bs = fraction bs && same k kind.Real
residual Exponent k bs = maybe is_sign (some is_ascii_digit no_bytes) bs && same k kind.Real
residual ExponentSign k bs = some is_ascii_digit no_bytes bs && same k kind.Real
residual ExponentDigits k bs = many is_ascii_digit no_bytes bs && same k kind.Real
residual Quoted k bs = text_rest bs && same k kind.Text
residual Quote k bs = after_quote bs && same k kind.Text
residual Point k bs = one is_letter (many is_word_byte (one is_point no_bytes)) bs && same k kind.Enumeration
residual Name k bs = many is_word_byte (one is_point no_bytes) bs && same k kind.Enumeration
residual NameEnd k bs = no_bytes bs && same k kind.Enumeration
residual BinaryStart k bs = some is_ascii_hexdigit (one is_double no_bytes) bs && same k kind.Binary
residual BinaryDigits k bs = many is_ascii_hexdigit (one is_double no_bytes) bs && same k kind.Binary
residual BinaryEnd k bs = no_bytes bs && same k kind.Binary
residual Mark k bs = no_bytes bs && same k kind.Mark

abbrev pub after : Option State → TokenKind → List ℕ → Bool
after None k bs = false
after (Some s) k bs = residual s k bs

-- a byte that passes one of two tests, which no byte passes both of
choice : (p q x y : Bool) (s : State) (t : Option State) (k : TokenKind) (bs : List ℕ) (m : Bool)
    → (p ≡ true → q ≡ false) → residual s k bs ≡ (x && m) → after t k bs ≡ ((q && y) && m)
    → (((p && x) || (q && y)) && m) ≡ after (cond p (Some s) t) k bs
choice true true x y s t k bs m apart first second = absurd (true≢false (apart refl))
choice true false true y s t k bs m apart first second = sym first
choice true false false y s t k bs m apart first second = sym first
choice false q x y s t k bs m apart first second = sym second

goes : (q y m : Bool) (s : State) (k : TokenKind) (bs : List ℕ) → residual s k bs ≡ (y && m) → after (go q s) k bs ≡ ((q && y) && m)
goes true y m s k bs e = e
goes false y m s k bs e = refl

-- a test for one byte
pub at_byte : (P : ℕ → Type 0) (b n : ℕ) → (b == n) ≡ true → P n → P b
at_byte P b n e h = subst P (sym (eqb-true b n e)) h

point-word : (b : ℕ) → is_point b ≡ true → is_word_byte b ≡ false
point-word b e = at_byte (λ x. is_word_byte x ≡ false) b 46 e refl

double-hex : (b : ℕ) → is_double b ≡ true → is_ascii_hexdigit b ≡ false
double-hex b e = at_byte (λ x. is_ascii_hexdigit x ≡ false) b 34 e refl

exponent-digit : (b : ℕ) → is_exponent b ≡ true → is_ascii_digit b ≡ false
exponent-digit b e = elim (or_cases _ _ e) [ inl f ↦ at_byte (λ x. is_ascii_digit x ≡ false) b 69 f refl | inr f ↦ at_byte (λ x. is_ascii_digit x ≡ false) b 101 f refl ]

pub step-Bang : (k : TokenKind) (b : ℕ) (bs : List ℕ) → residual Bang k (b ∷ bs) ≡ after (step_of Bang b) k bs
step-Bang k b bs = grind arith

pub step-Word : (k : TokenKind) (b : ℕ) (bs : List ℕ) → residual Word k (b ∷ bs) ≡ after (step_of Word b) k bs
step-Word k b bs = grind arith

pub step-Hash : (k : TokenKind) (b : ℕ) (bs : List ℕ) → residual Hash k (b ∷ bs) ≡ after (step_of Hash b) k bs
step-Hash k b bs = grind arith

pub step-Sign : (k : TokenKind) (b : ℕ) (bs : List ℕ) → residual Sign k (b ∷ bs) ≡ after (step_of Sign b) k bs
step-Sign k b bs = grind arith

pub step-Digits : (k : TokenKind) (b : ℕ) (bs : List ℕ) → residual Digits k (b ∷ bs) ≡ after (step_of Digits b) k bs
step-Digits k b bs = grind arith

pub step-Fraction : (k : TokenKind) (b : ℕ) (bs : List ℕ) → residual Fraction k (b ∷ bs) ≡ after (step_of Fraction b) k bs
step-Fraction k b bs = choice (is_exponent b) (is_ascii_digit b) _ _ Exponent _ k bs _ (exponent-digit b) refl (goes (is_ascii_digit b) _ _ Fraction k bs refl)

pub step-Exponent : (k : TokenKind) (b : ℕ) (bs : List ℕ) → residual Exponent k (b ∷ bs) ≡ after (step_of Exponent b) k bs
step-Exponent k b bs = grind arith

pub step-ExponentSign : (k : TokenKind) (b : ℕ) (bs : List ℕ) → residual ExponentSign k (b ∷ bs) ≡ after (step_of ExponentSign b) k bs
step-ExponentSign k b bs = grind arith

pub step-ExponentDigits : (k : TokenKind) (b : ℕ) (bs : List ℕ) → residual ExponentDigits k (b ∷ bs) ≡ after (step_of ExponentDigits b) k bs
step-ExponentDigits k b bs = grind arith

pub step-Quoted : (k : TokenKind) (b : ℕ) (bs : List ℕ) → residual Quoted k (b ∷ bs) ≡ after (step_of Quoted b) k bs
step-Quoted k b [] = grind arith
step-Quoted k b (c ∷ bs) = grind arith

pub step-Quote : (k : TokenKind) (b : ℕ) (bs : List ℕ) → residual Quote k (b ∷ bs) ≡ after (step_of Quote b) k bs
step-Quote k b bs = grind arith

pub step-Point : (k : TokenKind) (b : ℕ) (bs : List ℕ) → residual Point k (b ∷ bs) ≡ after (step_of Point b) k bs
step-Point k b bs = grind arith

pub step-Name : (k : TokenKind) (b : ℕ) (bs : List ℕ) → residual Name k (b ∷ bs) ≡ after (step_of Name b) k bs
step-Name k b bs = choice (is_point b) (is_word_byte b) _ _ NameEnd _ k bs _ (point-word b) refl (goes (is_word_byte b) _ _ Name k bs refl)

pub step-NameEnd : (k : TokenKind) (b : ℕ) (bs : List ℕ) → residual NameEnd k (b ∷ bs) ≡ after (step_of NameEnd b) k bs
step-NameEnd k b bs = grind arith

pub step-BinaryStart : (k : TokenKind) (b : ℕ) (bs : List ℕ) → residual BinaryStart k (b ∷ bs) ≡ after (step_of BinaryStart b) k bs
step-BinaryStart k b bs = grind arith

pub step-BinaryDigits : (k : TokenKind) (b : ℕ) (bs : List ℕ) → residual BinaryDigits k (b ∷ bs) ≡ after (step_of BinaryDigits b) k bs
step-BinaryDigits k b bs = choice (is_double b) (is_ascii_hexdigit b) _ _ BinaryEnd _ k bs _ (double-hex b) refl (goes (is_ascii_hexdigit b) _ _ BinaryDigits k bs refl)

pub step-BinaryEnd : (k : TokenKind) (b : ℕ) (bs : List ℕ) → residual BinaryEnd k (b ∷ bs) ≡ after (step_of BinaryEnd b) k bs
step-BinaryEnd k b bs = grind arith

pub step-Mark : (k : TokenKind) (b : ℕ) (bs : List ℕ) → residual Mark k (b ∷ bs) ≡ after (step_of Mark b) k bs
step-Mark k b bs = grind arith

pub step-Number : (left : ℕ) (k : TokenKind) (b : ℕ) (bs : List ℕ) → residual (Number left) k (b ∷ bs) ≡ after (step_of (Number left) b) k bs
step-Number zero k b bs = refl
step-Number (suc left) k b bs = grind arith
