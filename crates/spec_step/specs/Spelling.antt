-- The spellings of the tokens, by ISO 10303-21 with this project's leniencies: small letters in keywords and before
-- an exponent, hexadecimal digits of either case. A part of a spelling takes what follows it, and answers which bytes
-- are spelled so.
use Rattle.std.specs.Prelude.{ℕ, Bool, true, false, ◌&&◌, ◌||◌, ◌==◌, List, [], ◌∷◌, zero, suc, if◌then◌else◌, codes}
use Rattle.std.specs.Char.{is_ascii_digit, is_ascii_alphabetic, is_ascii_hexdigit}
use Rattle.spec_num.specs.Decimals.{is_sign, is_exponent}
use Rattle.spec_step.specs.declared.token.TokenKind.{TokenKind}
use Rattle.spec_step.specs.declared.token.TokenKind.TheVariants.{StartWord, EndWord, Keyword, Number, Int, Real, Text, Enumeration, Binary, Mark}

abbrev pub Part : Type 0
Part = List ℕ → Bool

abbrev pub is_letter : ℕ → Bool
is_letter b = is_ascii_alphabetic b || (b == 95)

abbrev pub is_word_byte : ℕ → Bool
is_word_byte b = is_letter b || is_ascii_digit b

-- one of ; = ( ) , $ *
abbrev pub is_mark : ℕ → Bool
is_mark b = (((((b == 59 || b == 61) || b == 40) || b == 41) || b == 44) || b == 36) || b == 42

abbrev pub no_bytes : Part
no_bytes [] = true
no_bytes (b ∷ bs) = false

-- one byte that passes
abbrev pub one : (ℕ → Bool) → Part → Part
one p next [] = false
one p next (b ∷ bs) = p b && next bs

abbrev pub maybe : (ℕ → Bool) → Part → Part
maybe p next bs = next bs || one p next bs

-- none or more
abbrev pub many : (ℕ → Bool) → Part → Part
many p next [] = next []
many p next (b ∷ bs) = next (b ∷ bs) || (p b && many p next bs)

-- at least one
abbrev pub some : (ℕ → Bool) → Part → Part
some p next = one p (many p next)

-- at most n
abbrev pub up_to : ℕ → (ℕ → Bool) → Part → Part
up_to zero p next bs = next bs
up_to (suc n) p next bs = next bs || one p (up_to n p next) bs

-- bytes in which a quote is doubled, and then a quote
abbrev pub text_rest : Part
text_rest [] = false
text_rest (b ∷ []) = b == 39
text_rest (b ∷ c ∷ bs) = if b == 39 then (c == 39) && text_rest bs else text_rest (c ∷ bs)

abbrev pub exponent : Part
exponent = one is_exponent (maybe is_sign (some is_ascii_digit no_bytes))

abbrev pub fraction : Part
fraction = many is_ascii_digit (λ bs. no_bytes bs || exponent bs)

-- the table of spellings, but for the two words that frame a file
abbrev pub by_class : TokenKind → Part
by_class StartWord = λ bs. false
by_class EndWord = λ bs. false
by_class Keyword = maybe (λ b. b == 33) (one is_letter (many is_word_byte no_bytes))
by_class Number = one (λ b. b == 35) (one is_ascii_digit (up_to 17 is_ascii_digit no_bytes))
by_class Int = maybe is_sign (some is_ascii_digit no_bytes)
by_class Real = maybe is_sign (some is_ascii_digit (one (λ b. b == 46) fraction))
by_class Text = one (λ b. b == 39) text_rest
by_class Enumeration = one (λ b. b == 46) (one is_letter (many is_word_byte (one (λ b. b == 46) no_bytes)))
by_class Binary = one (λ b. b == 34) (some is_ascii_hexdigit (one (λ b. b == 34) no_bytes))
by_class Mark = one is_mark no_bytes

-- these bytes
abbrev pub word : List ℕ → Part → Part
word [] next = next
word (c ∷ cs) next = one (λ b. b == c) (word cs next)

-- the table of spellings
abbrev pub is_spelled : TokenKind → Part
is_spelled StartWord = word (codes "ISO-10303-21") no_bytes
is_spelled EndWord = word (codes "END-ISO-10303-21") no_bytes
is_spelled Keyword = by_class Keyword
is_spelled Number = by_class Number
is_spelled Int = by_class Int
is_spelled Real = by_class Real
is_spelled Text = by_class Text
is_spelled Enumeration = by_class Enumeration
is_spelled Binary = by_class Binary
is_spelled Mark = by_class Mark
