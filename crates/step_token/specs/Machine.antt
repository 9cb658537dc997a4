-- The states in which a token is read, byte by byte.
use Rattle.std.specs.Prelude.{ℕ, ◌-◌, Bool, ◌==◌, Option, Some, None, if◌then◌else◌}
use Rattle.std.specs.Char.{is_ascii_digit, is_ascii_hexdigit}
use Rattle.spec_num.specs.Decimals.{is_sign, is_exponent}
use Rattle.spec_step.specs.Spelling.{is_letter, is_word_byte, is_mark}
use Rattle.spec_step.specs.declared.token.TokenKind.{TokenKind}
use Rattle.spec_step.specs.declared.token.TokenKind.TheVariants as kind
use Rattle.step_token.specs.declared.machine.State.{State}
use Rattle.step_token.specs.declared.machine.State.TheVariants.{Start, Bang, Word, Hash, Number, Sign, Digits, Fraction, Exponent, ExponentSign, ExponentDigits, Quoted, Quote, Point, Name, NameEnd, BinaryStart, BinaryDigits, BinaryEnd, Mark}

abbrev pub go : Bool → State → Option State
go passes next = if passes then Some next else None

abbrev pub first_of : ℕ → Option State
first_of b =
    if is_letter b then Some Word
    else (if is_ascii_digit b then Some Digits
    else (if is_sign b then Some Sign
    else (if is_mark b then Some Mark
    else (if b == 33 then Some Bang
    else (if b == 35 then Some Hash
    else (if b == 39 then Some Quoted
    else (if b == 46 then Some Point
    else (if b == 34 then Some BinaryStart
    else None))))))))

abbrev pub step_of : State → ℕ → Option State
step_of Start b = first_of b
step_of Bang b = go (is_letter b) Word
step_of Word b = go (is_word_byte b) Word
step_of Hash b = go (is_ascii_digit b) (Number 17)
step_of (Number left) b = if left == 0 then None else go (is_ascii_digit b) (Number (left - 1))
step_of Sign b = go (is_ascii_digit b) Digits
step_of Digits b = if b == 46 then Some Fraction else go (is_ascii_digit b) Digits
step_of Fraction b = if is_exponent b then Some Exponent else go (is_ascii_digit b) Fraction
step_of Exponent b = if is_sign b then Some ExponentSign else go (is_ascii_digit b) ExponentDigits
step_of ExponentSign b = go (is_ascii_digit b) ExponentDigits
step_of ExponentDigits b = go (is_ascii_digit b) ExponentDigits
step_of Quoted b = if b == 39 then Some Quote else Some Quoted
step_of Quote b = go (b == 39) Quoted
step_of Point b = go (is_letter b) Name
step_of Name b = if b == 46 then Some NameEnd else go (is_word_byte b) Name
step_of NameEnd b = None
step_of BinaryStart b = go (is_ascii_hexdigit b) BinaryDigits
step_of BinaryDigits b = if b == 34 then Some BinaryEnd else go (is_ascii_hexdigit b) BinaryDigits
step_of BinaryEnd b = None
step_of Mark b = None

abbrev pub accepted_kind : State → Option TokenKind
accepted_kind Word = Some kind.Keyword
accepted_kind (Number left) = Some kind.Number
accepted_kind Digits = Some kind.Int
accepted_kind Fraction = Some kind.Real
accepted_kind ExponentDigits = Some kind.Real
accepted_kind Quote = Some kind.Text
accepted_kind NameEnd = Some kind.Enumeration
accepted_kind BinaryEnd = Some kind.Binary
accepted_kind Mark = Some kind.Mark
accepted_kind Start = None
accepted_kind Bang = None
accepted_kind Hash = None
accepted_kind Sign = None
accepted_kind Exponent = None
accepted_kind ExponentSign = None
accepted_kind Quoted = None
accepted_kind Point = None
accepted_kind Name = None
accepted_kind BinaryStart = None
accepted_kind BinaryDigits = None

-- a token that may end here is longer than the best before it
abbrev pub better_of : Option (TokenKind × ℕ) → Option TokenKind → ℕ → Option (TokenKind × ℕ)
better_of best None n = best
better_of best (Some kind) n = Some (kind, n)
