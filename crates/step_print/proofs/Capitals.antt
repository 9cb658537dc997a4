-- A keyword in capitals is a keyword, of the same letters.
use Rattle.std.proofs.Common.{◌≡◌, ℕ, true, ◌==◌, ◌&&◌, ◌||◌, List, [], ◌∷◌, refl, ◌∙◌, ap, arith, cond}
use Rattle.std.proofs.lemmas.Bool.Decides.{nat_tests}
use Rattle.std.specs.Char.{to_ascii_uppercase, to_ascii_lowercase}
use Rattle.std.specs.Str.{str_to_ascii_uppercase, str_to_ascii_lowercase, str_eq_ignore_ascii_case, bytes_eq}
use Rattle.spec_step.specs.Spelling.{is_letter, is_word_byte, no_bytes, one, many, is_spelled}
use Rattle.spec_step.specs.Kinds.{is_keyword_kind, is_mark_kind}
use Rattle.spec_step.specs.declared.token.TokenKind.{TokenKind}
use Rattle.spec_step.specs.declared.token.TokenKind.TheVariants as kind

letter_up : (b : ℕ) → is_letter (to_ascii_uppercase b) ≡ is_letter b
letter_up b = grind (arith, nat_tests)

word_up : (b : ℕ) → is_word_byte (to_ascii_uppercase b) ≡ is_word_byte b
word_up b = grind (arith, nat_tests)

bang_up : (b : ℕ) → (to_ascii_uppercase b == 33) ≡ (b == 33)
bang_up b = grind (arith, nat_tests)

up_up : (b : ℕ) → to_ascii_uppercase (to_ascii_uppercase b) ≡ to_ascii_uppercase b
up_up b = grind (arith, nat_tests)

low_up : (b : ℕ) → to_ascii_lowercase (to_ascii_uppercase b) ≡ to_ascii_lowercase b
low_up b = grind (arith, nat_tests)

ups_ups : (bs : List ℕ) → str_to_ascii_uppercase (str_to_ascii_uppercase bs) ≡ str_to_ascii_uppercase bs
ups_ups [] = refl
ups_ups (b ∷ bs) = ap (λ x. x ∷ str_to_ascii_uppercase (str_to_ascii_uppercase bs)) (up_up b) ∙ ap (λ l. to_ascii_uppercase b ∷ l) (ups_ups bs)

lows_ups : (bs : List ℕ) → str_to_ascii_lowercase (str_to_ascii_uppercase bs) ≡ str_to_ascii_lowercase bs
lows_ups [] = refl
lows_ups (b ∷ bs) = ap (λ x. x ∷ str_to_ascii_lowercase (str_to_ascii_uppercase bs)) (low_up b) ∙ ap (λ l. to_ascii_lowercase b ∷ l) (lows_ups bs)

-- letters in capitals are the same in any case
pub same_letters : (text w : List ℕ) → str_eq_ignore_ascii_case (str_to_ascii_uppercase text) w ≡ str_eq_ignore_ascii_case text w
same_letters text w = ap (λ l. bytes_eq l (str_to_ascii_lowercase w)) (lows_ups text)

words_up : (bs : List ℕ) → many is_word_byte no_bytes (str_to_ascii_uppercase bs) ≡ many is_word_byte no_bytes bs
words_up [] = refl
words_up (b ∷ bs) = ap (λ x. x && many is_word_byte no_bytes (str_to_ascii_uppercase bs)) (word_up b) ∙ ap (λ x. is_word_byte b && x) (words_up bs)

name_up : (bs : List ℕ) → one is_letter (many is_word_byte no_bytes) (str_to_ascii_uppercase bs) ≡ one is_letter (many is_word_byte no_bytes) bs
name_up [] = refl
name_up (b ∷ bs) = ap (λ x. x && many is_word_byte no_bytes (str_to_ascii_uppercase bs)) (letter_up b) ∙ ap (λ x. is_letter b && x) (words_up bs)

keyword_up : (bs : List ℕ) → is_spelled kind.Keyword (str_to_ascii_uppercase bs) ≡ is_spelled kind.Keyword bs
keyword_up [] = refl
keyword_up (b ∷ bs) =
    ap (λ x. x || ((to_ascii_uppercase b == 33) && one is_letter (many is_word_byte no_bytes) (str_to_ascii_uppercase bs))) (name_up (b ∷ bs))
    ∙ ap (λ x. one is_letter (many is_word_byte no_bytes) (b ∷ bs) || (x && one is_letter (many is_word_byte no_bytes) (str_to_ascii_uppercase bs))) (bang_up b)
    ∙ ap (λ x. one is_letter (many is_word_byte no_bytes) (b ∷ bs) || ((b == 33) && x)) (name_up bs)

-- what is printed of a token
abbrev pub printed_text : TokenKind → List ℕ → List ℕ
printed_text k text = cond (is_keyword_kind k) (str_to_ascii_uppercase text) text

-- is a token of the kind
pub printed_spelled : (k : TokenKind) (text : List ℕ) → is_spelled k text ≡ true → is_spelled k (printed_text k text) ≡ true
printed_spelled kind.Keyword text e = keyword_up text ∙ e
printed_spelled kind.StartWord text e = e
printed_spelled kind.EndWord text e = e
printed_spelled kind.Number text e = e
printed_spelled kind.Int text e = e
printed_spelled kind.Real text e = e
printed_spelled kind.Text text e = e
printed_spelled kind.Enumeration text e = e
printed_spelled kind.Binary text e = e
printed_spelled kind.Mark text e = e

-- and is printed as it is
pub printed_twice : (k : TokenKind) (text : List ℕ) → printed_text k (printed_text k text) ≡ printed_text k text
printed_twice kind.Keyword text = ups_ups text
printed_twice kind.StartWord text = refl
printed_twice kind.EndWord text = refl
printed_twice kind.Number text = refl
printed_twice kind.Int text = refl
printed_twice kind.Real text = refl
printed_twice kind.Text text = refl
printed_twice kind.Enumeration text = refl
printed_twice kind.Binary text = refl
printed_twice kind.Mark text = refl

-- marks are printed as they are
pub printed_mark : (k : TokenKind) (text w : List ℕ) → (is_mark_kind k && bytes_eq (printed_text k text) w) ≡ (is_mark_kind k && bytes_eq text w)
printed_mark kind.Keyword text w = refl
printed_mark kind.StartWord text w = refl
printed_mark kind.EndWord text w = refl
printed_mark kind.Number text w = refl
printed_mark kind.Int text w = refl
printed_mark kind.Real text w = refl
printed_mark kind.Text text w = refl
printed_mark kind.Enumeration text w = refl
printed_mark kind.Binary text w = refl
printed_mark kind.Mark text w = refl
