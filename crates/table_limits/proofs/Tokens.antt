-- The tokens of a file: its numbers have at most 18 digits, and it has no more tokens than bytes.
use Rattle.std.proofs.Common.{◌≡◌, ◌≤◌, ◌<◌, ◌+◌, ◌^◌, inl, inr, ℕ, zero, suc, true, List, [], ◌∷◌, length, drop, All, refl, sym, ap, subst, arith, lit<}
use Rattle.std.proofs.Math.Nat.{pow-le-pow_right}
use Rattle.std.proofs.lemmas.List.Elements.{All-head, All-tail}
use Rattle.std.specs.Char.{IsAsciiDigit}
use Rattle.std.specs.List.{AllZip}
use Rattle.spec_num.specs.Decimals.{value}
use Rattle.spec_step.specs.Spelling.{is_spelled}
use Rattle.spec_step.specs.Gaps.{IsPiece, Pieces, Between}
use Rattle.spec_step.specs.Lexemes.{Lexeme, IsToken, Reads, HasTokens}
use Rattle.spec_step.specs.Grammar.{Want, start_word, end_word, word, mark, spanned, head_keyword, reference, number, ending, IsAs}
use Rattle.spec_step.specs.declared.token.TokenKind.{TokenKind}
use Rattle.spec_step.specs.declared.token.TokenKind.TheVariants as kind
use Rattle.step_grammar.proofs.Digits.{FewDigits, number_digits}
use Rattle.ix_num.specs.Magnitudes.{AreDigits}
use Rattle.ix_num.proofs.Digits.{value_lt}
use Rattle.spec_check.specs.Limits.{IsShort}
use Rattle.table_limits.proofs.Kept.{Each}

-- Numbers.

are_digits : (ds : List ℕ) → All IsAsciiDigit ds → AreDigits ds
are_digits [] h = tt
are_digits (c ∷ cs) h =
    let first = All-head IsAsciiDigit c cs h in
    (first.0, first.1, are_digits cs (All-tail IsAsciiDigit c cs h))

digits_short : (ds : List ℕ) → FewDigits 18 ds → value ds < 10 ^ 18
digits_short ds h =
    let below : value ds < 10 ^ length ds = value_lt ds (are_digits ds h.0) in
    let most : 10 ^ length ds ≤ 10 ^ 18 = pow-le-pow_right (lit< tt) h.1 in
    omega (arith, below, most)

number_short : (n : ℕ) (l : Lexeme) → l.kind ≡ kind.Number → value (drop 1 l.text) ≡ n → IsToken l → IsShort n
number_short n l k v h =
    let below : value (drop 1 l.text) < 10 ^ 18 = digits_short (drop 1 l.text) (number_digits l.text (subst (λ (c : TokenKind). is_spelled c l.text ≡ true) k h)) in
    omega (arith, below, v)

-- a number that the grammar wants is short
abbrev pub IsShortWant : Want → Type 0
IsShortWant (reference n) = IsShort n
IsShortWant (number n from) = IsShort n
IsShortWant w = Unit {0}

as_short : (w : Want) (l : Lexeme) → IsAs w l → IsToken l → IsShortWant w
as_short start_word l h t = tt
as_short end_word l h t = tt
as_short (word text) l h t = tt
as_short (mark b) l h t = tt
as_short (spanned k p) l h t = tt
as_short (head_keyword p) l h t = tt
as_short (reference n) l h t = number_short n l h.0 h.1 t
as_short (number n from) l h t = number_short n l h.0 h.1 t
as_short (ending end) l h t = tt

-- what the grammar wants of a file: short numbers, and not more than the bytes that may be read
pub record AreShort (ws : List Want) : Type 0 where
  pub each : Each IsShortWant ws
  pub many : length ws ≤ 2 ^ 27

all_short : (ws : List Want) (ls : List Lexeme) → AllZip IsAs ws ls → Each IsToken ls → Each IsShortWant ws
all_short [] [] h t = tt
all_short [] (l ∷ ls) h t = absurd h
all_short (w ∷ ws) [] h t = absurd h
all_short (w ∷ ws) (l ∷ ls) h t = (as_short w l h.0 t.0, all_short ws ls h.1 t.1)

as_many : (ws : List Want) (ls : List Lexeme) → AllZip IsAs ws ls → length ws ≡ length ls
as_many [] [] h = refl
as_many [] (l ∷ ls) h = absurd h
as_many (w ∷ ws) [] h = absurd h
as_many (w ∷ ws) (l ∷ ls) h = ap suc (as_many ws ls h.1)

-- Places.

piece_rises : (s : List ℕ) (i j : ℕ) → IsPiece s i j → i ≤ j
piece_rises s i j (inl blank) = omega (arith, blank.2)
piece_rises s i j (inr comment) = omega (arith, comment.room)

pieces_rise : (s : List ℕ) (n i j : ℕ) → Pieces s n i j → i ≤ j
pieces_rise s zero i j h = omega (arith, h)
pieces_rise s (suc n) i j h = omega (arith, piece_rises s i h.0 h.1, pieces_rise s n h.0 j h.2)

between_rises : (s : List ℕ) (i j : ℕ) → Between s i j → i ≤ j
between_rises s i j h = pieces_rise s h.0 i j h.1

tokens_read : (s : List ℕ) (at : ℕ) (ls : List Lexeme) (to : ℕ) → Reads s at ls to → Each IsToken ls
tokens_read s at [] to h = tt
tokens_read s at (l ∷ ls) to h =
    let t = h.0 in
    (subst IsToken (sym h.2) h.1.2.token, tokens_read s t.end ls to h.3)

step_rises : (at from end count to : ℕ) → at ≤ from → from < end → end + count ≤ to → at + suc count ≤ to
step_rises at from end count to h k m = omega (arith, h, k, m)

places_read : (s : List ℕ) (at : ℕ) (ls : List Lexeme) (to : ℕ) → Reads s at ls to → at + length ls ≤ to
places_read s at [] to h = omega (arith, h)
places_read s at (l ∷ ls) to h =
    let t = h.0 in
    step_rises at t.from t.end (length ls) to (between_rises s at t.from h.1.0.gap) h.1.1 (places_read s t.end ls to h.3)

pub file_short : (s : List ℕ) (ls : List Lexeme) (ws : List Want) → HasTokens s ls → AllZip IsAs ws ls → length s ≤ 2 ^ 27 → AreShort ws
file_short s ls ws h z small =
    let last : h.0 ≤ length s = between_rises s h.0 (length s) h.2 in
    let read : 0 + length ls ≤ h.0 = places_read s 0 ls h.0 h.1 in
    record { each = all_short ws ls z (tokens_read s 0 ls h.0 h.1); many = omega (arith, as_many ws ls z, last, read, small) }
