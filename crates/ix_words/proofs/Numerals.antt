-- A numeral is parsed as its number.
use Rattle.std.proofs.Common.{◌≡◌, ℕ, ◌≤◌, ◌<◌, ◌^◌, Bool, true, false, List, [], ◌∷◌, length, Result, Ok, refl, sym, ap, ◌∙◌, arith}
use Rattle.std.specs.Prelude.{◌==◌, not, ◌&&◌, nat_le}
use Rattle.std.specs.List.{list_all}
use Rattle.std.specs.Char.{is_ascii_digit}
use Rattle.std.specs.Str.{all_ascii_digits}
use Rattle.std.specs.Str.Parse.{digits_value, ParsesUnsigned}
use Rattle.std.proofs.lemmas.Bool.{leb-true, true≢false}
use Rattle.std.proofs.lemmas.Str.Parse.{tells_all_ascii_digits, numerals_by_value, digits_value_short, parse_gives}
use Rattle.ix_words.specs.Words.{is_numeral}

pub and_left : (a b : Bool) → (a && b) ≡ true → a ≡ true
and_left true b e = refl
and_left false b e = e

pub and_right : (a b : Bool) → (a && b) ≡ true → b ≡ true
and_right true b e = e
and_right false b e = cc

digits_all : (cs : List ℕ) → all_ascii_digits cs ≡ list_all is_ascii_digit cs
digits_all [] = refl
digits_all (c ∷ cs) = ap (λ b. is_ascii_digit c && b) (digits_all cs)

record IsNumeral (text : List ℕ) : Type 0 where
  digits : all_ascii_digits text ≡ true
  some : 0 < length text
  short : length text ≤ 18

numeral_is : (text : List ℕ) → is_numeral text ≡ true → IsNumeral text
numeral_is [] e = absurd (true≢false (sym e))
numeral_is (c ∷ cs) e =
    let size = nat_le (length (c ∷ cs)) 18 in
    let digits = list_all is_ascii_digit (c ∷ cs) in
    let rest : (size && digits) ≡ true = and_right (not (c == 48)) (size && digits) e in
    record {
      digits = digits_all (c ∷ cs) ∙ and_right size digits rest;
      some = omega arith;
      short = leb-true (length (c ∷ cs)) 18 (and_left size digits rest);
    }

pub number_read : {E : Type 0} (text : List ℕ) (r : Result ℕ E) → ParsesUnsigned 64 10 text r → is_numeral text ≡ true → r ≡ Ok (digits_value 10 text)
number_read text r h e =
    let numeral = numeral_is text e in
    let own = numerals_by_value (λ ds. all_ascii_digits ds ≡ true) tells_all_ascii_digits in
    let below : digits_value 10 text < 10 ^ 18 = digits_value_short own text 18 numeral.digits numeral.short in
    parse_gives own 64 text r h numeral.digits numeral.some (omega (arith, below))
