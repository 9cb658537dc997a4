-- Sizes in metres at the front of a text.
use Rattle.std.proofs.Common.{◌≡◌, ℕ, ◌+◌, ◌*◌, ◌-◌, ◌/◌, ◌%◌, ◌<◌, ◌^◌, ◌≤◌, true, List, [], ◌∷◌, ◌++◌, refl, sym, ap, ◌∙◌, arith, append_assoc, length, get_or}
use Rattle.std.specs.Prelude.{nat_le}
use Rattle.std.specs.List.{list_all}
use Rattle.std.specs.Char.{is_ascii_digit}
use Rattle.std.proofs.lemmas.Bool.{leb-true}
use Rattle.std.specs.Fmt.{decimal}
use Rattle.spec_page.specs.Lines.{six_digits, size_in_metres}
use Rattle.obj_lines.specs.Templates.{IsFrontOf, IsSize}
use Rattle.obj_lines.proofs.Digits.{and_left, and_right, starts_with_digit}
use Rattle.obj_lines.proofs.Signed.{HasNoMinus}

-- six digits behind a point
abbrev pub part_text : ℕ → List ℕ
part_text n = 46 ∷ six_digits n

abbrev pub IsPart : ℕ → Type 0
IsPart n = n < 10 ^ 6

pub metres_plain : HasNoMinus size_in_metres
metres_plain n r more h e =
    starts_with_digit (n / 1000000) 45 (part_text (n % 1000000) ++ r) more (omega arith) refl (sym (append_assoc (decimal (n / 1000000)) (part_text (n % 1000000)) r) ∙ e)

module _ (text : List ℕ) (whole : ℕ) (point : List ℕ) (front : IsFrontOf decimal IsSize text whole point) where
  -- the whole metres, and the part of a metre behind them
  parts : (n : ℕ) (more : List ℕ) → IsSize n → size_in_metres n ++ more ≡ text → (n / 1000000 ≡ whole) × (part_text (n % 1000000) ++ more ≡ point)
  parts n more h e = front.sole (n / 1000000) (part_text (n % 1000000) ++ more) (omega arith) refl (sym (append_assoc (decimal (n / 1000000)) (part_text (n % 1000000)) more) ∙ e)

  module _ (part : ℕ) (rest : List ℕ) (behind : IsFrontOf part_text IsPart point part rest) where
    pub metres_front : (n : ℕ) → IsSize n → n ≡ whole * 1000000 + part → IsFrontOf size_in_metres IsSize text n rest
    metres_front n small is =
        let small_part : part < 1000000 = behind.within in
        let high : n / 1000000 ≡ whole = omega arith in
        let low : n % 1000000 ≡ part = omega arith in
        record {
          text_is = ap (λ t. t ++ rest) (rw (high, low) refl) ∙ append_assoc (decimal whole) (part_text part) rest ∙ ap (λ t. decimal whole ++ t) behind.text_is ∙ front.text_is;
          within = small;
          ends = behind.ends;
          sole = λ m more h k e.
              let p = parts m more h e in
              let q = behind.sole (m % 1000000) more (omega arith) k p.1 in
              (omega (arith, p.0, q.0), q.1);
        }

-- the number of six digits
six_are : (n a b c d e f : ℕ) → n ≡ a * 100000 + b * 10000 + c * 1000 + (d * 100 + e * 10 + f) → a < 10 → b < 10 → c < 10 → d < 10 → e < 10 → f < 10
    → six_digits n ≡ (48 + a) ∷ (48 + b) ∷ (48 + c) ∷ (48 + d) ∷ (48 + e) ∷ (48 + f) ∷ []
six_are n a b c d e f is p q r s t u =
    cells (48 + n / 100000) (48 + n / 10000 % 10) (48 + n / 1000 % 10) (48 + n / 100 % 10) (48 + n / 10 % 10) (48 + n % 10)
    (48 + a) (48 + b) (48 + c) (48 + d) (48 + e) (48 + f) (omega arith) (omega arith) (omega arith) (omega arith) (omega arith) (omega arith)
  where
    cells : (a b c d e f g h i j k l : ℕ) → a ≡ g → b ≡ h → c ≡ i → d ≡ j → e ≡ k → f ≡ l → a ∷ b ∷ c ∷ d ∷ e ∷ f ∷ [] ≡ g ∷ h ∷ i ∷ j ∷ k ∷ l ∷ []
    cells a b c d e f g h i j k l p q r s t u = cc

is_digit : (c : ℕ) → is_ascii_digit c ≡ true → (48 ≤ c) × (c ≤ 57)
is_digit c e = (leb-true 48 c (and_left (nat_le 48 c) (nat_le c 57) e), leb-true c 57 (and_right (nat_le 48 c) (nat_le c 57) e))

abbrev pub number_at_six : List ℕ → ℕ
number_at_six ds =
    (get_or ds 0 0 - 48) * 100000 + (get_or ds 1 0 - 48) * 10000 + (get_or ds 2 0 - 48) * 1000 + ((get_or ds 3 0 - 48) * 100 + (get_or ds 4 0 - 48) * 10 + (get_or ds 5 0 - 48))

pub six_spelled : (ds : List ℕ) → length ds ≡ 6 → list_all is_ascii_digit ds ≡ true → (number_at_six ds < 10 ^ 6) × (six_digits (number_at_six ds) ≡ ds)
six_spelled (a ∷ b ∷ c ∷ d ∷ e ∷ f ∷ []) h digits =
    let p = and_right (is_ascii_digit a) (list_all is_ascii_digit (b ∷ c ∷ d ∷ e ∷ f ∷ [])) digits in
    let q = and_right (is_ascii_digit b) (list_all is_ascii_digit (c ∷ d ∷ e ∷ f ∷ [])) p in
    let r = and_right (is_ascii_digit c) (list_all is_ascii_digit (d ∷ e ∷ f ∷ [])) q in
    let s = and_right (is_ascii_digit d) (list_all is_ascii_digit (e ∷ f ∷ [])) r in
    let t = and_right (is_ascii_digit e) (list_all is_ascii_digit (f ∷ [])) s in
    by a b c d e f
    (is_digit a (and_left (is_ascii_digit a) (list_all is_ascii_digit (b ∷ c ∷ d ∷ e ∷ f ∷ [])) digits)) (is_digit b (and_left (is_ascii_digit b) (list_all is_ascii_digit (c ∷ d ∷ e ∷ f ∷ [])) p))
    (is_digit c (and_left (is_ascii_digit c) (list_all is_ascii_digit (d ∷ e ∷ f ∷ [])) q)) (is_digit d (and_left (is_ascii_digit d) (list_all is_ascii_digit (e ∷ f ∷ [])) r))
    (is_digit e (and_left (is_ascii_digit e) (list_all is_ascii_digit (f ∷ [])) s)) (is_digit f (and_left (is_ascii_digit f) true t))
  where
    back : (c : ℕ) → 48 ≤ c → 48 + (c - 48) ≡ c
    back c h = omega arith

    cells : (a b c d e f g h i j k l : ℕ) → a ≡ g → b ≡ h → c ≡ i → d ≡ j → e ≡ k → f ≡ l → a ∷ b ∷ c ∷ d ∷ e ∷ f ∷ [] ≡ g ∷ h ∷ i ∷ j ∷ k ∷ l ∷ []
    cells a b c d e f g h i j k l p q r s t u = cc

    by : (a b c d e f : ℕ) → (48 ≤ a) × (a ≤ 57) → (48 ≤ b) × (b ≤ 57) → (48 ≤ c) × (c ≤ 57) → (48 ≤ d) × (d ≤ 57) → (48 ≤ e) × (e ≤ 57) → (48 ≤ f) × (f ≤ 57)
        → (number_at_six (a ∷ b ∷ c ∷ d ∷ e ∷ f ∷ []) < 10 ^ 6) × (six_digits (number_at_six (a ∷ b ∷ c ∷ d ∷ e ∷ f ∷ [])) ≡ a ∷ b ∷ c ∷ d ∷ e ∷ f ∷ [])
    by a b c d e f p q r s t u = (
      omega (arith, p, q, r, s, t, u),
      six_are (number_at_six (a ∷ b ∷ c ∷ d ∷ e ∷ f ∷ [])) (a - 48) (b - 48) (c - 48) (d - 48) (e - 48) (f - 48) refl (omega (arith, p)) (omega (arith, q)) (omega (arith, r)) (omega (arith, s)) (omega (arith, t)) (omega (arith, u))
          ∙ cells (48 + (a - 48)) (48 + (b - 48)) (48 + (c - 48)) (48 + (d - 48)) (48 + (e - 48)) (48 + (f - 48)) a b c d e f (back a p.0) (back b q.0) (back c r.0) (back d s.0) (back e t.0) (back f u.0),
    )
six_spelled _ h digits = absurd (omega arith)
