-- Powers of ten so far off that a greater one gives the same answer, and the size of a text.
use Rattle.std.proofs.Common.{◌≡◌, ℕ, ◌+◌, ◌-◌, ◌*◌, ◌^◌, ◌<◌, ◌≤◌, zero, suc, min, List, ◌++◌, length, sym, ◌∙◌, ap, arith, subst, lit<, Bool, true, false, Option, Some, None, ◌⊎◌, inl, inr, length-append}
use Rattle.std.proofs.Math.Nat.{mul-le-mul_right, pow-le-pow_right, zero-mul, add-zero}
use Rattle.std.proofs.lemmas.Bool.{cases_lt}
use Rattle.std.specs.Prelude.{if◌then◌else◌}
use Rattle.spec_num.specs.Rounding.{rounded_size}
use Rattle.spec_num.specs.Decimals.{value, unsigned, whole_digits, behind_point, fraction_digits, exponent, exponent_digits, is_negative, size_units}
use Rattle.ix_num.specs.Magnitudes.{AreDigits, IsMagnitude}
use Rattle.ix_num.proofs.Digits.{AreDigits-append, AreDigits-digits}
use Rattle.ix_num.proofs.Rounding.{ten_pos, nearest_up, nearest_none, nearest_down, rounded_is, IsRead, read_rounded}

-- two sizes with the same answer
abbrev Alike : ℕ → ℕ → Type 0
Alike x y = (x ≡ y) ⊎ ((10 ^ 21 < x) × (10 ^ 21 < y))

read_alike : (x y : ℕ) (o : Option ℕ) → Alike x y → IsRead x o → IsRead y o
read_alike x y o (inl e) h = subst (λ z. IsRead z o) e h
read_alike x y (Some v) (inr over) h = absurd (omega (arith, h.0, h.1, over.0))
read_alike x y None (inr over) h = over.1

-- a power far up passes the limit, unless the number is 0
over_limit : (m p w : ℕ) → 0 < m → 10 ^ 22 ≤ p → w ≡ m * p → 10 ^ 21 < w
over_limit m p w some_ far e = omega (arith, mul-le-mul_right p some_)

up_over : (m places up : ℕ) → 0 < m → places + 22 ≤ up → 10 ^ 21 < rounded_size (m * 10 ^ up) (10 ^ places)
up_over m places up some_ far =
    let within : 22 ≤ up - places = omega arith in
    let least : 10 ^ 22 ≤ 10 ^ (up - places) = pow-le-pow_right {n = 10} (lit< tt) {i = 22} within in
    over_limit m (10 ^ (up - places)) (rounded_size (m * 10 ^ up) (10 ^ places)) some_ least
    (rounded_is (m * 10 ^ up) (10 ^ places) (m * 10 ^ (up - places)) (ten_pos places) (nearest_up m up places (omega arith)))

up_alike : (m places up more : ℕ) → places + 22 ≤ up → places + 22 ≤ more
    → Alike (rounded_size (m * 10 ^ up) (10 ^ places)) (rounded_size (m * 10 ^ more) (10 ^ places))
up_alike zero places up more far further =
    inl (ap (λ a. rounded_size a (10 ^ places)) (zero-mul (10 ^ up) ∙ sym (zero-mul (10 ^ more))))
up_alike (suc m) places up more far further =
    inr (up_over (suc m) places up (omega arith) far, up_over (suc m) places more (omega arith) further)

up_capped : (m places power far : ℕ) → places + 10 ≤ far
    → Alike (rounded_size (m * 10 ^ (12 + min power far)) (10 ^ places)) (rounded_size (m * 10 ^ (12 + power)) (10 ^ places))
up_capped m places power far within = elim (cases_lt far power) [
  | inl over ↦ up_alike m places (12 + min power far) (12 + power) (omega arith) (omega arith)
  | inr le ↦
      let e : min power far ≡ power = omega arith in
      inl (ap (λ p. rounded_size (m * 10 ^ (12 + p)) (10 ^ places)) e)
]

-- a power far down leaves nothing
down_none : (ds : List ℕ) (down : ℕ) → AreDigits ds → length ds + 12 < down → rounded_size (value ds * 10 ^ 12) (10 ^ down) ≡ 0
down_none ds down h far =
    rounded_is (value ds * 10 ^ 12) (10 ^ down) 0 (ten_pos down)
    (nearest_down (value ds) (down - 12) 12 down 0 (omega arith) (nearest_none ds (down - 12) h (omega arith)))

down_capped : (ds : List ℕ) (places power far : ℕ) → AreDigits ds → length ds + 12 < far
    → Alike (rounded_size (value ds * 10 ^ 12) (10 ^ (places + min power far))) (rounded_size (value ds * 10 ^ 12) (10 ^ (places + power)))
down_capped ds places power far h within = elim (cases_lt far power) [
  | inl over ↦ inl (down_none ds (places + min power far) h (omega arith) ∙ sym (down_none ds (places + power) h (omega arith)))
  | inr le ↦
      let e : min power far ≡ power = omega arith in
      inl (ap (λ p. rounded_size (value ds * 10 ^ 12) (10 ^ (places + p))) e)
]

-- the answer for a number, its places behind the point, and a power that is down or up
abbrev Size : Bool → ℕ → ℕ → ℕ → Option ℕ → Type 0
Size down m places power o =
    IsRead (rounded_size (m * 10 ^ (12 + (if down then 0 else power))) (10 ^ (places + (if down then power else 0)))) o

if_above : (m places power far : ℕ) (o : Option ℕ) → places + 10 ≤ far → IsMagnitude (m * 10 ^ (12 + min power far)) (10 ^ places) o → Size false m places power o
if_above m places power far o within h =
    rw (add-zero places) (read_alike _ _ o (up_capped m places power far within) (read_rounded _ _ o (ten_pos places) h))

if_below : (ds : List ℕ) (places power far : ℕ) (o : Option ℕ) → AreDigits ds → length ds + 12 < far
    → IsMagnitude (value ds * 10 ^ 12) (10 ^ (places + min power far)) o → Size true (value ds) places power o
if_below ds places power far o digits within h =
    read_alike _ _ o (down_capped ds places power far digits within) (read_rounded _ _ o (ten_pos (places + min power far)) h)

-- the size of a text whose exponent is above, or below, zero
pub size_above : (text whole fraction : List ℕ) (power far : ℕ) (o : Option ℕ) → whole ≡ whole_digits text → fraction ≡ fraction_digits text → is_negative (exponent text) ≡ false
    → power ≡ min (value (exponent_digits text)) far → length fraction + 10 ≤ far
    → IsMagnitude (value (whole ++ fraction) * 10 ^ (12 + power)) (10 ^ length fraction) o → IsRead (size_units text) o
size_above text whole fraction power far o w f sign p within h =
    let ds = whole_digits text ++ fraction_digits text in
    let exact : Size false (value ds) (length (fraction_digits text)) (value (exponent_digits text)) o =
    if_above (value ds) (length (fraction_digits text)) (value (exponent_digits text)) far o
    (subst (λ l. length l + 10 ≤ far) f within)
    (subst (λ q. IsMagnitude (value ds * 10 ^ (12 + q)) (10 ^ length (fraction_digits text)) o) p
    (subst (λ l. IsMagnitude (value (whole_digits text ++ l) * 10 ^ (12 + power)) (10 ^ length l) o) f
    (subst (λ l. IsMagnitude (value (l ++ fraction) * 10 ^ (12 + power)) (10 ^ length fraction) o) w h))) in
    subst (λ b. Size b (value ds) (length (fraction_digits text)) (value (exponent_digits text)) o) (sym sign) exact

pub size_below : (text whole fraction : List ℕ) (power far : ℕ) (o : Option ℕ) → whole ≡ whole_digits text → fraction ≡ fraction_digits text → is_negative (exponent text) ≡ true
    → power ≡ min (value (exponent_digits text)) far → length whole + length fraction + 12 < far
    → IsMagnitude (value (whole ++ fraction) * 10 ^ 12) (10 ^ (length fraction + power)) o → IsRead (size_units text) o
size_below text whole fraction power far o w f sign p within h =
    let ds = whole_digits text ++ fraction_digits text in
    let exact : Size true (value ds) (length (fraction_digits text)) (value (exponent_digits text)) o =
    if_below ds (length (fraction_digits text)) (value (exponent_digits text)) far o
    (AreDigits-append (whole_digits text) (fraction_digits text) (AreDigits-digits (unsigned text)) (AreDigits-digits (behind_point text)))
    (rw (length-append (whole_digits text) (fraction_digits text)) (subst (λ l. length (whole_digits text) + length l + 12 < far) f (subst (λ l. length l + length fraction + 12 < far) w within)))
    (subst (λ q. IsMagnitude (value ds * 10 ^ 12) (10 ^ (length (fraction_digits text) + q)) o) p
    (subst (λ l. IsMagnitude (value (whole_digits text ++ l) * 10 ^ 12) (10 ^ (length l + power)) o) f
    (subst (λ l. IsMagnitude (value (l ++ fraction) * 10 ^ 12) (10 ^ (length fraction + power)) o) w h))) in
    subst (λ b. Size b (value ds) (length (fraction_digits text)) (value (exponent_digits text)) o) (sym sign) exact
