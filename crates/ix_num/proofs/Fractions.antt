-- The order of two fractions by their whole parts and by what is left.
use Rattle.std.proofs.Common.{◌≡◌, ℕ, ◌+◌, ◌*◌, ◌<◌, ◌≤◌, ◌/◌, ◌%◌, ◌⊎◌, inl, inr, ap, arith}
use Rattle.std.proofs.Math.Nat.{mul-le-mul_left, mul-le-mul_right}
use Rattle.std.specs.Ordering.{MatchOrdering}
use Rattle.std.specs.declared.cmp.Ordering.{Ordering}
use Rattle.std.specs.declared.cmp.Ordering.TheVariants.{Less, Equal, Greater}

-- the whole part q of the first fraction is smaller than that of the second, s
smaller_part : (b d q r s t : ℕ) → r < b → 0 < d → q < s → (b * q + r) * d < (d * s + t) * b
smaller_part b d q r s t below some less =
    let rest : (b * d) * (q + 1) ≤ (b * d) * s = mul-le-mul_left (b * d) (omega arith) in
    let part : (r + 1) * d ≤ b * d = mul-le-mul_right d (omega arith) in
    omega (arith, rest, part)

divided : (a b : ℕ) → 0 < b → a ≡ b * (a / b) + a % b
divided a b some = omega arith

rest_below : (a b : ℕ) → 0 < b → a % b < b
rest_below a b some = omega arith

-- the fraction of the smaller whole part is the smaller one
pub by_whole_parts : (a b c d : ℕ) → 0 < b → 0 < d → a / b < c / d → a * d < c * b
by_whole_parts a b c d some_b some_d less =
    let first : a * d ≡ (b * (a / b) + a % b) * d = ap (λ n. n * d) (divided a b some_b) in
    let second : c * b ≡ (d * (c / d) + c % d) * b = ap (λ n. n * b) (divided c d some_d) in
    let order = smaller_part b d (a / b) (a % b) (c / d) (c % d) (rest_below a b some_b) some_d less in
    omega (arith, first, second, order)

-- of equal whole parts, what is left decides
pub by_rests : (a b c d : ℕ) (r : Ordering) → 0 < b → 0 < d → a / b ≡ c / d
    → MatchOrdering r ((a % b) * d < (c % d) * b) ((a % b) * d ≡ (c % d) * b) ((c % d) * b < (a % b) * d)
    → MatchOrdering r (a * d < c * b) (a * d ≡ c * b) (c * b < a * d)
by_rests a b c d r some_b some_d whole left =
    let first : a * d ≡ (b * (c / d) + a % b) * d = ap (λ n. n * d) (parts (a / b) (c / d) whole (divided a b some_b)) in
    let second : c * b ≡ (d * (c / d) + c % d) * b = ap (λ n. n * b) (divided c d some_d) in
    decide r (a * d) (c * b) ((a % b) * d) ((c % d) * b) (b * (c / d) * d) (omega (arith, first)) (omega (arith, second)) left
  where
    parts : (q s : ℕ) → q ≡ s → a ≡ b * q + a % b → a ≡ b * s + a % b
    parts q s e h = rw (← e) h

    decide : (r : Ordering) (x y u v k : ℕ) → x ≡ k + u → y ≡ k + v → MatchOrdering r (u < v) (u ≡ v) (v < u) → MatchOrdering r (x < y) (x ≡ y) (y < x)
    decide Less x y u v k e f h = omega arith
    decide Equal x y u v k e f h = omega arith
    decide Greater x y u v k e f h = omega arith

-- where nothing is left of one of them, the other is the greater one, or nothing is left of it too
both_none : (u v : ℕ) → (u ≡ 0) ⊎ (v ≡ 0) → u ≡ v → (u ≡ 0) × (v ≡ 0)
both_none u v (inl e) same = (e, omega arith)
both_none u v (inr e) same = (omega arith, e)

first_none : (u v : ℕ) → (u ≡ 0) ⊎ (v ≡ 0) → u < v → u ≡ 0
first_none u v (inl e) less = e
first_none u v (inr e) less = omega arith

times_none : (u d : ℕ) → u ≡ 0 → u * d ≡ 0
times_none u d e = let h : u * d ≡ 0 * d = ap (λ n. n * d) e in omega (arith, h)

times_some : (v b : ℕ) → 0 < v → 0 < b → 0 < v * b
times_some v b some_v some_b = let h : v * 1 ≤ v * b = mul-le-mul_left v (omega arith) in omega (arith, h)

other : (u v : ℕ) → (u ≡ 0) ⊎ (v ≡ 0) → (v ≡ 0) ⊎ (u ≡ 0)
other u v (inl e) = inr e
other u v (inr e) = inl e

pub none_left : (u v b d : ℕ) (r : Ordering) → 0 < b → 0 < d → (u ≡ 0) ⊎ (v ≡ 0) → MatchOrdering r (u < v) (u ≡ v) (v < u)
    → MatchOrdering r (u * d < v * b) (u * d ≡ v * b) (v * b < u * d)
none_left u v b d Less some_b some_d none h =
    omega (arith, times_none u d (first_none u v none h), times_some v b (omega arith) some_b)
none_left u v b d Equal some_b some_d none h =
    let e = both_none u v none h in
    omega (arith, times_none u d e.0, times_none v b e.1)
none_left u v b d Greater some_b some_d none h =
    omega (arith, times_none v b (first_none v u (other u v none) h), times_some u d (omega arith) some_d)

-- what is left, turned round
pub turned : (u v b d : ℕ) (r : Ordering) → MatchOrdering r (d * u < b * v) (d * u ≡ b * v) (b * v < d * u)
    → MatchOrdering r (u * d < v * b) (u * d ≡ v * b) (v * b < u * d)
turned u v b d Less h = omega arith
turned u v b d Equal h = omega arith
turned u v b d Greater h = omega arith
