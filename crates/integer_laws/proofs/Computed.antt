-- Numbers that code computes in 128 bits: which whole number each is, and a bound on its size.
-- A value that code has passed or computed stands in a goal as `to_z w128 (of_z w128 z)`.
use Rattle.std.proofs.Common.{◌≡◌, ℕ, ◌+◌, ◌*◌, ◌≤◌, ◌^◌, ℤ, pos, ◌+ℤ◌, ◌*ℤ◌, ◌-ℤ◌, unsigned_abs, FitsSigned, T, ltb, ltb→lt, to_z, of_z, ap, ap₂, ◌∙◌, sym, subst}
use Rattle.std.proofs.lemmas.Int.{to_z-of_z}
use mir.Syntax.{w128}
use Rattle.integer_laws.proofs.Sizes.{size_add, size_sub, size_mul, fits_by_size}

-- the computed z is the number v, of size at most n
pub record Is (z v : ℤ) (n : ℕ) : Type 0 where
  pub is : z ≡ v
  pub size : unsigned_abs v ≤ n

-- a number of known size is itself after a trip to its bits
pub arg : (v : ℤ) {n : ℕ} → unsigned_abs v ≤ n → T (ltb n (2 ^ 127)) → Is (to_z w128 (of_z w128 v)) v n
arg v {n} p t = record { is = to_z-of_z w128 v (fits_by_size v n p (ltb→lt n (2 ^ 127) t)); size = p }

-- one computed number more on the way
pub again : {z v : ℤ} {n : ℕ} → Is z v n → T (ltb n (2 ^ 127)) → Is (to_z w128 (of_z w128 z)) v n
again {z} {v} {n} h t = record { is = ap (λ x. to_z w128 (of_z w128 x)) h.is ∙ to_z-of_z w128 v (fits_by_size v n h.size (ltb→lt n (2 ^ 127) t)); size = h.size }

pub sum : {x y u v : ℤ} {m n : ℕ} → Is x u m → Is y v n → Is (x +ℤ y) (u +ℤ v) (m + n)
sum {x} {y} {u} {v} {m} {n} p q = record { is = ap₂ (λ a b. a +ℤ b) p.is q.is; size = size_add u v m n p.size q.size }

pub difference : {x y u v : ℤ} {m n : ℕ} → Is x u m → Is y v n → Is (x -ℤ y) (u -ℤ v) (m + n)
difference {x} {y} {u} {v} {m} {n} p q = record { is = ap₂ (λ a b. a -ℤ b) p.is q.is; size = size_sub u v m n p.size q.size }

pub product : {x y u v : ℤ} {m n : ℕ} → Is x u m → Is y v n → Is (x *ℤ y) (u *ℤ v) (m * n)
product {x} {y} {u} {v} {m} {n} p q = record { is = ap₂ (λ a b. a *ℤ b) p.is q.is; size = size_mul u v m n p.size q.size }

pub fits : {z v : ℤ} {n : ℕ} → Is z v n → T (ltb n (2 ^ 127)) → FitsSigned w128 z
fits {z} {v} {n} h t = subst (λ x. FitsSigned w128 x) (sym h.is) (fits_by_size v n h.size (ltb→lt n (2 ^ 127) t))

-- a number whose bits are 0
pub zero_bits : (z : ℤ) → FitsSigned w128 z → of_z w128 z ≡ 0 → z ≡ pos 0
zero_bits z f e = sym (to_z-of_z w128 z f) ∙ ap (to_z w128) e
