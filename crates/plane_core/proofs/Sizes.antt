-- Determinants that code computes in 128 bits, and the results of calls: which whole number each is, and a bound on its size.
use Rattle.std.proofs.Common.{◌≡◌, ℕ, ◌+◌, ◌*◌, ◌≤◌, ℤ, unsigned_abs, ◌∙◌, sym, subst}
use Rattle.integer_laws.specs.Determinants.{det2, det3}
use Rattle.integer_laws.proofs.Computed.{Is, sum, difference, product}

-- a callee's result, by the equation that it ensures
pub after : {z y v : ℤ} {n : ℕ} → z ≡ y → Is y v n → Is z v n
after e h = record { is = e ∙ h.is; size = h.size }

-- what a bound on a computed number asks
pub small : {z v : ℤ} {n : ℕ} → Is z v n → unsigned_abs z ≤ n
small {z} {v} {n} h = subst (λ x. unsigned_abs x ≤ n) (sym h.is) h.size

pub minor_is : {a b c d t u v w : ℤ} {k l m n : ℕ} → Is a t k → Is b u l → Is c v m → Is d w n → Is (det2 a b c d) (det2 t u v w) (k * n + l * m)
minor_is a b c d = difference (product a d) (product b c)

pub det_is : {a b c d e f g h i r s t u v w x y z : ℤ} {m n : ℕ} → Is a r m → Is b s n → Is c t n → Is d u m → Is e v n → Is f w n → Is g x m → Is h y n → Is i z n
    → Is (det3 a b c d e f g h i) (det3 r s t u v w x y z) (m * (n * n + n * n) + m * (n * n + n * n) + m * (n * n + n * n))
det_is a b c d e f g h i = sum (sum (product a (minor_is e f h i)) (product d (minor_is h i b c))) (product g (minor_is b c e f))

-- a callee's result, by the equation and the bound that it ensures
pub known : {z v : ℤ} {n : ℕ} → z ≡ v → unsigned_abs z ≤ n → Is z v n
known {z} {v} {n} e p = record { is = e; size = subst (λ x. unsigned_abs x ≤ n) e p }
