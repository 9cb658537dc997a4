-- Four numbers with a reduced form are small over their greatest common divisor.
use Rattle.std.proofs.Common.{◌≡◌, ℕ, zero, suc, ◌+◌, ◌-◌, ◌*◌, ◌<◌, ◌≤◌, ◌^◌, ℤ, pos, ◌*ℤ◌, unsigned_abs, ◌⊎◌, inl, inr, refl, sym, ap, subst, ◌∙◌, arith, mul-le-mul}
use Rattle.std.specs.Int.{IsGcd}
use Rattle.std.proofs.lemmas.Int.{unsigned_abs-mul}
use Rattle.std.proofs.lemmas.Nat.Gcd.{IsGcd-from_zero, IsGcd-from_sub, IsGcd-swap, le_of_dvd}
use native.Mathlib.Nat.{eq-zero_of_zero-dvd}
use Rattle.spec_space.specs.declared.Plane.{Plane}
use Rattle.integer_laws.proofs.Products.{size_zero}
use Rattle.plane_core.specs.Numbers.{IsGcdOfFour, IsSmallOver}
use Rattle.plane_core.specs.declared.numbers.Plane.{Plane as BookPlane}
use Rattle.plane_core.proofs.Divisors.{gcd_of_four}
use Rattle.plane_core.proofs.Laws.{divides_size}
use Rattle.triangle_planes.specs.Planes.{IsPlane, IsFormOf}

-- ---- two numbers have a greatest common divisor
order : (m n : ℕ) → (m ≤ n) ⊎ (n ≤ m)
order zero n = inl (omega arith)
order (suc m) zero = inr (omega arith)
order (suc m) (suc n) = elim (order m n) [
  | inl h ↦ inl (omega arith)
  | inr h ↦ inr (omega arith)
]

gcd_within : (k m n : ℕ) → m + n ≤ k → (g : ℕ) × IsGcd m n g
gcd_within k m zero h = (m, IsGcd-from_zero m zero refl)
gcd_within k zero (suc n) h = (suc n, IsGcd-swap (suc n) zero (suc n) (IsGcd-from_zero (suc n) zero refl))
gcd_within zero (suc m) (suc n) h = absurd (omega arith)
gcd_within (suc k) (suc m) (suc n) h = elim (order (suc m) (suc n)) [
  | inl below ↦ swapped (gcd_within k (suc n - suc m) (suc m) (omega arith)) below
  | inr above ↦ kept (gcd_within k (suc m - suc n) (suc n) (omega arith)) above
]
  where
    kept : (g : ℕ) × IsGcd (suc m - suc n) (suc n) g → suc n ≤ suc m → (g : ℕ) × IsGcd (suc m) (suc n) g
    kept (g, is) above = (g, IsGcd-from_sub (suc m) (suc n) g above is)

    swapped : (g : ℕ) × IsGcd (suc n - suc m) (suc m) g → suc m ≤ suc n → (g : ℕ) × IsGcd (suc m) (suc n) g
    swapped (g, is) below = (g, IsGcd-swap (suc n) (suc m) g (IsGcd-from_sub (suc n) (suc m) g below is))

gcd_of : (m n : ℕ) → (g : ℕ) × IsGcd m n g
gcd_of m n = gcd_within (m + n) m n (omega arith)

four_have_gcd : (a b c d : ℤ) → (g : ℕ) × IsGcdOfFour a b c d g
four_have_gcd a b c d =
    let first = gcd_of (unsigned_abs a) (unsigned_abs b) in
    let second = gcd_of (unsigned_abs c) (unsigned_abs d) in
    let whole = gcd_of first.0 second.0 in
    (whole.0, gcd_of_four a b c d first.0 second.0 whole.0 first.1 second.1 whole.1)

-- ---- the sizes of four numbers with a reduced form
not_zero : (k : Plane) (g : ℕ) → IsPlane k → IsGcdOfFour k.a k.b k.c k.d g → 0 < g
not_zero k zero is gcd = absurd (is.some (size_zero k.a (eq-zero_of_zero-dvd gcd.divides_a), size_zero k.b (eq-zero_of_zero-dvd gcd.divides_b), size_zero k.c (eq-zero_of_zero-dvd gcd.divides_c)))
not_zero k (suc n) is gcd = omega arith

size_over : (a m p : ℤ) (g n : ℕ) → a ≡ m *ℤ p → unsigned_abs m ≤ g → unsigned_abs p ≤ n → unsigned_abs a ≤ g * n
size_over a m p g n e h k =
    let size : unsigned_abs a ≡ unsigned_abs m * unsigned_abs p = ap unsigned_abs e ∙ unsigned_abs-mul m p in
    subst (λ x. x ≤ g * n) (sym size) (mul-le-mul h k)

pub has_no_form : (k : Plane) → IsPlane k → ((g : ℕ) → IsGcdOfFour k.a k.b k.c k.d g → IsSmallOver g k.a k.b k.c k.d → ⊥) → (p : BookPlane) → IsFormOf k p → ⊥
has_no_form k is none p r =
    let gcd = four_have_gcd k.a k.b k.c k.d in
    let m = r.factor in
    let t = r.times in
    let most : unsigned_abs m ≤ gcd.0 =
    le_of_dvd (not_zero k gcd.0 is gcd.1)
    (gcd.1.greatest (unsigned_abs m) (divides_size m p.a k.a t.0) (divides_size m p.b k.b t.1) (divides_size m p.c k.c t.2) (divides_size m p.d k.d t.3)) in
    none gcd.0 gcd.1
    (size_over k.a m p.a gcd.0 (2 ^ 26) t.0 most p.a_small, size_over k.b m p.b gcd.0 (2 ^ 26) t.1 most p.b_small, size_over k.c m p.c gcd.0 (2 ^ 26) t.2 most p.c_small, size_over k.d m p.d gcd.0 (2 ^ 44) t.3 most p.d_small)
