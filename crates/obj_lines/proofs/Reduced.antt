-- Reduced corners and planes.
use Rattle.std.proofs.Common.{◌≡◌, ◌⊎◌, inl, inr, ℕ, zero, suc, ℤ, pos, negsuc, neg_ℤ, ◌<ℤ◌, ◌≤ℤ◌, unsigned_abs, IsTrue, eqb, of_z, refl, subst, arith}
use Rattle.std.proofs.lemmas.Int.{ints}
use Rattle.std.proofs.lemmas.Bool.{eqb-true}
use mir.Syntax.{w128}
use Rattle.std.specs.Int.{IsGcd}
use Prim.Native.Nat.{◌∣◌}
use native.Mathlib.Nat.{dvd_antisymm, one-dvd, eq-zero_of_zero-dvd}
use Rattle.spec_space.specs.declared.Plane.{Plane}
use Rattle.spec_space.specs.declared.Point.{Point}
use Rattle.spec_space.specs.Points.{opposite}
use Rattle.spec_space.specs.Reduced.{LeadsPositive, IsTimes, IsReduced}
use Rattle.spec_headline.specs.Reduced.{IsReducedPoint, IsPrintedPlane, IsExactCorner}
use Rattle.plane_core.specs.Numbers.{AreCoprime}
use Rattle.plane_core.proofs.Divisors.{gcd_of_four, exact_quotient}
use Rattle.plane_core.proofs.Laws.{divides_size}
use Rattle.plane_core.proofs.Signed.{coprime-neg, size-neg}
use Rattle.obj_lines.specs.Limits.{HasCornerSizes, HasPlaneSizes}

abbrev pub Equal : Point → Point → Type 0
Equal p q = p ≡ q

-- a greatest common divisor of 1 tells that four numbers have no other
pub coprime_by_one : (a b c d : ℤ) (g h k : ℕ) → IsGcd (unsigned_abs a) (unsigned_abs b) g → IsGcd (unsigned_abs c) (unsigned_abs d) h → IsGcd g h k → k ≡ 1 → AreCoprime a b c d
coprime_by_one a b c d g h k p q r one n u v w x =
    dvd_antisymm (subst (λ m. n ∣ m) one ((gcd_of_four a b c d g h k p q r).greatest n u v w x)) (one-dvd n)

pub one_by_coprime : (a b c d : ℤ) (g h k : ℕ) → IsGcd (unsigned_abs a) (unsigned_abs b) g → IsGcd (unsigned_abs c) (unsigned_abs d) h → IsGcd g h k → AreCoprime a b c d → k ≡ 1
one_by_coprime a b c d g h k p q r coprime = let all = gcd_of_four a b c d g h k p q r in coprime k all.divides_a all.divides_b all.divides_c all.divides_d

-- a divisor of numbers that are not all 0 is above 0
divisor_some : (k : ℕ) (a : ℤ) → k ∣ unsigned_abs a → (a ≡ pos 0 → ⊥) → pos 0 <ℤ pos k
divisor_some zero a h some = absurd (some (size_zero a (eq-zero_of_zero-dvd h)))
  where
    size_zero : (a : ℤ) → unsigned_abs a ≡ 0 → a ≡ pos 0
    size_zero a e = omega (arith, ints)
divisor_some (suc k) a h some = omega (arith, ints)

pub point_reduced : (p : Point) → pos 0 <ℤ p.w → AreCoprime p.x p.y p.z p.w → IsReducedPoint p
point_reduced p positive coprime = record {
  weight = positive;
  divisors = λ m q t. coprime (unsigned_abs m) (divides_size m q.x p.x t.0) (divides_size m q.y p.y t.1) (divides_size m q.z p.z t.2) (divides_size m q.w p.w t.3);
}

pub point_coprime : (p : Point) → IsReducedPoint p → AreCoprime p.x p.y p.z p.w
point_coprime p reduced k u v w x =
    let some : pos 0 <ℤ pos k = divisor_some k p.w x (λ e. not_positive p.w e reduced.weight) in
    reduced.divisors (pos k) (record { x = _; y = _; z = _; w = _ }) (exact_quotient p.x (pos k) some u, exact_quotient p.y (pos k) some v, exact_quotient p.z (pos k) some w, exact_quotient p.w (pos k) some x)
  where
    not_positive : (n : ℤ) → n ≡ pos 0 → pos 0 <ℤ n → ⊥
    not_positive n e h = omega (arith, ints)

lead_either : (h : Plane) → ((h.a ≡ pos 0) × (h.b ≡ pos 0) × (h.c ≡ pos 0) → ⊥) → LeadsPositive h ⊎ LeadsPositive (opposite h)
lead_either h some = by h.a h.b h.c some
  where
    Leads : ℤ → ℤ → ℤ → Type 0
    Leads a b c = (pos 0 <ℤ a) ⊎ ((a ≡ pos 0) × ((pos 0 <ℤ b) ⊎ ((b ≡ pos 0) × (pos 0 <ℤ c))))

    by : (a b c : ℤ) → ((a ≡ pos 0) × (b ≡ pos 0) × (c ≡ pos 0) → ⊥)
        → ((pos 0 <ℤ a) ⊎ ((a ≡ pos 0) × ((pos 0 <ℤ b) ⊎ ((b ≡ pos 0) × (pos 0 <ℤ c)))))
        ⊎ ((pos 0 <ℤ neg_ℤ a) ⊎ ((neg_ℤ a ≡ pos 0) × ((pos 0 <ℤ neg_ℤ b) ⊎ ((neg_ℤ b ≡ pos 0) × (pos 0 <ℤ neg_ℤ c)))))
    by (pos (suc a)) b c some = inl (inl (omega (arith, ints)))
    by (negsuc a) b c some = inr (inl (omega (arith, ints)))
    by (pos zero) (pos (suc b)) c some = inl (inr (refl, inl (omega (arith, ints))))
    by (pos zero) (negsuc b) c some = inr (inr (refl, inl (omega (arith, ints))))
    by (pos zero) (pos zero) (pos (suc c)) some = inl (inr (refl, inr (refl, omega (arith, ints))))
    by (pos zero) (pos zero) (negsuc c) some = inr (inr (refl, inr (refl, omega (arith, ints))))
    by (pos zero) (pos zero) (pos zero) some = absurd (some (refl, refl, refl))

plane_divisors : (h : Plane) → AreCoprime h.a h.b h.c h.d → (m : ℤ) (q : Plane) → IsTimes m q h → unsigned_abs m ≡ 1
plane_divisors h coprime m q t = coprime (unsigned_abs m) (divides_size m q.a h.a t.0) (divides_size m q.b h.b t.1) (divides_size m q.c h.c t.2) (divides_size m q.d h.d t.3)

pub plane_printed : (h : Plane) → HasPlaneSizes h → ((h.a ≡ pos 0) × (h.b ≡ pos 0) × (h.c ≡ pos 0) → ⊥) → AreCoprime h.a h.b h.c h.d → IsPrintedPlane h
plane_printed h sizes some coprime = record {
  reduced = side (lead_either h some);
  a = sizes.a;
  b = sizes.b;
  c = sizes.c;
  d = sizes.d;
}
  where
    side : LeadsPositive h ⊎ LeadsPositive (opposite h) → IsReduced h ⊎ IsReduced (opposite h)
    side (inl lead) = inl (record { lead = lead; divisors = plane_divisors h coprime })
    side (inr lead) = inr (record { lead = lead; divisors = plane_divisors (opposite h) (coprime-neg h.a h.b h.c h.d coprime) })

-- no plane that leads has a normal of 0
leads_some : (h : Plane) → LeadsPositive h → (h.a ≡ pos 0) × (h.b ≡ pos 0) × (h.c ≡ pos 0) → ⊥
leads_some h (inl p) e = positive h.a p e.0
  where
    positive : (n : ℤ) → pos 0 <ℤ n → n ≡ pos 0 → ⊥
    positive n p e = omega (arith, ints)
leads_some h (inr (z, inl p)) e = positive h.b p e.1
  where
    positive : (n : ℤ) → pos 0 <ℤ n → n ≡ pos 0 → ⊥
    positive n p e = omega (arith, ints)
leads_some h (inr (z, inr (y, p))) e = positive h.c p e.2
  where
    positive : (n : ℤ) → pos 0 <ℤ n → n ≡ pos 0 → ⊥
    positive n p e = omega (arith, ints)

reduced_coprime : (h : Plane) → IsReduced h → AreCoprime h.a h.b h.c h.d
reduced_coprime h reduced k u v w x =
    let some : pos 0 <ℤ pos k = by k u v w in
    reduced.divisors (pos k) (record { a = _; b = _; c = _; d = _ }) (exact_quotient h.a (pos k) some u, exact_quotient h.b (pos k) some v, exact_quotient h.c (pos k) some w, exact_quotient h.d (pos k) some x)
  where
    size_zero : (a : ℤ) → unsigned_abs a ≡ 0 → a ≡ pos 0
    size_zero a e = omega (arith, ints)

    by : (k : ℕ) → k ∣ unsigned_abs h.a → k ∣ unsigned_abs h.b → k ∣ unsigned_abs h.c → pos 0 <ℤ pos k
    by zero u v w = absurd (leads_some h reduced.lead (size_zero h.a (eq-zero_of_zero-dvd u), size_zero h.b (eq-zero_of_zero-dvd v), size_zero h.c (eq-zero_of_zero-dvd w)))
    by (suc k) u v w = omega (arith, ints)

pub printed_coprime : (h : Plane) → IsPrintedPlane h → AreCoprime h.a h.b h.c h.d
printed_coprime h printed = by printed.reduced
  where
    by : IsReduced h ⊎ IsReduced (opposite h) → AreCoprime h.a h.b h.c h.d
    by (inl r) = reduced_coprime h r
    by (inr r) = λ k u v w x. reduced_coprime (opposite h) r k (rw size-neg u) (rw size-neg v) (rw size-neg w) (rw size-neg x)

pub one_is : (k : ℤ) → pos 0 ≤ℤ k → IsTrue (eqb (of_z w128 k) 1) → unsigned_abs k ≡ 1
one_is (pos k) h t = eqb-true k 1 t
one_is (negsuc k) h t = absurd h.le

pub one_tells : (k : ℤ) → pos 0 ≤ℤ k → unsigned_abs k ≡ 1 → IsTrue (eqb (of_z w128 k) 1)
one_tells (pos k) h e = rw e refl
one_tells (negsuc k) h e = absurd h.le

-- numbers after a trip to their bits
pub coprime_same : (a b c d e f g h : ℤ) → e ≡ a → f ≡ b → g ≡ c → h ≡ d → AreCoprime a b c d → AreCoprime e f g h
coprime_same a b c d e f g h p q r s coprime = rw (p, q, r, s) coprime

pub point_same : (a b c d e f g h : ℤ) → e ≡ a → f ≡ b → g ≡ c → h ≡ d → Equal (record { x = e; y = f; z = g; w = h }) (record { x = a; y = b; z = c; w = d })
point_same a b c d e f g h p q r s = rw (p, q, r, s) refl

pub exact_corner : (p : Point) → HasCornerSizes p → AreCoprime p.x p.y p.z p.w → IsExactCorner p
exact_corner p sizes coprime = record { reduced = point_reduced p sizes.positive coprime; weight = sizes.weight; size = sizes.size; reach = sizes.reach }
