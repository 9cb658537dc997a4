-- The greatest common divisor of the numbers of a plane.
use Rattle.std.proofs.Common.{◌≡◌, ℕ, zero, suc, ◌*◌, ◌/◌, ◌%◌, ◌<◌, ℤ, pos, negsuc, ◌*ℤ◌, unsigned_abs, refl, sym, ap, ◌∙◌, subst, arith, mul-one}
use Rattle.std.specs.Int.{IsGcd}
use Rattle.std.proofs.lemmas.Int.{unsigned_abs-mul}
use Rattle.std.proofs.lemmas.Nat.Gcd.{IsGcd-from_zero, IsGcd-from_mod}
use Prim.Native.Nat.{◌∣◌}
use native.Mathlib.Nat.{dvd_trans, dvd_of_mul-dvd-mul_left, mul-div_cancel'}
use Rattle.spec_space.specs.declared.Plane.{Plane}
use Rattle.spec_grid.specs.Forms.{gcd_by, gcd, plane_gcd}
use Rattle.plane_core.specs.Numbers.{IsGcdOfFour}
use Rattle.plane_core.specs.declared.numbers.Plane.{Plane as BookPlane}
use Rattle.plane_core.specs.Planes.{IsReductionOf}
use Rattle.plane_core.proofs.Laws.{divides_size}

by_steps : (n a b : ℕ) → b < n → IsGcd a b (gcd_by n a b)
unfolding gcd_by
by_steps zero a b h = absurd (omega arith)
by_steps (suc n) a zero h = IsGcd-from_zero a zero refl
by_steps (suc n) a (suc b) h = IsGcd-from_mod a (suc b) (gcd_by n (suc b) (a % suc b)) (by_steps n (suc b) (a % suc b) (smaller a b n h))
  where
    smaller : (a b n : ℕ) → suc b < suc n → a % suc b < n
    smaller a b n h = omega arith

gcd_is : (a b : ℕ) → IsGcd a b (gcd a b)
gcd_is a b = by_steps (suc b) a b (omega arith)

four : (a b c d g h k : ℕ) → IsGcd a b g → IsGcd g c h → IsGcd h d k → (n : ℕ) → n ∣ a → n ∣ b → n ∣ c → n ∣ d → n ∣ k
four a b c d g h k p q r n u v w x = r.2 n (q.2 n (p.2 n u v) w) x

pub plane_gcd_is : (k : Plane) → IsGcdOfFour k.a k.b k.c k.d (plane_gcd k)
plane_gcd_is k =
    whole (gcd (unsigned_abs k.a) (unsigned_abs k.b)) (gcd (gcd (unsigned_abs k.a) (unsigned_abs k.b)) (unsigned_abs k.c))
    (plane_gcd k) (gcd_is (unsigned_abs k.a) (unsigned_abs k.b)) (gcd_is (gcd (unsigned_abs k.a) (unsigned_abs k.b)) (unsigned_abs k.c))
    (gcd_is (gcd (gcd (unsigned_abs k.a) (unsigned_abs k.b)) (unsigned_abs k.c)) (unsigned_abs k.d))
  where
    whole : (g h n : ℕ) → IsGcd (unsigned_abs k.a) (unsigned_abs k.b) g → IsGcd g (unsigned_abs k.c) h → IsGcd h (unsigned_abs k.d) n → IsGcdOfFour k.a k.b k.c k.d n
    whole g h n p q r = record {
      divides_a = dvd_trans n r.0 (dvd_trans h q.0 p.0);
      divides_b = dvd_trans n r.0 (dvd_trans h q.0 p.1);
      divides_c = dvd_trans n r.0 q.1;
      divides_d = r.1;
      greatest = four (unsigned_abs k.a) (unsigned_abs k.b) (unsigned_abs k.c) (unsigned_abs k.d) g h n p q r;
    }

-- the factor of a reduction has the size of the greatest common divisor
module _ (p : BookPlane) (k : Plane) (g : ℕ) (is : IsReductionOf p k.a k.b k.c k.d) (gcd : IsGcdOfFour k.a k.b k.c k.d g) where
  abbrev size : ℕ
  size = unsigned_abs is.factor

  some : 0 < size
  some = positive is.factor is.some
    where
      positive : (m : ℤ) → (m ≡ pos 0 → ⊥) → 0 < unsigned_abs m
      positive (pos zero) h = absurd (h refl)
      positive (pos (suc n)) h = omega arith
      positive (negsuc n) h = omega arith

  divides_gcd : size ∣ g
  divides_gcd = gcd.greatest size (divides_size is.factor p.a k.a is.times.0) (divides_size is.factor p.b k.b is.times.1) (divides_size is.factor p.c k.c is.times.2) (divides_size is.factor p.d k.d is.times.3)

  -- what the divisor is more than the factor divides each number of the reduced plane
  part : (a q : ℤ) (n : ℕ) → g ≡ size * n → a ≡ is.factor *ℤ q → g ∣ unsigned_abs a → n ∣ unsigned_abs q
  part a q n e f h = dvd_of_mul-dvd-mul_left {k = size} n {n = unsigned_abs q} some (subst (λ x. size * n ∣ x) (ap unsigned_abs f ∙ unsigned_abs-mul is.factor q) (subst (λ x. x ∣ unsigned_abs a) e h))

  pub factor_size : unsigned_abs is.factor ≡ g
  factor_size =
      let e : g ≡ size * (g / size) = sym (mul-div_cancel' size divides_gcd) in
      let one : g / size ≡ 1 =
      p.coprime (g / size) (part k.a p.a (g / size) e is.times.0 gcd.divides_a) (part k.b p.b (g / size) e is.times.1 gcd.divides_b) (part k.c p.c (g / size) e is.times.2 gcd.divides_c) (part k.d p.d (g / size) e is.times.3 gcd.divides_d) in
      sym (e ∙ ap (λ n. size * n) one ∙ mul-one size)
