-- The test of a plane's sizes in the definitions of elements on the grid, and the reduced planes of plane_core.
use Rattle.std.proofs.Common.{◌≡◌, ℕ, zero, suc, ◌*◌, ◌<◌, ◌≤◌, ◌^◌, Bool, true, false, not, ℤ, pos, negsuc, neg_ℤ, ◌*ℤ◌, ◌<ℤ◌, ◌≤ℤ◌, unsigned_abs, refl, sym, ap, ◌∙◌, subst, arith}
use Rattle.std.specs.Prelude.{if◌then◌else◌}
use Rattle.std.specs.Bool.{Decides}
use Rattle.std.proofs.lemmas.Bool.{leb-true, le-leb}
use Rattle.std.proofs.lemmas.Bool.Decides.{Decides-and}
use Rattle.std.proofs.lemmas.Int.{ints, unsigned_abs-mul}
use Rattle.spec_space.specs.declared.Plane.{Plane}
use Rattle.spec_space.specs.Points.{opposite}
use Rattle.spec_solid.specs.Solids.{HalfSpace}
use Rattle.spec_grid.specs.Forms.{is_within_times, is_fitting_over, is_fitting, plane_gcd, over, plane_over, reduced_half}
use Rattle.spec_grid.specs.Forms as forms
use Rattle.plane_core.specs.Numbers.{IsGcdOfFour, IsSmallOver, AreCoprime, leads_positive}
use Rattle.plane_core.specs.Views.{plane_of}
use Rattle.plane_core.specs.declared.numbers.Plane.{Plane as BookPlane}
use Rattle.plane_core.specs.Planes.{IsReductionOf}
use Rattle.integer_laws.proofs.Products.{zero_right}
use Rattle.plane_core.proofs.Divisors.{coprime_left}
use Rattle.plane_core.proofs.Reduction.{divisor_positive, small_quotient, reduction_over}
use Rattle.plane_core.proofs.Signed.{opposite_leads, size-neg, coprime-neg, times_minus_one, times_one}
use Rattle.grid_forms.proofs.Divisors.{plane_gcd_is, factor_size}
use Rattle.grid_forms.proofs.Quotients.{over_exact, over_times, turned_times, leads_is, leads_times, leads_turned}

-- ---- sizes
within_times : (g most : ℕ) (n : ℤ) → Decides (is_within_times g most n) (unsigned_abs n ≤ g * most)
within_times g most n = (leb-true (unsigned_abs n) (g * most), le-leb (unsigned_abs n) (g * most))

fitting_over : (g : ℕ) (k : Plane) → Decides (is_fitting_over g k) (IsSmallOver g k.a k.b k.c k.d)
fitting_over g k = (λ e. let d = whole.0 e in (d.0.0.0, d.0.0.1, d.0.1, d.1), λ s. whole.1 (((s.0, s.1), s.2), s.3))
  where
    whole : Decides (is_fitting_over g k) ((((unsigned_abs k.a ≤ g * 2 ^ 26) × (unsigned_abs k.b ≤ g * 2 ^ 26)) × (unsigned_abs k.c ≤ g * 2 ^ 26)) × (unsigned_abs k.d ≤ g * 2 ^ 44))
    whole = Decides-and _ _ (Decides-and _ _ (Decides-and _ _ (within_times g (2 ^ 26) k.a) (within_times g (2 ^ 26) k.b)) (within_times g (2 ^ 26) k.c)) (within_times g (2 ^ 44) k.d)

-- a plane fits where its four numbers are small over their greatest common divisor
pub fitting_is : (k : Plane) → Decides (is_fitting k) (IsSmallOver (plane_gcd k) k.a k.b k.c k.d)
fitting_is k = fitting_over (plane_gcd k) k

not_true : (b : Bool) → (b ≡ true → ⊥) → b ≡ false
not_true true h = absurd (h refl)
not_true false h = refl

-- it does not, where no greatest common divisor leaves small numbers
pub not_fitting : (k : Plane) → ((g : ℕ) → IsGcdOfFour k.a k.b k.c k.d g → IsSmallOver g k.a k.b k.c k.d → ⊥) → is_fitting k ≡ false
not_fitting k none = not_true (is_fitting k) (λ e. none (plane_gcd k) (plane_gcd_is k) ((fitting_is k).0 e))

-- ---- a reduced form is a fitting one
size_times : (m a q : ℤ) (g most : ℕ) → unsigned_abs m ≡ g → a ≡ m *ℤ q → unsigned_abs q ≤ most → unsigned_abs a ≤ g * most
size_times m a q g most e f h = larger (unsigned_abs m) (unsigned_abs q) (unsigned_abs a) g most e (ap unsigned_abs f ∙ unsigned_abs-mul m q) h
  where
    larger : (m q a g most : ℕ) → m ≡ g → a ≡ m * q → q ≤ most → a ≤ g * most
    larger m q a g most e f h = rw (f, e) (grind arith)

pub form_fits : (k : Plane) (p : BookPlane) → IsReductionOf p k.a k.b k.c k.d → is_fitting k ≡ true
form_fits k p is =
    let size = factor_size p k (plane_gcd k) is (plane_gcd_is k) in
    (fitting_is k).1 (
      size_times is.factor k.a p.a (plane_gcd k) (2 ^ 26) size is.times.0 p.a_small,
      size_times is.factor k.b p.b (plane_gcd k) (2 ^ 26) size is.times.1 p.b_small,
      size_times is.factor k.c p.c (plane_gcd k) (2 ^ 26) size is.times.2 p.c_small,
      size_times is.factor k.d p.d (plane_gcd k) (2 ^ 44) size is.times.3 p.d_small,
    )

-- ---- a fitting plane with a normal has a reduced form
abbrev pub HasNormal : Plane → Type 0
HasNormal k = (k.a ≡ pos 0) × (k.b ≡ pos 0) × (k.c ≡ pos 0) → ⊥

oriented : (k : Plane) → IsSmallOver 1 k.a k.b k.c k.d → AreCoprime k.a k.b k.c k.d → HasNormal k → (p : BookPlane) × IsReductionOf p k.a k.b k.c k.d
oriented k small coprime some = by (leads_positive k.a k.b k.c) refl
  where
    by : (b : Bool) → leads_positive k.a k.b k.c ≡ b → (p : BookPlane) × IsReductionOf p k.a k.b k.c k.d
    by true e = (
      record { a = k.a; b = k.b; c = k.c; d = k.d; a_small = small.0; b_small = small.1; c_small = small.2; d_small = small.3; coprime = coprime; signed = e },
      record { factor = pos 1; some = λ e. omega (arith, ints); times = (times_one k.a, times_one k.b, times_one k.c, times_one k.d) },
    )
    by false e = (
      record {
        a = neg_ℤ k.a;
        b = neg_ℤ k.b;
        c = neg_ℤ k.c;
        d = neg_ℤ k.d;
        a_small = rw size-neg small.0;
        b_small = rw size-neg small.1;
        c_small = rw size-neg small.2;
        d_small = rw size-neg small.3;
        coprime = coprime-neg k.a k.b k.c k.d coprime;
        signed = opposite_leads k.a k.b k.c some e;
      },
      record { factor = negsuc 0; some = λ e. omega (arith, ints); times = (times_minus_one k.a, times_minus_one k.b, times_minus_one k.c, times_minus_one k.d) },
    )

form_over : (k : Plane) (g : ℕ) → HasNormal k → IsGcdOfFour k.a k.b k.c k.d g → IsSmallOver g k.a k.b k.c k.d → (p : BookPlane) × IsReductionOf p k.a k.b k.c k.d
form_over k g some gcd small =
    let positive = divisor_positive k.a k.b k.c k.d (pos g) (not_negative g) some gcd in
    let is_some = counts g positive in
    let ea = over_exact g k.a is_some gcd.divides_a in
    let eb = over_exact g k.b is_some gcd.divides_b in
    let ec = over_exact g k.c is_some gcd.divides_c in
    let ed = over_exact g k.d is_some gcd.divides_d in
    let q = plane_over g k in
    let form = oriented q (
      small_quotient k.a (pos g) q.a g (2 ^ 26) positive ea refl small.0,
      small_quotient k.b (pos g) q.b g (2 ^ 26) positive eb refl small.1,
      small_quotient k.c (pos g) q.c g (2 ^ 26) positive ec refl small.2,
      small_quotient k.d (pos g) q.d g (2 ^ 44) positive ed refl small.3,
    )
    (coprime_left k.a k.b k.c k.d (pos g) q.a q.b q.c q.d positive gcd ea eb ec ed)
    (λ e. some (ea ∙ zero_right (pos g) q.a e.0, eb ∙ zero_right (pos g) q.b e.1, ec ∙ zero_right (pos g) q.c e.2)) in
    (form.0, reduction_over form.0 k.a k.b k.c k.d (pos g) q.a q.b q.c q.d positive ea eb ec ed form.1)
  where
    not_negative : (g : ℕ) → pos 0 ≤ℤ pos g
    not_negative g = omega (arith, ints)

    counts : (g : ℕ) → pos 0 <ℤ pos g → 0 < g
    counts g h = omega (arith, ints)

pub fitting_form : (k : Plane) → HasNormal k → is_fitting k ≡ true → (p : BookPlane) × IsReductionOf p k.a k.b k.c k.d
fitting_form k some e = form_over k (plane_gcd k) some (plane_gcd_is k) ((fitting_is k).0 e)

-- ---- the half-space of a plane is that of its reduced form
same_plane : (h k : Plane) → h.a ≡ k.a → h.b ≡ k.b → h.c ≡ k.c → h.d ≡ k.d → h ≡ k
same_plane h k a b c d = λ i. record { a = a i; b = b i; c = c i; d = d i }

-- the side on which the material lies, seen from the reduced plane
abbrev pub side_of : Plane → Bool → Bool
side_of k in_front = if leads_positive k.a k.b k.c then in_front else not in_front

by_factor : (k : Plane) (p : BookPlane) (m : ℤ) (g : ℕ) → (m ≡ pos 0 → ⊥) → unsigned_abs m ≡ g → k.a ≡ m *ℤ p.a → k.b ≡ m *ℤ p.b → k.c ≡ m *ℤ p.c → k.d ≡ m *ℤ p.d
    → (in_front : Bool) → (if forms.leads_positive k then HalfSpace (plane_over g k) in_front else HalfSpace (plane_over g (opposite k)) (not in_front)) ≡ HalfSpace (plane_of p) (side_of k in_front)
by_factor k p (pos zero) g some size ea eb ec ed in_front = absurd (some refl)
by_factor k p (pos (suc n)) g some size ea eb ec ed in_front =
    let lead : leads_positive k.a k.b k.c ≡ true = (λ i. leads_positive (ea i) (eb i) (ec i)) ∙ leads_times (pos (suc n)) p.a p.b p.c (above n) ∙ p.signed in
    let is : plane_over g k ≡ plane_of p = same_plane (plane_over g k) (plane_of p) (quotient k.a p.a ea) (quotient k.b p.b eb) (quotient k.c p.c ec) (quotient k.d p.d ed) in
    (λ i. if (leads_is k.a k.b k.c k.d ∙ lead) i then HalfSpace (is i) in_front else HalfSpace (plane_over g (opposite k)) (not in_front))
    ∙ (λ i. HalfSpace (plane_of p) (if sym lead i then in_front else not in_front))
  where
    above : (n : ℕ) → pos 0 <ℤ pos (suc n)
    above n = omega (arith, ints)

    quotient : (a q : ℤ) → a ≡ pos (suc n) *ℤ q → over g a ≡ q
    quotient a q e = subst (λ s. over s a ≡ q) size (over_times (suc n) a q (omega arith) e)
by_factor k p (negsuc n) g some size ea eb ec ed in_front =
    let ta = turned_times n k.a p.a ea in
    let tb = turned_times n k.b p.b eb in
    let tc = turned_times n k.c p.c ec in
    let td = turned_times n k.d p.d ed in
    let lead : leads_positive k.a k.b k.c ≡ false = leads_turned k.a k.b k.c ((λ i. leads_positive (ta i) (tb i) (tc i)) ∙ leads_times (pos (suc n)) p.a p.b p.c (above n) ∙ p.signed) in
    let is : plane_over g (opposite k) ≡ plane_of p = same_plane (plane_over g (opposite k)) (plane_of p) (quotient (neg_ℤ k.a) p.a ta) (quotient (neg_ℤ k.b) p.b tb) (quotient (neg_ℤ k.c) p.c tc) (quotient (neg_ℤ k.d) p.d td) in
    (λ i. if (leads_is k.a k.b k.c k.d ∙ lead) i then HalfSpace (plane_over g k) in_front else HalfSpace (is i) (not in_front))
    ∙ (λ i. HalfSpace (plane_of p) (if sym lead i then in_front else not in_front))
  where
    above : (n : ℕ) → pos 0 <ℤ pos (suc n)
    above n = omega (arith, ints)

    quotient : (a q : ℤ) → a ≡ pos (suc n) *ℤ q → over g a ≡ q
    quotient a q e = subst (λ s. over s a ≡ q) size (over_times (suc n) a q (omega arith) e)

pub reduced_half_is : (k : Plane) (p : BookPlane) → IsReductionOf p k.a k.b k.c k.d → (in_front : Bool) → reduced_half k in_front ≡ HalfSpace (plane_of p) (side_of k in_front)
reduced_half_is k p is = by_factor k p is.factor (plane_gcd k) is.some (factor_size p k (plane_gcd k) is (plane_gcd_is k)) is.times.0 is.times.1 is.times.2 is.times.3
