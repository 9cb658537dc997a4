-- A number is within half of a fraction exactly where it is the fraction rounded, with a half upwards or downwards.
use Rattle.std.proofs.Common.{◌≡◌, ◌⊎◌, inl, inr, ℕ, ◌≤◌, ◌^◌, List, ℤ, pos, neg_ℤ, ◌+ℤ◌, ◌-ℤ◌, ◌*ℤ◌, ◌<ℤ◌, ◌≤ℤ◌, Bool, true, false, ◌&&◌, ◌||◌, nat_le, unsigned_abs, Decides, [], ◌∷◌, refl, sym, ap, ap₂, subst, ◌∙◌, arith}
use Rattle.std.specs.Ordering.{int_eq}
use Rattle.std.proofs.lemmas.Int.{ints, by_lt_z}
use Rattle.std.proofs.lemmas.Bool.Decides.{Decides-int_eq, nat_tests}
use Rattle.integer_laws.proofs.Ring.{var, con, neg, ◌⊕◌, ◌⊗◌, ring, *ℤ_comm}
use Rattle.integer_laws.proofs.Signs.{unscaled_lt}
use Rattle.ix_num.proofs.Division.{floor_low, floor_high}
use Rattle.spec_num.specs.Rounding.{round_of}
use Rattle.spec_space.specs.declared.Point.{Point}
use Rattle.spec_space.specs.declared.Vector.{Vector}
use Rattle.spec_place.specs.declared.transform.Transform.{Transform}
use Rattle.spec_place.specs.Vectors.{reversed}
use Rattle.spec_page.specs.declared.Corner.{Corner as PageCorner}
use Rattle.spec_page.specs.World.{image_above, image_below, rounded_image}
use Rattle.spec_check.specs.Verdicts.{IsWithinHalf, IsNearImage}
use Rattle.plane_core.specs.declared.numbers.Corner.{Corner}
use Rattle.plane_core.specs.Views.{point_of}
use Rattle.exact_mesh.specs.Meshes.{number_at, vector_of}
use Rattle.mesh_check.specs.Near.{negated, page_corner, is_within_half, is_near}

-- ---- one whole number lies between the bounds of a rounding
not_above : (m d q r : ℤ) → pos 0 <ℤ d → (d *ℤ r) ≤ℤ m → m <ℤ (d *ℤ q +ℤ d) → r <ℤ (q +ℤ pos 1)
not_above m d q r positive low high =
    unscaled_lt r (q +ℤ pos 1) d positive
    (between (r *ℤ d) (d *ℤ r) m (d *ℤ q +ℤ d) ((q +ℤ pos 1) *ℤ d) (*ℤ_comm r d) low high (ring (d ∷ (q ∷ [])) (var 0 ⊗ var 1 ⊕ var 0) ((var 1 ⊕ con (pos 1)) ⊗ var 0) refl))
  where
    between : (a b n c e : ℤ) → a ≡ b → b ≤ℤ n → n <ℤ c → c ≡ e → a <ℤ e
    between a b n c e p low high q = omega (arith, ints)

one_floor : (m d q r : ℤ) → pos 0 <ℤ d → (d *ℤ q) ≤ℤ m → m <ℤ (d *ℤ q +ℤ d) → (d *ℤ r) ≤ℤ m → m <ℤ (d *ℤ r +ℤ d) → q ≡ r
one_floor m d q r positive q_low q_high r_low r_high = same q r (not_above m d q r positive r_low q_high) (not_above m d r q positive q_low r_high)
  where
    same : (q r : ℤ) → r <ℤ (q +ℤ pos 1) → q <ℤ (r +ℤ pos 1) → q ≡ r
    same q r h k = omega (arith, ints)

twice_positive : (b : ℤ) → pos 0 <ℤ b → pos 0 <ℤ (pos 2 *ℤ b)
twice_positive b h = omega (arith, ints)

rounds : (n a b : ℤ) → pos 0 <ℤ b → ((pos 2 *ℤ b) *ℤ n) ≤ℤ (pos 2 *ℤ a +ℤ b) → (pos 2 *ℤ a +ℤ b) <ℤ ((pos 2 *ℤ b) *ℤ n +ℤ pos 2 *ℤ b) → n ≡ round_of a b
rounds n a b positive low high =
    one_floor (pos 2 *ℤ a +ℤ b) (pos 2 *ℤ b) n (round_of a b) (twice_positive b positive) low high
    (floor_low (pos 2 *ℤ a +ℤ b) (pos 2 *ℤ b) (twice_positive b positive)) (floor_high (pos 2 *ℤ a +ℤ b) (pos 2 *ℤ b) (twice_positive b positive))

product_is : (n b : ℤ) → (pos 2 *ℤ b) *ℤ n ≡ pos 2 *ℤ (n *ℤ b)
product_is n b = ring (n ∷ (b ∷ [])) ((con (pos 2) ⊗ var 1) ⊗ var 0) (con (pos 2) ⊗ (var 0 ⊗ var 1)) refl

product_back : (n b : ℤ) → (pos 2 *ℤ b) *ℤ neg_ℤ n ≡ neg_ℤ (pos 2 *ℤ (n *ℤ b))
product_back n b = ring (n ∷ (b ∷ [])) ((con (pos 2) ⊗ var 1) ⊗ neg (var 0)) (neg (con (pos 2) ⊗ (var 0 ⊗ var 1))) refl

-- ---- near a fraction is rounded
pub either : (n a b : ℤ) → pos 0 <ℤ b → IsWithinHalf n a b → (n ≡ round_of a b) ⊎ (round_of (neg_ℤ a) b ≡ neg_ℤ n)
either n a b positive near =
    by_lt_z (pos 2 *ℤ a -ℤ b) (pos 2 *ℤ (n *ℤ b))
    (λ apart. inl (rounds n a b positive (low ((pos 2 *ℤ b) *ℤ n) (n *ℤ b) a b (product_is n b) positive near) (high ((pos 2 *ℤ b) *ℤ n) (n *ℤ b) a b (product_is n b) apart)))
    (λ level. inr (sym (rounds (neg_ℤ n) (neg_ℤ a) b positive
    (low_back ((pos 2 *ℤ b) *ℤ neg_ℤ n) (n *ℤ b) a b (product_back n b) positive near) (high_back ((pos 2 *ℤ b) *ℤ neg_ℤ n) (n *ℤ b) a b (product_back n b) positive level))))
  where
    low : (t p a b : ℤ) → t ≡ pos 2 *ℤ p → pos 0 <ℤ b → unsigned_abs (pos 2 *ℤ (p -ℤ a)) ≤ unsigned_abs b → t ≤ℤ (pos 2 *ℤ a +ℤ b)
    low t p a b e positive near = omega (arith, ints)

    high : (t p a b : ℤ) → t ≡ pos 2 *ℤ p → (pos 2 *ℤ a -ℤ b) <ℤ (pos 2 *ℤ p) → (pos 2 *ℤ a +ℤ b) <ℤ (t +ℤ pos 2 *ℤ b)
    high t p a b e apart = omega (arith, ints)

    low_back : (t p a b : ℤ) → t ≡ neg_ℤ (pos 2 *ℤ p) → pos 0 <ℤ b → unsigned_abs (pos 2 *ℤ (p -ℤ a)) ≤ unsigned_abs b → t ≤ℤ (pos 2 *ℤ neg_ℤ a +ℤ b)
    low_back t p a b e positive near = omega (arith, ints)

    high_back : (t p a b : ℤ) → t ≡ neg_ℤ (pos 2 *ℤ p) → pos 0 <ℤ b → (pos 2 *ℤ p) ≤ℤ (pos 2 *ℤ a -ℤ b) → (pos 2 *ℤ neg_ℤ a +ℤ b) <ℤ (t +ℤ pos 2 *ℤ b)
    high_back t p a b e positive level = omega (arith, ints)

from_up : (n a b : ℤ) → pos 0 <ℤ b → n ≡ round_of a b → IsWithinHalf n a b
from_up n a b positive e =
    near ((pos 2 *ℤ b) *ℤ n) (n *ℤ b) a b (product_is n b) positive
    (subst (λ r. ((pos 2 *ℤ b) *ℤ r) ≤ℤ (pos 2 *ℤ a +ℤ b)) (sym e) (floor_low (pos 2 *ℤ a +ℤ b) (pos 2 *ℤ b) (twice_positive b positive)))
    (subst (λ r. (pos 2 *ℤ a +ℤ b) <ℤ ((pos 2 *ℤ b) *ℤ r +ℤ pos 2 *ℤ b)) (sym e) (floor_high (pos 2 *ℤ a +ℤ b) (pos 2 *ℤ b) (twice_positive b positive)))
  where
    near : (t p a b : ℤ) → t ≡ pos 2 *ℤ p → pos 0 <ℤ b → t ≤ℤ (pos 2 *ℤ a +ℤ b) → (pos 2 *ℤ a +ℤ b) <ℤ (t +ℤ pos 2 *ℤ b) → unsigned_abs (pos 2 *ℤ (p -ℤ a)) ≤ unsigned_abs b
    near t p a b e positive low high = omega (arith, ints)

from_down : (n a b : ℤ) → pos 0 <ℤ b → round_of (neg_ℤ a) b ≡ neg_ℤ n → IsWithinHalf n a b
from_down n a b positive e =
    near ((pos 2 *ℤ b) *ℤ neg_ℤ n) (n *ℤ b) a b (product_back n b) positive
    (subst (λ r. ((pos 2 *ℤ b) *ℤ r) ≤ℤ (pos 2 *ℤ neg_ℤ a +ℤ b)) e (floor_low (pos 2 *ℤ neg_ℤ a +ℤ b) (pos 2 *ℤ b) (twice_positive b positive)))
    (subst (λ r. (pos 2 *ℤ neg_ℤ a +ℤ b) <ℤ ((pos 2 *ℤ b) *ℤ r +ℤ pos 2 *ℤ b)) e (floor_high (pos 2 *ℤ neg_ℤ a +ℤ b) (pos 2 *ℤ b) (twice_positive b positive)))
  where
    near : (t p a b : ℤ) → t ≡ neg_ℤ (pos 2 *ℤ p) → pos 0 <ℤ b → t ≤ℤ (pos 2 *ℤ neg_ℤ a +ℤ b) → (pos 2 *ℤ neg_ℤ a +ℤ b) <ℤ (t +ℤ pos 2 *ℤ b) → unsigned_abs (pos 2 *ℤ (p -ℤ a)) ≤ unsigned_abs b
    near t p a b e positive low high = omega (arith, ints)

-- ---- the same as tests
half_decides : (n a b : ℤ) → Decides (is_within_half n a b) (IsWithinHalf n a b)
half_decides n a b = number (unsigned_abs (pos 2 *ℤ (n *ℤ b -ℤ a))) (unsigned_abs b)
  where
    number : (m n : ℕ) → Decides (nat_le m n) (m ≤ n)
    number m n = (λ e. one m n e, λ h. other m n h)
      where
        one : (m n : ℕ) → nat_le m n ≡ true → m ≤ n
        one m n e = grind (arith, nat_tests)

        other : (m n : ℕ) → m ≤ n → nat_le m n ≡ true
        other m n h = grind (arith, nat_tests)

same_truth : (s t : Bool) → (s ≡ true → t ≡ true) → (t ≡ true → s ≡ true) → s ≡ t
same_truth true t f g = sym (f refl)
same_truth false true f g = g refl
same_truth false false f g = refl

one_true : (s t : Bool) → (s || t) ≡ true → (s ≡ true) ⊎ (t ≡ true)
one_true true t e = inl refl
one_true false t e = inr e

first_true : (s t : Bool) → s ≡ true → (s || t) ≡ true
first_true s t e = ap (λ b. b || t) e

second_true : (s t : Bool) → t ≡ true → (s || t) ≡ true
second_true true t e = refl
second_true false t e = e

both : (s t : Bool) → s ≡ true → t ≡ true → (s && t) ≡ true
both s t e f = λ i. e i && f i

both_true : (s t : Bool) → (s && t) ≡ true → (s ≡ true) × (t ≡ true)
both_true true t e = (refl, e)
both_true false t e = cc

half_is : (n a b : ℤ) → pos 0 <ℤ b → (int_eq n (round_of a b) || int_eq (round_of (neg_ℤ a) b) (neg_ℤ n)) ≡ is_within_half n a b
half_is n a b positive = same_truth (int_eq n (round_of a b) || int_eq (round_of (neg_ℤ a) b) (neg_ℤ n)) (is_within_half n a b)
    (λ e. (half_decides n a b).1 (elim (one_true (int_eq n (round_of a b)) (int_eq (round_of (neg_ℤ a) b) (neg_ℤ n)) e) [
      | inl up ↦ from_up n a b positive ((Decides-int_eq n (round_of a b)).0 up)
      | inr down ↦ from_down n a b positive ((Decides-int_eq (round_of (neg_ℤ a) b) (neg_ℤ n)).0 down)
    ]))
    (λ e. elim (either n a b positive ((half_decides n a b).0 e)) [
      | inl up ↦ first_true (int_eq n (round_of a b)) (int_eq (round_of (neg_ℤ a) b) (neg_ℤ n)) ((Decides-int_eq n (round_of a b)).1 up)
      | inr down ↦ second_true (int_eq n (round_of a b)) (int_eq (round_of (neg_ℤ a) b) (neg_ℤ n)) ((Decides-int_eq (round_of (neg_ℤ a) b) (neg_ℤ n)).1 down)
    ])

-- ---- images in a negated frame
negated_above : (r s t off g x y z w : ℤ) → (neg_ℤ r *ℤ x +ℤ neg_ℤ s *ℤ y +ℤ neg_ℤ t *ℤ z) *ℤ g +ℤ neg_ℤ off *ℤ pos 1000000 *ℤ w ≡ neg_ℤ ((r *ℤ x +ℤ s *ℤ y +ℤ t *ℤ z) *ℤ g +ℤ off *ℤ pos 1000000 *ℤ w)
negated_above r s t off g x y z w = ring (r ∷ (s ∷ (t ∷ (off ∷ (g ∷ (x ∷ (y ∷ (z ∷ (w ∷ [])))))))))
    ((neg (var 0) ⊗ var 5 ⊕ neg (var 1) ⊗ var 6 ⊕ neg (var 2) ⊗ var 7) ⊗ var 4 ⊕ neg (var 3) ⊗ con (pos 1000000) ⊗ var 8)
    (neg ((var 0 ⊗ var 5 ⊕ var 1 ⊗ var 6 ⊕ var 2 ⊗ var 7) ⊗ var 4 ⊕ var 3 ⊗ con (pos 1000000) ⊗ var 8)) refl

pub row_negated : (row : Vector) (off : ℤ) (grid : ℕ) (p : Point) → image_above (reversed row) (neg_ℤ off) grid p ≡ neg_ℤ (image_above row off grid p)
row_negated row off grid p = negated_above row.x row.y row.z off (pos grid) p.x p.y p.z p.w

pub below_positive : (w : ℤ) → pos 0 <ℤ w → pos 0 <ℤ (pos (10 ^ 9) *ℤ w)
below_positive w h = omega (arith, ints)

-- ---- what the code finds of a corner
module _ (f : Transform) (grid : ℕ) (c : Corner) (printed up down : List ℤ) (ups : vector_of up ≡ rounded_image f grid (point_of c)) (downs : vector_of down ≡ rounded_image (negated f) grid (point_of c)) where
  abbrev p : Point
  p = point_of c

  pub one_near : (n u d : ℤ) (row : Vector) (off : ℤ) → u ≡ round_of (image_above row off grid p) (image_below p) → d ≡ round_of (image_above (reversed row) (neg_ℤ off) grid p) (image_below p)
      → (int_eq n u || int_eq d (neg_ℤ n)) ≡ is_within_half n (image_above row off grid p) (image_below p)
  one_near n u d row off eu ed =
      ap₂ (λ x y. int_eq n x || int_eq y (neg_ℤ n)) eu (ed ∙ ap (λ a. round_of a (image_below p)) (row_negated row off grid p))
      ∙ half_is n (image_above row off grid p) (image_below p) (below_positive c.w c.positive)

  pub by_both : ((int_eq (number_at printed 0) (number_at up 0) || int_eq (number_at down 0) (neg_ℤ (number_at printed 0)))
      && ((int_eq (number_at printed 1) (number_at up 1) || int_eq (number_at down 1) (neg_ℤ (number_at printed 1)))
      && (int_eq (number_at printed 2) (number_at up 2) || int_eq (number_at down 2) (neg_ℤ (number_at printed 2))))) ≡ is_near f grid (page_corner c printed)
  by_both = λ i.
      one_near (number_at printed 0) (number_at up 0) (number_at down 0) f.x f.off.x (ap (λ (v : Vector). v.x) ups) (ap (λ (v : Vector). v.x) downs) i
      && (one_near (number_at printed 1) (number_at up 1) (number_at down 1) f.y f.off.y (ap (λ (v : Vector). v.y) ups) (ap (λ (v : Vector). v.y) downs) i
      && one_near (number_at printed 2) (number_at up 2) (number_at down 2) f.z f.off.z (ap (λ (v : Vector). v.z) ups) (ap (λ (v : Vector). v.z) downs) i)

-- what is rounded upwards is near
pub by_up : (f : Transform) (grid : ℕ) (c : Corner) (printed up : List ℤ) → vector_of up ≡ rounded_image f grid (point_of c)
    → (int_eq (number_at printed 0) (number_at up 0) && (int_eq (number_at printed 1) (number_at up 1) && int_eq (number_at printed 2) (number_at up 2))) ≡ true
    → is_near f grid (page_corner c printed) ≡ true
by_up f grid c printed up ups e =
    let first = both_true (int_eq (number_at printed 0) (number_at up 0)) (int_eq (number_at printed 1) (number_at up 1) && int_eq (number_at printed 2) (number_at up 2)) e in
    let rest = both_true (int_eq (number_at printed 1) (number_at up 1)) (int_eq (number_at printed 2) (number_at up 2)) first.1 in
    λ i. one (number_at printed 0) (number_at up 0) f.x f.off.x first.0 (ap (λ (v : Vector). v.x) ups) i
    && (one (number_at printed 1) (number_at up 1) f.y f.off.y rest.0 (ap (λ (v : Vector). v.y) ups) i
    && one (number_at printed 2) (number_at up 2) f.z f.off.z rest.1 (ap (λ (v : Vector). v.z) ups) i)
  where
    one : (n u : ℤ) (row : Vector) (off : ℤ) → int_eq n u ≡ true → u ≡ round_of (image_above row off grid (point_of c)) (image_below (point_of c))
        → is_within_half n (image_above row off grid (point_of c)) (image_below (point_of c)) ≡ true
    one n u row off same eu =
        (half_decides n (image_above row off grid (point_of c)) (image_below (point_of c))).1
        (from_up n (image_above row off grid (point_of c)) (image_below (point_of c)) (below_positive c.w c.positive) ((Decides-int_eq n u).0 same ∙ eu))

-- the test decides
pub near_decides : (f : Transform) (grid : ℕ) (c : PageCorner) → Decides (is_near f grid c) (IsNearImage f grid c)
near_decides f grid c =
    let x = is_within_half c.printed.x (image_above f.x f.off.x grid c.exact) (image_below c.exact) in
    let y = is_within_half c.printed.y (image_above f.y f.off.y grid c.exact) (image_below c.exact) in
    let z = is_within_half c.printed.z (image_above f.z f.off.z grid c.exact) (image_below c.exact) in (
      λ e. let first = both_true x (y && z) e in let rest = both_true y z first.1 in record {
        x = (half_decides c.printed.x (image_above f.x f.off.x grid c.exact) (image_below c.exact)).0 first.0;
        y = (half_decides c.printed.y (image_above f.y f.off.y grid c.exact) (image_below c.exact)).0 rest.0;
        z = (half_decides c.printed.z (image_above f.z f.off.z grid c.exact) (image_below c.exact)).0 rest.1;
      },
      λ h. both x (y && z) ((half_decides c.printed.x (image_above f.x f.off.x grid c.exact) (image_below c.exact)).1 h.x)
          (both y z ((half_decides c.printed.y (image_above f.y f.off.y grid c.exact) (image_below c.exact)).1 h.y) ((half_decides c.printed.z (image_above f.z f.off.z grid c.exact) (image_below c.exact)).1 h.z)),
    )

-- ---- truths of three tests, one after the other
pub by_third : (r s t a b c : Bool) → r ≡ true → s ≡ true → r ≡ a → s ≡ b → t ≡ c → t ≡ (a && (b && c))
by_third r s t a b c x y e f g = g ∙ λ i. up i && (over i && c)
  where
    up : true ≡ a
    up = sym x ∙ e

    over : true ≡ b
    over = sym y ∙ f

pub by_second : (r s a b c : Bool) → r ≡ true → s ≡ false → r ≡ a → s ≡ b → false ≡ (a && (b && c))
by_second r s a b c x y e f = λ i. up i && (over i && c)
  where
    up : true ≡ a
    up = sym x ∙ e

    over : false ≡ b
    over = sym y ∙ f
