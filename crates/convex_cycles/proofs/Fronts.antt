-- Where every side of a convex cycle is spare for a cut, no inner point lies in front of it.
use Rattle.std.proofs.Common.{◌≡◌, ◌≢◌, ◌⊎◌, inl, inr, List, [], ◌∷◌, ℤ, pos, neg_ℤ, ◌*ℤ◌, ◌-ℤ◌, ◌<ℤ◌, refl, sym, ap, ◌∙◌, subst, arith}
use Rattle.std.proofs.lemmas.Int.{ints}
use Rattle.integer_laws.proofs.Ring.{var, con, ◌⊗◌, ◌⊖◌, ring}
use Rattle.integer_laws.proofs.Signs.{mul_positive, square_positive}
use Rattle.spec_space.specs.declared.Point.{Point}
use Rattle.spec_space.specs.declared.Plane.{Plane}
use Rattle.spec_space.specs.Points.{value}
use Rattle.integer_laws.specs.Determinants.{det2}
use Rattle.integer_laws.proofs.Cancel.{sign_cases, mul_zero_right}
use Rattle.convex_cycles.specs.Cycles.{turn}
use Rattle.convex_cycles.proofs.Lists.{Each, Member, each_member}
use Rattle.convex_cycles.proofs.Orders.{not_level}
use Rattle.convex_cycles.proofs.Quotes.{valuee, det2e, turne}
use Rattle.convex_cycles.proofs.Crossings.{In}
use Rattle.convex_cycles.proofs.Turns.{turned}
use Rattle.convex_cycles.proofs.Spares.{IsSpare, spare_sides}

-- ---- turns with one normal twice
flat_first : (s g : Plane) → turn s g s ≡ pos 0
flat_first s g = ring (s.a ∷ (s.b ∷ (s.c ∷ (g.a ∷ (g.b ∷ (g.c ∷ [])))))) (turne (var 0) (var 1) (var 2) (var 3) (var 4) (var 5) (var 0) (var 1) (var 2)) (con (pos 0)) refl

flat_second : (s g : Plane) → turn s g g ≡ pos 0
flat_second s g = ring (s.a ∷ (s.b ∷ (s.c ∷ (g.a ∷ (g.b ∷ (g.c ∷ [])))))) (turne (var 0) (var 1) (var 2) (var 3) (var 4) (var 5) (var 3) (var 4) (var 5)) (con (pos 0)) refl

-- from p along the line of the planes s and g, to the plane of f
module _ (s g f : Plane) (p : Point) (apart : turn s g f ≢ pos 0) where
  abbrev pub k : ℤ
  k = turn s g f

  pub reached : Point
  reached = record {
    x = k *ℤ (k *ℤ p.x -ℤ value f p *ℤ det2 s.b s.c g.b g.c);
    y = k *ℤ (k *ℤ p.y -ℤ value f p *ℤ det2 s.c s.a g.c g.a);
    z = k *ℤ (k *ℤ p.z -ℤ value f p *ℤ det2 s.a s.b g.a g.b);
    w = (k *ℤ k) *ℤ p.w;
  }

  -- the value of any plane there
  pub at-reached : (h : Plane) → value h reached ≡ (k *ℤ k) *ℤ value h p -ℤ (k *ℤ value f p) *ℤ turn s g h
  unfolding reached
  at-reached h =
      let numbers : List ℤ = turn s g f ∷ (value f p ∷ (s.a ∷ (s.b ∷ (s.c ∷ (g.a ∷ (g.b ∷ (g.c ∷ (h.a ∷ (h.b ∷ (h.c ∷ (h.d ∷ (p.x ∷ (p.y ∷ (p.z ∷ (p.w ∷ []))))))))))))))) in
      ring numbers
      (valuee (var 8) (var 9) (var 10) (var 11)
      (var 0 ⊗ (var 0 ⊗ var 12 ⊖ var 1 ⊗ det2e (var 3) (var 4) (var 6) (var 7)))
      (var 0 ⊗ (var 0 ⊗ var 13 ⊖ var 1 ⊗ det2e (var 4) (var 2) (var 7) (var 5)))
      (var 0 ⊗ (var 0 ⊗ var 14 ⊖ var 1 ⊗ det2e (var 2) (var 3) (var 5) (var 6)))
      (var 0 ⊗ var 0 ⊗ var 15))
      (var 0 ⊗ var 0 ⊗ valuee (var 8) (var 9) (var 10) (var 11) (var 12) (var 13) (var 14) (var 15)
      ⊖ var 0 ⊗ var 1 ⊗ turne (var 2) (var 3) (var 4) (var 5) (var 6) (var 7) (var 8) (var 9) (var 10)) refl

  -- it lies on the plane of f
  pub reached_side : value f reached ≡ pos 0
  unfolding reached
  reached_side = at-reached f ∙ gone (turn s g f) (value f p)
    where
      gone : (x y : ℤ) → (x *ℤ x) *ℤ y -ℤ (x *ℤ y) *ℤ x ≡ pos 0
      gone x y = ring (x ∷ (y ∷ [])) (var 0 ⊗ var 0 ⊗ var 1 ⊖ var 0 ⊗ var 1 ⊗ var 0) (con (pos 0)) refl

  -- a value that does not change along the line keeps its sign
  pub reached_same : (h : Plane) → turn s g h ≡ pos 0 → value h reached ≡ (k *ℤ k) *ℤ value h p
  unfolding reached
  reached_same h flat = at-reached h ∙ ap (λ v. (turn s g f *ℤ turn s g f) *ℤ value h p -ℤ (turn s g f *ℤ value f p) *ℤ v) flat ∙ gone ((turn s g f *ℤ turn s g f) *ℤ value h p) (turn s g f *ℤ value f p)
    where
      gone : (x y : ℤ) → x -ℤ y *ℤ pos 0 ≡ x
      gone x y = omega (arith, ints)

  pub reached_on : value s p ≡ pos 0 → value s reached ≡ pos 0
  unfolding reached
  reached_on on = reached_same s (flat_first s g) ∙ ap (λ v. (turn s g f *ℤ turn s g f) *ℤ v) on ∙ mul_zero_right (turn s g f *ℤ turn s g f)

  pub reached_front : (h : Plane) → turn s g h ≡ pos 0 → In p h → In reached h
  unfolding reached
  reached_front h flat front = subst (λ x. pos 0 <ℤ x) (sym (reached_same h flat)) (mul_positive (turn s g f *ℤ turn s g f) (value h p) (square_positive (turn s g f) apart) front)

-- two sides that meet, of a list
pub record HasCorner (s : Plane) (fs : List Plane) : Type 0 where
  pub first : Plane
  pub second : Plane
  pub first_of : Member first fs
  pub second_of : Member second fs
  pub apart : turn s first second ≢ pos 0

zero_or_not : (x : ℤ) → (x ≡ pos 0) ⊎ (x ≢ pos 0)
zero_or_not x = elim (sign_cases x) [
  | inl low ↦ inr (λ e. under x e low)
  | inr (inl same) ↦ inl same
  | inr (inr high) ↦ inr (λ e. not_level x e high)
]
  where
    under : (x : ℤ) → x ≡ pos 0 → x <ℤ pos 0 → ⊥
    under x h k = omega (arith, ints)

-- where every side is spare for the cut, no inner point lies in front of it
pub none_in_front : (s cut : Plane) (fs : List Plane) → HasCorner s fs → Each (IsSpare s [] fs cut) fs → (p : Point) → value s p ≡ pos 0 → Each (In p) fs → In p cut → ⊥
none_in_front s cut fs corner spare p on within front = elim (zero_or_not (turn s cut corner.first)) [
  | inr apart ↦
      let far = reached s cut corner.first p apart in
      let all = spare_sides s cut [] fs far p spare on front tt within (reached_on s cut corner.first p apart on) (reached_front s cut corner.first p apart cut (flat_second s cut) front) tt in
      not_level (value corner.first far) (reached_side s cut corner.first p apart) (each_member (In far) corner.first fs corner.first_of all)
  | inl flat ↦
      let far = reached s corner.first corner.second p corner.apart in
      let all = spare_sides s cut [] fs far p spare on front tt within (reached_on s corner.first corner.second p corner.apart on) (reached_front s corner.first corner.second p corner.apart cut (turned s cut corner.first ∙ ap neg_ℤ flat) front) tt in
      not_level (value corner.second far) (reached_side s corner.first corner.second p corner.apart) (each_member (In far) corner.second fs corner.second_of all)
]
