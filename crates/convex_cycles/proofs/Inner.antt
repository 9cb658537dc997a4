-- A point strictly inside all sides of a convex cycle, near a given corner.
use Rattle.std.proofs.Common.{◌≡◌, inl, inr, List, [], ◌∷◌, ◌+◌, ℕ, ℤ, pos, ◌+ℤ◌, ◌*ℤ◌, ◌<ℤ◌, ◌≤ℤ◌, unsigned_abs, sym, ap, ◌∙◌, subst, arith}
use Rattle.std.proofs.lemmas.Int.{ints}
use Rattle.spec_space.specs.declared.Point.{Point}
use Rattle.spec_space.specs.declared.Plane.{Plane}
use Rattle.spec_space.specs.Points.{IsPoint, value}
use Rattle.spec_space.specs.Sums.{plus}
use Rattle.convex_cycles.proofs.Values.{value_linear}
use Rattle.integer_laws.proofs.Signs.{mul_nonneg}
use Rattle.convex_cycles.specs.Cycles.{Step}
use Rattle.convex_cycles.proofs.Lists.{Each, Member}
use Rattle.convex_cycles.proofs.Orders.{weaker, sum_positive, sum_positive_second, sum_nonneg}
use Rattle.convex_cycles.proofs.Reaches.{positive_number, outdone}
use Rattle.convex_cycles.proofs.Crossings.{In, Touches, mean, mean-value, mean-IsPoint, mean_zero}
use Rattle.convex_cycles.proofs.Links.{IsLinked, sides, corners, corner_member, each_mapped, edge, far_corner}

-- ---- the middle of some points
abbrev pub middle : Point → List Point → Point
middle c [] = c
middle c (q ∷ qs) = plus q (middle c qs)

middle-IsPoint : (c : Point) (qs : List Point) → IsPoint c → Each IsPoint qs → IsPoint (middle c qs)
middle-IsPoint c [] h e = h
middle-IsPoint c (q ∷ qs) h e = sum_positive q.w (middle c qs).w e.0 (weaker (middle c qs).w (middle-IsPoint c qs h e.1))

middle_on : (s : Plane) (c : Point) (qs : List Point) → value s c ≡ pos 0 → Each (λ q. value s q ≡ pos 0) qs → value s (middle c qs) ≡ pos 0
middle_on s c [] h e = h
middle_on s c (q ∷ qs) h e = value_linear s q (middle c qs) ∙ ap (λ v. v +ℤ value s (middle c qs)) e.0 ∙ ap (λ v. pos 0 +ℤ v) (middle_on s c qs h e.1)

middle_touches : (g : Plane) (c : Point) (qs : List Point) → Touches c g → Each (λ q. Touches q g) qs → Touches (middle c qs) g
middle_touches g c [] h e = h
middle_touches g c (q ∷ qs) h e = subst (λ x. pos 0 ≤ℤ x) (sym (value_linear g q (middle c qs))) (sum_nonneg (value g q) (value g (middle c qs)) e.0 (middle_touches g c qs h e.1))

-- it is strictly inside where one of them is
middle_in : (g : Plane) (c f : Point) (qs : List Point) → Touches c g → Each (λ q. Touches q g) qs → Member f qs → In f g → In (middle c qs) g
middle_in g c f [] h e m i = absurd m
middle_in g c f (q ∷ qs) h e (inl here) i = subst (λ x. pos 0 <ℤ x) (sym (value_linear g q (middle c qs)))
    (sum_positive (value g q) (value g (middle c qs)) (subst (λ p. In p g) here i) (middle_touches g c qs h e.1))
middle_in g c f (q ∷ qs) h e (inr there) i = subst (λ x. pos 0 <ℤ x) (sym (value_linear g q (middle c qs)))
    (sum_positive_second (value g q) (value g (middle c qs)) e.0 (middle_in g c f qs h e.1 there i))

-- ---- near a corner
abbrev size : Plane → Point → ℕ
size h p = unsigned_abs (value h p) + 1

size_positive : (h : Plane) (p : Point) → pos 0 <ℤ pos (size h p)
size_positive h p = positive_number (unsigned_abs (value h p) + 1) (omega arith)

-- c so often that the value of h at m does not matter, and m
abbrev near : Plane → Point → Point → Point
near h c m = mean (pos (size h m)) (pos 1) c m

one_nonneg : pos 0 ≤ℤ pos 1
one_nonneg = omega (arith, ints)

one_times : (x : ℤ) → pos 1 *ℤ x ≡ x
one_times x = omega (arith, ints)

-- where c touches a side and m is strictly inside
near_in : (h g : Plane) (c m : Point) → Touches c g → In m g → In (near h c m) g
near_in h g c m t i = subst (λ x. pos 0 <ℤ x) (sym (mean-value (pos (size h m)) (pos 1) c m g))
    (sum_positive_second (pos (size h m) *ℤ value g c) (pos 1 *ℤ value g m) (mul_nonneg (pos (size h m)) (value g c) (weaker (pos (size h m)) (size_positive h m)) t) (subst (λ x. pos 0 <ℤ x) (sym (one_times (value g m))) i))

near_front : (h : Plane) (c m : Point) → In c h → In (near h c m) h
near_front h c m i = subst (λ x. pos 0 <ℤ x) (sym (mean-value (pos (size h m)) (pos 1) c m h ∙ ap (λ x. pos (size h m) *ℤ value h c +ℤ x) (one_times (value h m))))
    (outdone (size h m) (value h c) (value h m) i (omega arith))

-- a point of the plane s, strictly inside all sides and in front of h
pub record InnerPoint (s h : Plane) (gs : List Plane) : Type 0 where
  pub point : Point
  pub is_point : IsPoint point
  pub on : value s point ≡ pos 0
  pub within : Each (In point) gs
  pub front : In point h

-- a convex cycle with a corner in front of h has an inner point there
pub inner_near : (s h : Plane) (steps : List Step) → IsLinked s steps → (c : Step) → Member c steps → In c.start h → InnerPoint s h (sides steps)
inner_near s h steps linked c c_of front =
    let m = middle c.start (corners steps) in
    record {
      point = near h c.start m;
      is_point = mean-IsPoint (pos (size h m)) (pos 1) c.start m (size_positive h m) one_nonneg (edge s steps linked c c_of).start_point
          (middle-IsPoint c.start (corners steps) (edge s steps linked c c_of).start_point (each_mapped IsPoint (λ e. e.start) steps (λ e e_of. (edge s steps linked e e_of).start_point)));
      on = mean_zero (pos (size h m)) (pos 1) c.start m s (edge s steps linked c c_of).start_on
          (middle_on s c.start (corners steps) (edge s steps linked c c_of).start_on (each_mapped (λ q. value s q ≡ pos 0) (λ e. e.start) steps (λ e e_of. (edge s steps linked e e_of).start_on)));
      within = each_mapped (In (near h c.start m)) (λ e. e.side) steps (λ e e_of. near_in h e.side c.start m (linked.inside e c e_of c_of) (middle_inside e e_of));
      front = near_front h c.start m front;
    }
  where
    middle_inside : (e : Step) → Member e steps → In (middle c.start (corners steps)) e.side
    middle_inside e e_of =
        let f = far_corner s steps linked e e_of in
        middle_in e.side c.start f.step.start (corners steps) (linked.inside e c e_of c_of)
        (each_mapped (λ q. Touches q e.side) (λ f. f.start) steps (λ f f_of. linked.inside e f e_of f_of))
        (corner_member f.step steps f.of_list) f.holds

-- a convex cycle has an inner point
pub inner_point : (s : Plane) (steps : List Step) → (linked : IsLinked s steps) → InnerPoint s linked.first.next (sides steps)
inner_point s steps linked = inner_near s linked.first.next steps linked linked.first linked.first_of (edge s steps linked linked.first linked.first_of).inside_next
