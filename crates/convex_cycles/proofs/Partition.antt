-- The points that a cut leaves of a convex cycle.
use Rattle.std.proofs.Common.{◌≡◌, ◌⊎◌, inl, inr, Bool, true, false, List, [], ◌∷◌, pos, ◌≤ℤ◌, refl, sym, subst}
use Rattle.spec_space.specs.declared.Point.{Point}
use Rattle.spec_space.specs.declared.Plane.{Plane}
use Rattle.spec_space.specs.Points.{IsPoint, value}
use Rattle.convex_cycles.specs.Sides.{is_in_front}
use Rattle.convex_cycles.specs.Cycles.{Step}
use Rattle.convex_cycles.proofs.Lists.{Each, Member, joined, each_member, each_from_members, each_map, each_joined, member_joined}
use Rattle.convex_cycles.proofs.Orders.{not_both}
use Rattle.convex_cycles.proofs.Flags.{front_tells}
use Rattle.convex_cycles.proofs.Crossings.{In, Touches}
use Rattle.convex_cycles.proofs.NewEdges.{leaving, entering, along}
use Rattle.convex_cycles.proofs.Spares.{IsSpare, spare_sides}
use Rattle.convex_cycles.proofs.Edges.{IsSpare-edge}
use Rattle.convex_cycles.proofs.Links.{IsLinked, sides, side_member, edge, prev_member, next_member}
use Rattle.convex_cycles.proofs.Inner.{InnerPoint}
use Rattle.convex_cycles.proofs.Hull.{closure}
use Rattle.convex_cycles.proofs.Keeping.{Leaves}
use Rattle.convex_cycles.proofs.Remains.{parts, parts_of, cut_steps, AreFlags}

-- ---- what holds of the cut and of each side holds of each new side
parts_each : (P : Plane → Type 0) (k : Plane) (v e : Step) (b c : Bool) → P k → P e.side → Each (λ x. P x.side) (parts k v e b c)
parts_each P k v e true true pk pe = (pe, tt)
parts_each P k v e true false pk pe = (pe, (pk, tt))
parts_each P k v e false true pk pe = (pe, tt)
parts_each P k v e false false pk pe = tt

pub cut_each : (P : Plane → Type 0) (k : Plane) (v : Step) (steps : List Step) → P k → Each P (sides steps) → Each P (sides (cut_steps k v steps))
cut_each P k v steps pk all =
    each_map P (λ e. e.side) (cut_steps k v steps)
    (each_joined (λ x. P x.side) (parts_of k v) steps (each_from_members (λ e. Each (λ x. P x.side) (parts_of k v e)) steps
    (λ e m. parts_each P k v e (is_in_front k e.start) (is_in_front k e.end) pk (each_member P e.side (sides steps) (side_member e steps m) all))))

-- ---- the sides of which nothing is left
abbrev pub spare_part : Plane → Step → Bool → Bool → List Plane
spare_part k e true c = []
spare_part k e false true = []
spare_part k e false false = e.side ∷ []

abbrev pub spares_of : Plane → Step → List Plane
spares_of k e = spare_part k e (is_in_front k e.start) (is_in_front k e.end)

abbrev pub spares : Plane → List Step → List Plane
spares k steps = joined (spares_of k) steps

spare_each : (P : Plane → Type 0) (k : Plane) (e : Step) (b c : Bool) → AreFlags k e b c → (value k e.start ≤ℤ pos 0 → value k e.end ≤ℤ pos 0 → P e.side) → Each P (spare_part k e b c)
spare_each P k e true c flags h = tt
spare_each P k e false true flags h = tt
spare_each P k e false false flags h = (h flags.0 flags.1, tt)

spares_each : (P : Plane → Type 0) (k : Plane) (steps : List Step) → ((e : Step) → Member e steps → value k e.start ≤ℤ pos 0 → value k e.end ≤ℤ pos 0 → P e.side) → Each P (spares k steps)
spares_each P k steps h = each_joined P (spares_of k) steps (each_from_members (λ e. Each P (spares_of k e)) steps
    (λ e m. spare_each P k e (is_in_front k e.start) (is_in_front k e.end) (front_tells k e.start, front_tells k e.end) (h e m)))

-- each side is left, or spare
part_case : (k : Plane) (v e : Step) (b c : Bool) → ((x : Step) × Member x (parts k v e b c) × (x.side ≡ e.side)) ⊎ Member e.side (spare_part k e b c)
part_case k v e true true = inl (e, inl refl, refl)
part_case k v e true false = inl (leaving k e, inl refl, refl)
part_case k v e false true = inl (entering k e, inl refl, refl)
part_case k v e false false = inr (inl refl)

pub left_or_spare : (k : Plane) (v : Step) (steps : List Step) (e : Step) → Member e steps → Member e.side (sides (cut_steps k v steps)) ⊎ Member e.side (spares k steps)
left_or_spare k v steps e m = elim (part_case k v e (is_in_front k e.start) (is_in_front k e.end)) [
  | inl left ↦ inl (subst (λ h. Member h (sides (cut_steps k v steps))) left.2 (side_member left.0 (cut_steps k v steps) (member_joined (parts_of k v) left.0 e steps m left.1)))
  | inr spare ↦ inr (member_joined (spares_of k) e.side e steps m spare)
]

-- the new edge on the cut is among the new edges
parts_along : (k : Plane) (v u : Step) (b c : Bool) → AreFlags k u b c → Leaves k u → Member (along k u v) (parts k v u b c)
parts_along k v u true true flags leaves = absurd (not_both (value k u.end) flags.1 leaves.1)
parts_along k v u true false flags leaves = inr (inl refl)
parts_along k v u false c flags leaves = absurd (not_both (value k u.start) leaves.0 flags.0)

pub holds_along : (k : Plane) (v : Step) (steps : List Step) (u : Step) → Member u steps → Leaves k u → Member (along k u v) (cut_steps k v steps)
holds_along k v steps u m leaves = member_joined (parts_of k v) (along k u v) u steps m (parts_along k v u (is_in_front k u.start) (is_in_front k u.end) (front_tells k u.start, front_tells k u.end) leaves)

-- ---- the points
module _ (s k : Plane) (steps : List Step) (linked : IsLinked s steps) (v : Step) (m : InnerPoint s k (sides steps)) where
  side_case : (f : Plane) → Member f (sides steps) → Member f (sides (cut_steps k v steps)) ⊎ Member f (spares k steps)
  side_case f f_of = from f steps f_of (left_or_spare k v steps)
    where
      from : (f : Plane) (es : List Step) → Member f (sides es) → ((e : Step) → Member e es → Member e.side (sides (cut_steps k v steps)) ⊎ Member e.side (spares k steps)) → Member f (sides (cut_steps k v steps)) ⊎ Member f (spares k steps)
      from f [] f_of h = absurd f_of
      from f (e ∷ es) (inl same) h = subst (λ g. Member g (sides (cut_steps k v steps)) ⊎ Member g (spares k steps)) (sym same) (h e (inl refl))
      from f (e ∷ es) (inr f_of) h = from f es f_of (λ x x_of. h x (inr x_of))

  spares_spare : Each (IsSpare s (sides (cut_steps k v steps)) (spares k steps) k) (spares k steps)
  spares_spare = spares_each (IsSpare s (sides (cut_steps k v steps)) (spares k steps) k) k steps
      (λ e e_of start_out end_out. IsSpare-edge s k (sides (cut_steps k v steps)) (spares k steps) e (edge s steps linked e e_of)
      (side_case e.prev (prev_member s steps linked e e_of)) (side_case e.next (next_member s steps linked e e_of)) start_out end_out)

  -- a point in front of the cut that the new sides keep is kept by all sides
  pub inside_before : (p : Point) → value s p ≡ pos 0 → In p k → Each (In p) (sides (cut_steps k v steps)) → Each (In p) (sides steps)
  inside_before p on front within =
      let spare : Each (In p) (spares k steps) = spare_sides s k (sides (cut_steps k v steps)) (spares k steps) p m.point spares_spare
      m.on m.front (cut_each (In m.point) k v steps m.front m.within) (spares_each (In m.point) k steps (λ e e_of start_out end_out. each_member (In m.point) e.side (sides steps) (side_member e steps e_of) m.within))
      on front within in
      each_from_members (In p) (sides steps) (λ f f_of. elim (side_case f f_of) [
        | inl left ↦ each_member (In p) f (sides (cut_steps k v steps)) left within
        | inr gone ↦ each_member (In p) f (spares k steps) gone spare
      ])

  -- where the cycle leaves the front, the cut is a side
  module _ (u : Step) (u_of : Member u steps) (leaves : Leaves k u) where
    cut_member : Member k (sides (cut_steps k v steps))
    cut_member = side_member (along k u v) (cut_steps k v steps) (holds_along k v steps u u_of leaves)

    pub inside_cut : (p : Point) → value s p ≡ pos 0 → Each (In p) (sides (cut_steps k v steps)) → Each (In p) (k ∷ sides steps)
    inside_cut p on within = let front = each_member (In p) k (sides (cut_steps k v steps)) cut_member within in (front, inside_before p on front within)

    pub touching_cut : (p : Point) → IsPoint p → value s p ≡ pos 0 → Each (Touches p) (sides (cut_steps k v steps)) → Each (Touches p) (k ∷ sides steps)
    touching_cut p p_point on touching = closure s (sides (cut_steps k v steps)) (k ∷ sides steps) (λ q q_point q_on q_in. inside_cut q q_on q_in)
        m.point m.is_point m.on (cut_each (In m.point) k v steps m.front m.within) p p_point on touching
