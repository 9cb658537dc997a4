-- What the pieces show of the boundary at a point, as counts.
use Rattle.std.proofs.Common.{◌≡◌, ℕ, zero, suc, ◌+◌, ◌<◌, Bool, true, false, true≢false, not, ◌&&◌, ◌==◌, cond, List, [], ◌∷◌, Some, None, Option, map, filter, length, slice_get, ℤ, pos, ◌<ℤ◌, unsigned_abs, inl, inr, refl, sym, ap, ap₂, ◌∙◌, subst, arith}
use Rattle.std.specs.Prelude.{◌↔◌, ◌≢◌}
use Rattle.std.specs.List.{count_by, list_all}
use Rattle.std.proofs.lemmas.Bool.{eq-eqb, eqb-true}
use Rattle.std.proofs.lemmas.List.{length-map}
use Rattle.std.proofs.lemmas.Option.{slice_get_within}
use Rattle.std.proofs.lemmas.List.Sums.{sum_by-cons}
use Rattle.integer_laws.proofs.Products.{size_zero}
use Rattle.spec_space.specs.declared.Point.{Point}
use Rattle.spec_space.specs.declared.Plane.{Plane}
use Rattle.spec_space.specs.Points.{IsPoint, value}
use Rattle.plane_core.specs.declared.numbers.Plane.{Plane as BookPlane}
use Rattle.plane_core.specs.declared.book.PlaneId.{PlaneId}
use Rattle.plane_core.specs.Books.{AreDistinct}
use Rattle.plane_core.specs.Views.{plane_of}
use Rattle.plane_core.proofs.Laws.{one_number}
use Rattle.convex_cycles.specs.Sides.{is_in_front}
use Rattle.convex_cycles.proofs.Flags.{Tells, front_tells, front_flag}
use Rattle.convex_cycles.proofs.Lists.{Each, Member}
use Rattle.poly_frag.specs.Frags.{numbered, plane_at, sides_of, support_of}
use Rattle.poly_frag.specs.declared.frag.Frag.{Frag}
use Rattle.line_turns.proofs.Neighbours.{neighbour}
use Rattle.line_turns.proofs.Surface.{IsAloneOn}
use Rattle.line_turns.proofs.Tallies.{same}
use Rattle.tree_pool.specs.Trees.{Tree, IsPlaneOf}
use Rattle.face_walk.specs.declared.faces.OutFace.{OutFace}
use Rattle.face_walk.specs.Points.{holds}
use Rattle.face_walk.specs.Faces.{IsAloneOn as IsAloneOnTree, IsOfBook, is_true_at, outside_by, boundary_on, pieces_at, ShowBoundary}
use Rattle.edge_laws.proofs.Room.{room, room_inside}
use Rattle.edge_laws.proofs.Told.{get_member}

-- ---- whether a point is strictly inside a piece
both : (a b : Bool) → (a && b) ≡ true → (a ≡ true) × (b ≡ true)
both true b e = (refl, e)
both false b e = absurd (true≢false (sym e))

all_front : (hs : List Plane) (p : Point) → list_all (λ h. is_in_front h p) hs ≡ true → Each (λ h. pos 0 <ℤ value h p) hs
all_front [] p e = tt
all_front (h ∷ hs) p e =
    let parts = both (is_in_front h p) (list_all (λ h. is_in_front h p) hs) e in
    (subst (λ b. Tells b (value h p)) parts.0 (front_tells h p), all_front hs p parts.1)

front_all : (hs : List Plane) (p : Point) → Each (λ h. pos 0 <ℤ value h p) hs → list_all (λ h. is_in_front h p) hs ≡ true
front_all [] p e = refl
front_all (h ∷ hs) p e = ap₂ (λ a b. a && b) (front_flag h p true e.0) (front_all hs p e.1)

pub holds_inside : (planes : List BookPlane) (f : Frag) (p : Point) → (holds planes f p ≡ true) ↔ ((value (support_of planes f) p ≡ pos 0) × Each (λ h. pos 0 <ℤ value h p) (sides_of planes f))
holds_inside planes f p = (
  λ e.
      let parts = both (unsigned_abs (value (support_of planes f) p) == 0) (list_all (λ h. is_in_front h p) (sides_of planes f)) e in
      (size_zero (value (support_of planes f) p) (eqb-true (unsigned_abs (value (support_of planes f) p)) 0 parts.0), all_front (sides_of planes f) p parts.1),
  λ i. ap₂ (λ a b. a && b) (eq-eqb (unsigned_abs (value (support_of planes f) p)) 0 (ap unsigned_abs i.0)) (front_all (sides_of planes f) p i.1),
)

-- ---- a plane of the book and its number
pub member_get : (planes : List BookPlane) (x : BookPlane) → Member x planes → (k : ℕ) × (slice_get planes k ≡ Some x)
member_get [] x m = absurd m
member_get (p ∷ ps) x (inl same) = (0, ap Some (sym same))
member_get (p ∷ ps) x (inr m) = let r = member_get ps x m in (suc r.0, r.1)

slice_below : (planes : List BookPlane) (k : ℕ) → k < length planes → (x : BookPlane) × (slice_get planes k ≡ Some x)
slice_below [] k h = absurd (omega (arith, h))
slice_below (p ∷ ps) zero h = (p, refl)
slice_below (p ∷ ps) (suc k) h = slice_below ps k (omega (arith, h))

-- ---- the point alone on a plane of the book
alone_on_tree : (planes : List BookPlane) (t : Tree) (x : BookPlane) (k : ℕ) (p : Point) → AreDistinct planes → IsOfBook planes t → slice_get planes k ≡ Some x → IsAloneOn planes room x p → IsAloneOnTree planes t (record { k = k }) p
alone_on_tree planes t x k p distinct of_book at alone = record {
  is_point = alone.is_point;
  in_cube = room_inside p alone.in_room;
  on = subst (λ h. value h p ≡ pos 0) (sym (ap numbered at)) alone.on;
  off = λ other of_tree apart zero_there.
      let z = slice_below planes other.k (of_book other.k of_tree) in
      alone.off z.0 (get_member planes other.k z.0 z.1)
      (λ same. apart (one_number planes other.k k x distinct (z.1 ∙ ap Some (sym same)) at))
      (subst (λ h. value h p ≡ pos 0) (ap numbered z.1) zero_there);
}

module _ (planes : List BookPlane) (t : Tree) (pieces : List OutFace) (distinct : AreDistinct planes) (of_book : IsOfBook planes t)
    (shown : (id : PlaneId) → id.k < length planes → ShowBoundary planes t id pieces) (x : BookPlane) (p : Point) (of_list : Member x planes) (alone : IsAloneOn planes room x p) where
  abbrev front : Bool
  front = is_true_at planes t (neighbour true (plane_of x) p)

  abbrev back : Bool
  back = is_true_at planes t (neighbour false (plane_of x) p)

  sides_shown : map (λ o. o.front_out) (pieces_at planes p pieces) ≡ outside_by front back
  sides_shown =
      let k = member_get planes x of_list in
      shown (record { k = k.0 }) (below k.0 k.1) p (alone_on_tree planes t x k.0 p distinct of_book k.1 alone)
      ∙ ap (λ h. outside_by (is_true_at planes t (neighbour true h p)) (is_true_at planes t (neighbour false h p))) (ap numbered k.1)
    where
      below : (k : ℕ) → slice_get planes k ≡ Some x → k < length planes
      below k e = slice_get_within planes k x e

  count_filter : {X : Type 0} (f : X → Bool) (xs : List X) → count_by f xs ≡ length (filter f xs)
  count_filter f [] = refl
  count_filter f (y ∷ ys) = sum_by-cons (λ y. cond (f y) 1 0) y ys ∙ by (f y) (count_by f ys) (count_filter f ys)
    where
      by : (b : Bool) (n : ℕ) → n ≡ length (filter f ys) → cond b 1 0 + n ≡ length (cond b (y ∷ filter f ys) (filter f ys))
      by true n e = omega (arith, e)
      by false n e = omega (arith, e)

  how_many : (a b : Bool) → length (outside_by a b) ≡ cond (not (same a b)) 1 0
  how_many true true = refl
  how_many true false = refl
  how_many false true = refl
  how_many false false = refl

  -- one piece holds the point if the values differ, and none otherwise
  pub one_shown : count_by (λ o. holds planes o.frag p) pieces ≡ cond (not (same front back)) 1 0
  one_shown = count_filter (λ o. holds planes o.frag p) pieces ∙ sym (length-map (pieces_at planes p pieces) (λ o. o.front_out)) ∙ ap length sides_shown ∙ how_many front back

  kept : (o : OutFace) (os : List OutFace) → Member o os → holds planes o.frag p ≡ true → Member o.front_out (map (λ o. o.front_out) (filter (λ o. holds planes o.frag p) os))
  kept o [] m e = absurd m
  kept o (q ∷ qs) m e = by (holds planes q.frag p) refl (λ later. kept o qs later e) m
    where
      by : (b : Bool) → holds planes q.frag p ≡ b → (Member o qs → Member o.front_out (map (λ o. o.front_out) (filter (λ o. holds planes o.frag p) qs))) → Member o (q ∷ qs)
          → Member o.front_out (map (λ o. o.front_out) (cond b (q ∷ filter (λ o. holds planes o.frag p) qs) (filter (λ o. holds planes o.frag p) qs)))
      by true f rest (inl same) = inl (ap (λ o. o.front_out) same)
      by true f rest (inr m) = inr (rest m)
      by false f rest (inl same) = absurd (true≢false (sym e ∙ ap (λ o. holds planes o.frag p) same ∙ f))
      by false f rest (inr m) = rest m

  outside : (a b c : Bool) → Member c (outside_by a b) → c ≡ not a
  outside true true c m = absurd m
  outside true false c (inl same) = same
  outside true false c (inr m) = absurd m
  outside false true c (inl same) = same
  outside false true c (inr m) = absurd m
  outside false false c m = absurd m

  -- its front is outside where the front neighbour has not the value
  pub outward_shown : (o : OutFace) → Member o pieces → holds planes o.frag p ≡ true → o.front_out ≡ not front
  outward_shown o m e = outside front back o.front_out (subst (Member o.front_out) sides_shown (kept o pieces m e))
