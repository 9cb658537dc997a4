-- Places in a tree, one step down.
use Rattle.std.proofs.Common.{◌≡◌, ◌<◌, ℕ, length, Bool, true, false, List, Some, slice_get, pos, ◌<ℤ◌, refl, sym, ap, subst, ◌∙◌, true≢false}
use Rattle.std.specs.Prelude.{nat_eq}
use Rattle.std.proofs.lemmas.Bool.{eqb-true, eq-eqb}
use Rattle.spec_space.specs.declared.Point.{Point}
use Rattle.spec_space.specs.declared.Plane.{Plane}
use Rattle.spec_space.specs.Points.{value}
use Rattle.plane_core.specs.declared.numbers.Plane.{Plane as BookPlane}
use Rattle.plane_core.specs.declared.book.PlaneId.{PlaneId}
use Rattle.convex_cycles.proofs.Hull.{from_opposite_front}
use Rattle.poly_frag.specs.Frags.{plane_at, kept_side}
use Rattle.tree_pool.specs.declared.node.TreeId.{TreeId}
use Rattle.tree_pool.specs.declared.node.PoolNode.TheVariants.{Leaf, Node}
use Rattle.tree_pool.specs.Trees.{Tree, leaf, node, value_of, IsPlaneOf}
use Rattle.tree_pool.specs.Pools.{Slots, slot_at, node_at, IsLive, StandsFor, AreTrees}
use Rattle.tree_pool.proofs.Pools.{node_slot, slot_live}
use Rattle.face_walk.specs.Faces.{IsAloneOn}
use Rattle.face_walk.specs.Works.{side_tree, neighbour, IsPlace}
use Rattle.face_walk.proofs.Neighbours.{Side}
use Rattle.face_walk.proofs.SideTrees.{level_is, side_value, side_among}

-- a number that stands for a tree is live
pub stands_live : (pool : Slots) (id : TreeId) (t : Tree) → StandsFor pool id t → IsLive pool id
stands_live pool id (leaf b) s =
    let n = node_slot (slot_at pool id.key) (Leaf b) s in
    slot_live (slot_at pool id.key) n.0 n.1
stands_live pool id (node p f g) s =
    let n = node_slot (slot_at pool id.key) (Node (record { k = p }) s.0 s.1) s.2 in
    slot_live (slot_at pool id.key) n.0 n.1

-- a point alone on a plane is on no other plane of the tree
pub alone_number : (planes : List BookPlane) (t : Tree) (h f : PlaneId) (p : Point) → IsAloneOn planes t h p → IsPlaneOf f.k t → value (plane_at planes f) p ≡ pos 0 → f.k ≡ h.k
alone_number planes t h f p alone is on = by (nat_eq f.k h.k) refl
  where
    by : (same : Bool) → nat_eq f.k h.k ≡ same → f.k ≡ h.k
    by true e = eqb-true f.k h.k e
    by false e = absurd (alone.off f is (λ same. true≢false (sym (eq-eqb f.k h.k same) ∙ e)) on)

-- on the kept side of a plane
pub kept_is_side : (keep : Bool) (h : Plane) (p : Point) → pos 0 <ℤ value (kept_side keep h) p → Side keep (value h p)
kept_is_side true h p front = front
kept_is_side false h p front = from_opposite_front h p front

-- a place in a part of space goes on in a smaller part, where the neighbours lie on one side of the plane k
pub place_on : (pool : Slots) (planes : List BookPlane) (t : Tree) (part small : Point → Type 0) (side in_front : Bool) (k : ℕ) (id next : TreeId) → IsPlace pool planes t part side id
    → ((u : Tree) → StandsFor pool id u → StandsFor pool next (side_tree k in_front u))
    → ((h : PlaneId) (p : Point) → h.k < length planes → IsAloneOn planes t h p → small p → part p × Side in_front (value (plane_at planes (record { k = k })) (neighbour side (plane_at planes h) p)))
    → IsPlace pool planes t small side next
place_on pool planes t part small side in_front k id next place goes inside = record {
  tree = side_tree k in_front place.tree;
  stands = goes place.tree place.stands;
  among = λ j is. place.among j (side_among k in_front place.tree j is);
  agrees = λ h p given alone is.
      let i = inside h p given alone is in
      let q = neighbour side (plane_at planes h) p in
      place.agrees h p given alone i.0 ∙ sym (side_value planes k in_front place.tree q (subst (Side in_front) (sym (level_is (slice_get planes k) q)) i.1));
}

-- a place at a leaf has the leaf's value
pub leaf_place : (pool : Slots) (planes : List BookPlane) (t : Tree) (part : Point → Type 0) (side b : Bool) (id : TreeId) → AreTrees pool → IsPlace pool planes t part side id → node_at pool id ≡ Some (Leaf b)
    → (h : PlaneId) (p : Point) → h.k < length planes → IsAloneOn planes t h p → part p → value_of planes t (neighbour side (plane_at planes h) p) ≡ Some b
leaf_place pool planes t part side b id ok place at h p given alone is =
    place.agrees h p given alone is ∙ ap (λ u. value_of planes u (neighbour side (plane_at planes h) p)) (ok.one_tree id place.tree (leaf b) place.stands at)
