-- Elements on the grid: a refusal of rounding names instances of what was read, and corners that are near.
use Rattle.std.proofs.Common.{◌≡◌, ◌^◌, ◌&&◌, ℕ, Bool, true, false, not, if◌then◌else◌, List, [], ◌∷◌, map, filter, Option, Some, None, Result, Ok, Err, IfSome, unsigned_abs, nat_le}
use Rattle.std.proofs.lemmas.Bool.{leb-true, and_parts}
use Rattle.std.specs.List.{flat_map, list_all, find}
use Rattle.spec_space.specs.declared.Vector.{Vector}
use Rattle.spec_solid.specs.Extrusions.{edges_from, loop_edges}
use Rattle.spec_place.specs.Vectors.{IsWithin}
use Rattle.spec_place.specs.declared.transform.Transform.{Transform}
use Rattle.spec_place.specs.declared.half.HalfSpace.{HalfSpace}
use Rattle.spec_place.specs.declared.fault.PlaceFault.{PlaceFault}
use Rattle.spec_place.specs.HalfSpaces as halves
use Rattle.spec_shape.specs.Shapes.{Face, Shape, Faces, Half, Combined, Numbered, ShapeItem, ElementShape, is_bounded}
use Rattle.spec_shell.specs.Edges.{Edge, is_same_place, is_before, is_edge_before, joins, oddly, rising, odd_edges, least_of, open_edge}
use Rattle.spec_refusal.specs.declared.Refusal.TheVariants.{CornerTooFar, PlaneTooLarge}
use Rattle.spec_grid.specs.Forms.{is_fitting}
use Rattle.spec_grid.specs.Rounded.{face_on_grid, is_near, is_face_near, edges_of, is_face_fitting, if_closed, if_fitting, shell, half, round_shape, round_items, if_bounded, round_element}
use Rattle.spec_check.specs.Limits.{IsShort}
use Rattle.table_limits.proofs.Kept.{IsKept, Each, read, refused, onward, tested, tested_so}
use Rattle.table_limits.proofs.Tables.{Any, found_each}
use Rattle.table_limits.proofs.Entities.{filter_each}
use Rattle.refusal_limits.proofs.Breps.{IsShortFace, each_append}
use Rattle.refusal_limits.proofs.Solids.{IsShortShape}
use Rattle.refusal_limits.proofs.Elements.{IsShortItem, IsShortElement}

-- Open edges.

abbrev IsNear : Vector → Type 0
IsNear v = IsWithin (2 ^ 20) v

-- both ends of an edge are near
record IsNearEdge (e : Edge) : Type 0 where
  pub from : IsNear e.0
  pub to : IsNear e.1

near_vector : (v : Vector) → is_near v ≡ true → IsNear v
near_vector v h =
    let parts = and_parts (nat_le (unsigned_abs v.x) (2 ^ 20) && nat_le (unsigned_abs v.y) (2 ^ 20)) (nat_le (unsigned_abs v.z) (2 ^ 20)) h in
    let first = and_parts (nat_le (unsigned_abs v.x) (2 ^ 20)) (nat_le (unsigned_abs v.y) (2 ^ 20)) parts.0 in
    record {
      x = leb-true (unsigned_abs v.x) (2 ^ 20) first.0;
      y = leb-true (unsigned_abs v.y) (2 ^ 20) first.1;
      z = leb-true (unsigned_abs v.z) (2 ^ 20) parts.1;
    }

near_loop : (loop : List Vector) → list_all is_near loop ≡ true → Each IsNear loop
near_loop [] h = tt
near_loop (v ∷ vs) h = let parts = and_parts (is_near v) (list_all is_near vs) h in (near_vector v parts.0, near_loop vs parts.1)

near_from : (first : Vector) (us : List Vector) → IsNear first → Each IsNear us → Each IsNearEdge (edges_from first us)
near_from first [] h k = tt
near_from first (u ∷ []) h k = (record { from = k.0; to = h }, tt)
near_from first (u ∷ v ∷ vs) h k = (record { from = k.0; to = k.1.0 }, near_from first (v ∷ vs) h k.1)

near_edges : (loop : List Vector) → Each IsNear loop → Each IsNearEdge (loop_edges loop)
near_edges [] h = tt
near_edges (u ∷ us) h = near_from u (u ∷ us) h.0 h

near_loops : (loops : List (List Vector)) → list_all (list_all is_near) loops ≡ true → Each IsNearEdge (flat_map loop_edges loops)
near_loops [] h = tt
near_loops (l ∷ ls) h =
    let parts = and_parts (list_all is_near l) (list_all (list_all is_near) ls) h in
    each_append IsNearEdge (loop_edges l) (flat_map loop_edges ls) (near_edges l (near_loop l parts.0)) (near_loops ls parts.1)

near_faces : (faces : List Face) → list_all is_face_near faces ≡ true → Each IsNearEdge (edges_of faces)
near_faces [] h = tt
near_faces (f ∷ fs) h =
    let parts = and_parts (is_face_near f) (list_all is_face_near fs) h in
    each_append IsNearEdge (flat_map loop_edges f.loops) (edges_of fs) (near_loops f.loops parts.0) (near_faces fs parts.1)

near_rising : (e : Edge) → IsNearEdge e → IsNearEdge (rising e)
near_rising e h = pick (is_before e.1 e.0)
  where
    pick : (b : Bool) → IsNearEdge (if b then (e.1, e.0) else e)
    pick true = record { from = h.to; to = h.from }
    pick false = h

all_rising : (es : List Edge) → Each IsNearEdge es → Each IsNearEdge (map rising es)
all_rising [] h = tt
all_rising (e ∷ es) h = (near_rising e h.0, all_rising es h.1)

near_pick : (b : Bool) (e f : Edge) → IsNearEdge e → IsNearEdge f → IsNearEdge (if b then f else e)
near_pick true e f h k = k
near_pick false e f h k = h

near_odd : (es : List Edge) → Each IsNearEdge es → Each IsNearEdge (odd_edges es)
near_odd es h =
    let test : Edge → Bool = λ e. not (is_same_place e.0 e.1) && oddly (joins e.0 e.1) es in
    all_rising (filter test es) (filter_each IsNearEdge test es h)

abbrev or_less : Edge → Option Edge → Option Edge
or_less e None = Some e
or_less e (Some f) = Some (if is_edge_before f e then f else e)

near_less : (e : Edge) (o : Option Edge) → IsNearEdge e → IfSome o IsNearEdge → IfSome (or_less e o) IsNearEdge
near_less e None h k = h
near_less e (Some f) h k = near_pick (is_edge_before f e) e f h k

near_least : (es : List Edge) → Each IsNearEdge es → IfSome (least_of es) IsNearEdge
near_least [] h = tt
near_least (e ∷ es) h = near_less e (least_of es) h.0 (near_least es h.1)

-- Primitives.

closed_kept : (at : ℕ) (o : Option Edge) → IsShort at → IfSome o IsNearEdge → IsKept Any (if_closed at o)
closed_kept at None h k = read tt
closed_kept at (Some e) h k = refused (h, k.from, k.to)

fitting_kept : (o : Option Face) → IfSome o IsShortFace → IsKept Any (if_fitting o)
fitting_kept None h = read tt
fitting_kept (Some face) h = refused h

shell_kept : (at : ℕ) (faces : List Face) → IsShort at → Each IsShortFace faces → IsKept Any (shell at faces)
shell_kept at faces h k =
    tested_so (list_all is_face_near faces) _ h (λ near.
    onward (closed_kept at (open_edge (edges_of faces)) h (near_least (odd_edges (edges_of faces)) (near_odd (edges_of faces) (near_faces faces near)))) (λ u _.
    onward (fitting_kept (find (λ f. not (is_face_fitting f)) faces) (found_each IsShortFace (λ f. not (is_face_fitting f)) faces k)) (λ v _. read tt)))

half_kept : (at : ℕ) (r : Result HalfSpace PlaceFault) → IsShort at → IsKept Any (half at r)
half_kept at (Err fault) h = refused h
half_kept at (Ok s) h = tested (is_near s.corner) (CornerTooFar at) h (tested (is_fitting s.plane) (PlaneTooLarge at) h (read tt))

-- Solids and elements.

on_grid : (grid : ℕ) (m : Transform) (faces : List Face) → Each IsShortFace faces → Each IsShortFace (map (face_on_grid grid m) faces)
on_grid grid m [] h = tt
on_grid grid m (f ∷ fs) h = (h.0, on_grid grid m fs h.1)

shape_kept : (grid : ℕ) (s : Shape) → IsShortShape s → IsKept Any (round_shape grid s)
shape_kept grid (Faces at m faces) h = shell_kept at (map (face_on_grid grid m) faces) h.0 (on_grid grid m faces h.1)
shape_kept grid (Half at m agreement) h = half_kept at (halves.half_space m grid agreement) h
shape_kept grid (Combined o first second) h = onward (shape_kept grid first h.0) (λ f _. onward (shape_kept grid second h.1) (λ s _. read tt))
shape_kept grid (Numbered at shape) h = shape_kept grid shape h

items_kept : (grid : ℕ) (is : List ShapeItem) → Each IsShortItem is → IsKept Any (round_items grid is)
items_kept grid [] h = read tt
items_kept grid (i ∷ is) h = onward (shape_kept grid i.shape h.0.shape) (λ s _. onward (items_kept grid is h.1) (λ ss _. read tt))

bounded_kept : (o : Option ShapeItem) → IfSome o IsShortItem → IsKept Any (if_bounded o)
bounded_kept None h = read tt
bounded_kept (Some item) h = refused h.number

-- a refusal of rounding an element that names instances by short numbers is within the limits
pub rounded_kept : (grid : ℕ) (e : ElementShape) → IsShortElement e → IsKept Any (round_element grid e)
rounded_kept grid e h =
    onward (bounded_kept (find (λ i. not (is_bounded i.shape)) e.items) (found_each IsShortItem (λ i. not (is_bounded i.shape)) e.items h.items)) (λ u _.
    onward (items_kept grid e.items h.items) (λ items _.
    onward (items_kept grid e.openings h.openings) (λ openings _. read tt)))
