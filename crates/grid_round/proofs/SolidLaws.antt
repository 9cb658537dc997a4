-- Solids on the grid: the parts of a union and the items of an element one after another, which are bounded, and how many
-- planes they have.
use Rattle.std.proofs.Common.{◌≡◌, ℕ, suc, ◌+◌, ◌*◌, ◌≤◌, Bool, true, false, not, List, [], ◌∷◌, length, map, Option, Some, Result, Ok, Err, refl, sym, ap, ◌∙◌, subst, arith}
use Rattle.std.specs.Prelude.{if◌then◌else◌, sum_by}
use Rattle.std.specs.List.{find, All}
use Rattle.std.proofs.lemmas.List.{length-map, length-append}
use Rattle.std.proofs.lemmas.List.Sums.{sum_by-cons}
use Rattle.std.proofs.lemmas.List.Elements.{All-nil, All-cons}
use Rattle.spec_space.specs.declared.Vector.{Vector}
use Rattle.spec_space.specs.declared.Plane.{Plane}
use Rattle.spec_solid.specs.declared.BoolOp.{BoolOp}
use Rattle.spec_solid.specs.declared.BoolOp.TheVariants.{Union, Intersection, Difference}
use Rattle.spec_solid.specs.Triangles.{Triangle}
use Rattle.spec_solid.specs.Extrusions.{edges_from, loop_edges, fan, face_triangles}
use Rattle.spec_solid.specs.Solids.{Solid, Shell, HalfSpace, Combined}
use Rattle.spec_place.specs.declared.fault.PlaceFault.{PlaceFault}
use Rattle.spec_place.specs.declared.half.HalfSpace.{HalfSpace as PlacedHalf}
use Rattle.spec_place.specs.declared.transform.Transform.{Transform}
use Rattle.spec_place.specs.HalfSpaces.{half_space}
use Rattle.spec_place.specs.Maps.{corner}
use Rattle.spec_shape.specs.Shapes.{Face, Shape, Faces, Half, ShapeItem, is_bounded_by, face_count, count_triangles, item_count}
use Rattle.spec_shape.specs.Shapes as shape
use Rattle.spec_refusal.specs.declared.Refusal.{Refusal}
use Rattle.spec_refusal.specs.declared.Refusal.TheVariants.{CornerTooFar, PlaneTooLarge}
use Rattle.spec_refusal.specs.Reads.{Read, next, only_if}
use Rattle.spec_grid.specs.Forms.{is_fitting, reduced_half}
use Rattle.spec_grid.specs.Rounded.{is_near, face_on_grid, triangles_of, shell, half, round_shape, round_items, if_bounded}
use Rattle.grid_solid.specs.Bounds.{is_bounded, stays_bounded, IsBounded}
use Rattle.grid_round.specs.Fans.{fan_triangle}
use Rattle.grid_solid.specs.Counts.{plane_count, all_planes_count}

-- ---- what an answer was made of
abbrev found : {T : Type 0} → T → Read T
found x = Ok x

then_ok : (b : Bool) (refusal : Refusal) (go_on : Read Solid) (s : Solid) → only_if b refusal go_on ≡ Ok s → go_on ≡ Ok s
then_ok true refusal go_on s e = e
then_ok false refusal go_on s e = cc

next_ok : (x : Read (Unit {0})) (go_on : Read Solid) (s : Solid) → next x (λ _. go_on) ≡ Ok s → go_on ≡ Ok s
next_ok (Ok x) go_on s e = e
next_ok (Err refusal) go_on s e = cc

shell_value : (at : ℕ) (faces : List Face) (s : Solid) → shell at faces ≡ Ok s → Shell (triangles_of faces) ≡ s
shell_value at faces s e = same (triangles_of faces) s (next_ok _ _ s (next_ok _ _ s (then_ok _ _ _ s e)))
  where
    same : (ts : List Triangle) (s : Solid) → found (Shell ts) ≡ Ok s → Shell ts ≡ s
    same ts s e = cc

-- what holds of a half-space on either side holds of a reduced one
half_value : (P : Solid → Type 0) (each : (h : Plane) (in_front : Bool) → P (HalfSpace h in_front)) (at : ℕ) (r : Result PlacedHalf PlaceFault) (s : Solid) → half at r ≡ Ok s → P s
half_value P each at (Err fault) s e = cc
half_value P each at (Ok h) s e = placed (then_ok (is_fitting h.plane) (PlaneTooLarge at) (found (reduced_half h.plane h.in_front)) s (then_ok (is_near h.corner) (CornerTooFar at) (only_if (is_fitting h.plane) (PlaneTooLarge at) (found (reduced_half h.plane h.in_front))) s e))
  where
    either : (b : Bool) (k l : Plane) (p q : Bool) → P (if b then HalfSpace k p else HalfSpace l q)
    either true k l p q = each k p
    either false k l p q = each l q

    same : (r s : Solid) → found r ≡ Ok s → r ≡ s
    same r s e = cc

    placed : found (reduced_half h.plane h.in_front) ≡ Ok s → P s
    placed e = subst P (same (reduced_half h.plane h.in_front) s e) (either _ _ _ _ _)

pub record AreBoth (x y : Read Solid) (operator : BoolOp) (s : Solid) : Type 0 where
  pub first : Solid
  pub second : Solid
  pub first_is : x ≡ Ok first
  pub second_is : y ≡ Ok second
  pub whole : Combined operator first second ≡ s

both_values : (x y : Read Solid) (operator : BoolOp) (s : Solid) → next x (λ f. next y (λ g. Ok (Combined operator f g))) ≡ Ok s → AreBoth x y operator s
both_values (Ok f) (Ok g) operator s e = record { first = f; second = g; first_is = refl; second_is = refl; whole = same (Combined operator f g) s e }
  where
    same : (r s : Solid) → found r ≡ Ok s → r ≡ s
    same r s e = cc
both_values (Ok f) (Err refusal) operator s e = cc
both_values (Err refusal) y operator s e = cc

-- ---- bounded solids
same_rule : (operator : BoolOp) (p q : Bool) → stays_bounded operator p q ≡ is_bounded_by operator p q
same_rule Union p q = refl
same_rule Intersection p q = refl
same_rule Difference p q = refl

pub rounded_bounded : (step : ℕ) (s : Shape) (r : Solid) → round_shape step s ≡ Ok r → is_bounded r ≡ shape.is_bounded s
rounded_bounded step (Faces at m faces) r e = ap is_bounded (sym (shell_value at (map (face_on_grid step m) faces) r e))
rounded_bounded step (Half at m agreement) r e = half_value (λ s. is_bounded s ≡ false) (λ h in_front. refl) at (half_space m step agreement) r e
rounded_bounded step (shape.Combined operator first second) r e =
    let both = both_values (round_shape step first) (round_shape step second) operator r e in
    ap is_bounded (sym both.whole)
    ∙ (λ i. stays_bounded operator (rounded_bounded step first both.first both.first_is i) (rounded_bounded step second both.second both.second_is i))
    ∙ same_rule operator (shape.is_bounded first) (shape.is_bounded second)
rounded_bounded step (shape.Numbered at inner) r e = rounded_bounded step inner r e

-- ---- counts
edges_count : (first : Vector) (us : List Vector) → length (edges_from first us) ≡ length us
edges_count first [] = refl
edges_count first (u ∷ []) = refl
edges_count first (u ∷ v ∷ vs) = ap suc (edges_count first (v ∷ vs))

loop_count : (l : List Vector) → length (loop_edges l) ≡ length l
loop_count [] = refl
loop_count (u ∷ us) = edges_count u (u ∷ us)

fan_count : (apex : Vector) (loops : List (List Vector)) → length (fan apex loops) ≡ sum_by length loops
fan_count apex [] = refl
fan_count apex (l ∷ loops) =
    length-append (map (fan_triangle apex) (loop_edges l)) (fan apex loops)
    ∙ (λ i. (length-map (loop_edges l) (fan_triangle apex) ∙ loop_count l) i + fan_count apex loops i)
    ∙ sym (sum_by-cons length l loops)

none : (n : ℕ) → 0 ≤ n
none n = omega arith

same_number : (m n : ℕ) → m ≡ n → m ≤ n
same_number m n e = omega arith

face_triangles_few : (loops : List (List Vector)) → length (face_triangles loops) ≤ sum_by length loops
face_triangles_few [] = none 0
face_triangles_few ([] ∷ loops) = none (sum_by length ([] ∷ loops))
face_triangles_few ((apex ∷ us) ∷ loops) = same_number _ _ (fan_count apex ((apex ∷ us) ∷ loops))

moved_count : (move : Vector → Vector) (loops : List (List Vector)) → sum_by length (map (map move) loops) ≡ sum_by length loops
moved_count move [] = refl
moved_count move (l ∷ loops) = sum_by-cons length (map move l) (map (map move) loops) ∙ (λ i. length-map l move i + moved_count move loops i) ∙ sym (sum_by-cons length l loops)

triangles_few : (step : ℕ) (m : Transform) (faces : List Face) → length (triangles_of (map (face_on_grid step m) faces)) ≤ sum_by face_count faces
triangles_few step m [] = none 0
triangles_few step m (f ∷ faces) =
    subst (λ n. length (triangles_of (map (face_on_grid step m) (f ∷ faces))) ≤ n) (sym (sum_by-cons face_count f faces))
    (total _ _ _ _ _ (length-append (face_triangles (map (map (corner m step)) f.loops)) (triangles_of (map (face_on_grid step m) faces)))
    (subst (λ n. length (face_triangles (map (map (corner m step)) f.loops)) ≤ n) (moved_count (corner m step) f.loops) (face_triangles_few (map (map (corner m step)) f.loops)))
    (triangles_few step m faces))
  where
    total : (n a b c d : ℕ) → n ≡ a + b → a ≤ c → b ≤ d → n ≤ c + d
    total n a b c d e p q = omega arith

four_times : (m n : ℕ) → m ≤ n → 4 * m ≤ 4 * n
four_times m n h = omega arith

one_of_four : 1 ≤ 4 * 1
one_of_four = omega arith

four_sum : (a b c d : ℕ) → a ≤ 4 * c → b ≤ 4 * d → a + b ≤ 4 * (c + d)
four_sum a b c d p q = omega arith

pub rounded_few : (step : ℕ) (s : Shape) (r : Solid) → round_shape step s ≡ Ok r → plane_count r ≤ 4 * count_triangles s
rounded_few step (Faces at m faces) r e =
    subst (λ s. plane_count s ≤ 4 * sum_by face_count faces) (shell_value at (map (face_on_grid step m) faces) r e)
    (four_times (length (triangles_of (map (face_on_grid step m) faces))) (sum_by face_count faces) (triangles_few step m faces))
rounded_few step (Half at m agreement) r e = half_value (λ s. plane_count s ≤ 4 * 1) (λ h in_front. one_of_four) at (half_space m step agreement) r e
rounded_few step (shape.Combined operator first second) r e =
    let both = both_values (round_shape step first) (round_shape step second) operator r e in
    subst (λ s. plane_count s ≤ 4 * (count_triangles first + count_triangles second)) both.whole
    (four_sum (plane_count both.first) (plane_count both.second) (count_triangles first) (count_triangles second) (rounded_few step first both.first both.first_is) (rounded_few step second both.second both.second_is))
rounded_few step (shape.Numbered at inner) r e = rounded_few step inner r e

-- ---- items
pub record AreListed (x : Read Solid) (y : Read (List Solid)) (ss : List Solid) : Type 0 where
  pub first : Solid
  pub others : List Solid
  pub first_is : x ≡ Ok first
  pub others_are : y ≡ Ok others
  pub whole : first ∷ others ≡ ss

listed : (x : Read Solid) (y : Read (List Solid)) (ss : List Solid) → next x (λ s. next y (λ ss. Ok (s ∷ ss))) ≡ Ok ss → AreListed x y ss
listed (Ok s) (Ok others) ss e = record { first = s; others = others; first_is = refl; others_are = refl; whole = same (s ∷ others) ss e }
  where
    same : (r s : List Solid) → found r ≡ Ok s → r ≡ s
    same r s e = cc
listed (Ok s) (Err refusal) ss e = cc
listed (Err refusal) y ss e = cc

all_ok : (r s : List Solid) → found r ≡ Ok s → r ≡ s
all_ok r s e = cc

pub items_few : (step : ℕ) (items : List ShapeItem) (ss : List Solid) → round_items step items ≡ Ok ss → all_planes_count ss ≤ 4 * sum_by item_count items
items_few step [] ss e = subst (λ ss. all_planes_count ss ≤ 4 * 0) (all_ok [] ss e) (none (4 * 0))
items_few step (i ∷ items) ss e =
    let l = listed (round_shape step i.shape) (round_items step items) ss e in
    subst (λ n. all_planes_count ss ≤ 4 * n) (sym (sum_by-cons item_count i items))
    (subst (λ ss. all_planes_count ss ≤ 4 * (count_triangles i.shape + sum_by item_count items)) l.whole
    (four_sum (plane_count l.first) (all_planes_count l.others) (count_triangles i.shape) (sum_by item_count items) (rounded_few step i.shape l.first l.first_is) (items_few step items l.others l.others_are)))

pub items_bounded : (step : ℕ) (items : List ShapeItem) (ss : List Solid) → if_bounded (find (λ i. not (shape.is_bounded i.shape)) items) ≡ Ok tt → round_items step items ≡ Ok ss → All IsBounded ss
items_bounded step [] ss b e = subst (All IsBounded) (all_ok [] ss e) (All-nil IsBounded)
items_bounded step (i ∷ items) ss b e =
    let l = listed (round_shape step i.shape) (round_items step items) ss e in
    let is = split (shape.is_bounded i.shape) (find (λ i. not (shape.is_bounded i.shape)) items) b in
    subst (All IsBounded) l.whole
    (All-cons IsBounded l.first l.others (rounded_bounded step i.shape l.first l.first_is ∙ is.0) (items_bounded step items l.others is.1 l.others_are))
  where
    split : (bounded : Bool) (found : Option ShapeItem) → if_bounded (if not bounded then Some i else found) ≡ Ok tt → (bounded ≡ true) × (if_bounded found ≡ Ok tt)
    split true found e = (refl, e)
    split false found e = cc
