-- How many triangles the faces of a sweep have: six for each edge of its loops.
use Rattle.std.proofs.Common.{◌≡◌, ℕ, ℤ, suc, ◌+◌, ◌*◌, List, [], ◌∷◌, ◌++◌, map, length, sum_by, refl, sym, ◌∙◌, ap, arith}
use Rattle.std.proofs.lemmas.List.{length-map}
use Rattle.std.proofs.lemmas.List.Sums.{sum_by-cons, sum_by-append}
use Rattle.std.specs.List.{flat_map}
use Rattle.spec_space.specs.declared.Vector.{Vector}
use Rattle.spec_solid.specs.Extrusions.{plus, edges_from, loop_edges, extrusion}
use Rattle.spec_shape.specs.Shapes.{Face, face_count, prism_faces, lifted, upwards}

abbrev pub edge_count : List (List Vector) → ℕ
edge_count loops = sum_by length loops

edges_length : (first : Vector) (us : List Vector) → length (edges_from first us) ≡ length us
edges_length first [] = refl
edges_length first (u ∷ []) = refl
edges_length first (u ∷ v ∷ vs) = ap suc (edges_length first (v ∷ vs))

loop_length : (us : List Vector) → length (loop_edges us) ≡ length us
loop_length [] = refl
loop_length (u ∷ us) = edges_length u (u ∷ us)

-- loops of which each point is moved have as many edges
pub moved_count : (move : Vector → Vector) (loops : List (List Vector)) → edge_count (map (λ l. map move l) loops) ≡ edge_count loops
moved_count move [] = refl
moved_count move (l ∷ ls) =
    sum_by-cons length (map move l) (map (λ l. map move l) ls)
    ∙ (λ i. length-map l move i + moved_count move ls i)
    ∙ sym (sum_by-cons length l ls)

-- the quadrilateral of an edge
abbrev quad : Vector → Vector × Vector → List (List Vector)
quad sweep e = (e.0 ∷ e.1 ∷ plus e.1 sweep ∷ plus e.0 sweep ∷ []) ∷ []

quads_count : (sweep : Vector) (es : List (Vector × Vector)) → sum_by edge_count (map (quad sweep) es) ≡ 4 * length es
quads_count sweep [] = refl
quads_count sweep (e ∷ es) =
    let four : edge_count (quad sweep e) ≡ 4 = refl in
    omega (arith, sum_by-cons edge_count (quad sweep e) (map (quad sweep) es), four, quads_count sweep es)

sides_count : (sweep : Vector) (loops : List (List Vector)) → sum_by edge_count (flat_map (λ l. map (quad sweep) (loop_edges l)) loops) ≡ 4 * edge_count loops
sides_count sweep [] = refl
sides_count sweep (l ∷ ls) =
    let first = quads_count sweep (loop_edges l) in
    let rest = sides_count sweep ls in
    omega (arith, sum_by-append edge_count (map (quad sweep) (loop_edges l)) (flat_map (λ l. map (quad sweep) (loop_edges l)) ls), first, loop_length l, rest, sum_by-cons length l ls)

abbrev face_of : ℕ → List (List Vector) → Face
face_of at loops = record { at = at; loops = loops }

faces_count : (at : ℕ) (faces : List (List (List Vector))) → sum_by face_count (map (face_of at) faces) ≡ sum_by edge_count faces
faces_count at [] = refl
faces_count at (f ∷ fs) =
    omega (arith, sum_by-cons face_count (face_of at f) (map (face_of at) fs), sum_by-cons edge_count f fs, faces_count at fs)

three_parts : (bottom top sides edges : ℕ) → top ≡ edges → bottom ≡ edges → sides ≡ 4 * edges → bottom + (top + sides) ≡ 6 * edges
three_parts bottom top sides edges h k l = omega (arith, h, k, l)

pub prism_count : (at : ℕ) (loops : List (List Vector)) (sweep : Vector) → sum_by face_count (prism_faces at loops sweep) ≡ 6 * edge_count loops
prism_count at loops sweep =
    let top : List (List Vector) = map (λ l. map (λ u. plus u sweep) l) loops in
    let sides : List (List (List Vector)) = flat_map (λ l. map (quad sweep) (loop_edges l)) loops in
    faces_count at (extrusion loops sweep)
    ∙ sum_by-cons edge_count loops (top ∷ sides)
    ∙ ap (λ n. edge_count loops + n) (sum_by-cons edge_count top sides)
    ∙ three_parts (edge_count loops) (edge_count top) (sum_by edge_count sides) (edge_count loops) (moved_count (λ u. plus u sweep) loops) refl (sides_count sweep loops)

-- the sweep of one loop that is moved before
pub column_count : (at : ℕ) (points : List Vector) (low : ℤ) (sweep : Vector) → sum_by face_count (prism_faces at (lifted low (points ∷ [])) sweep) ≡ 6 * length points
column_count at points low sweep =
    let one : edge_count (points ∷ []) ≡ length points + 0 = sum_by-cons length points [] in
    omega (arith, prism_count at (lifted low (points ∷ [])) sweep, moved_count (plus (upwards low)) (points ∷ []), one)
