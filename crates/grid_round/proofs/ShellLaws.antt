-- What the faces of a shell give its triangles: near corners, a closed shell, and planes that fit.
use Rattle.std.proofs.Common.{◌≡◌, ℕ, ◌+◌, ◌<◌, ◌≤◌, Bool, true, false, not, ◌&&◌, List, [], ◌∷◌, length, map, drop, get_or, Option, Some, None, Ok, refl, sym, ap, ◌∙◌, subst, arith}
use Rattle.std.specs.Prelude.{cond}
use Rattle.std.specs.List.{list_all, find, flat_map, All}
use Rattle.std.proofs.lemmas.List.{drop_more}
use Rattle.std.proofs.lemmas.List.Elements.{All-nil, All-cons, All-head, All-tail, All-append, All-map, All-weaker, All-get_or}
use Rattle.std.proofs.lemmas.List.Folds.{flat_map-map}
use Rattle.spec_space.specs.declared.Vector.{Vector}
use Rattle.spec_solid.specs.Triangles.{Triangle}
use Rattle.spec_solid.specs.Extrusions.{edges_from, loop_edges, fan, face_triangles}
use Rattle.spec_shape.specs.Shapes.{Face}
use Rattle.spec_shell.specs.Edges.{Edge, AreEven, open_edge}
use Rattle.spec_refusal.specs.Reads.{next}
use Rattle.spec_grid.specs.Rounded.{is_near, is_face_near, edges_of, triangles_of, is_triangle_fitting, is_face_fitting, if_closed}
use Rattle.ix_profile.specs.Outlines.{IsOutline}
use Rattle.ray_law.specs.Ranges.{AreSteps}
use Rattle.ray_law.specs.Shells.{IsClosed}
use Rattle.ray_law.specs.Faces.{face_edges, BeginsWithCorner}
use Rattle.ray_law.proofs.Faces.{faces_closed}
use Rattle.shell_edges.proofs.Even.{even_where_none}
use Rattle.grid_solid.specs.Triangles.{IsNear, HasForms}
use Rattle.grid_round.specs.Fans.{fan_triangle}
use Rattle.grid_round.proofs.Lists.{passed}
use Rattle.grid_round.proofs.NearCorners.{near_steps}
use Rattle.grid_round.proofs.Fitting.{fitting_has_forms}

-- ---- lists of lists
pub all_lists : {X Y : Type 0} (P : Y → Type 0) (f : X → List Y) (xs : List X) → All (λ x. All P (f x)) xs → All P (flat_map f xs)
all_lists P f [] h = All-nil P
all_lists P f (x ∷ xs) h = All-append P (f x) (flat_map f xs) (All-head (λ x. All P (f x)) x xs h) (all_lists P f xs (All-tail (λ x. All P (f x)) x xs h))

-- ---- near corners
abbrev pub IsNearEdge : Edge → Type 0
IsNearEdge e = AreSteps e.0 × AreSteps e.1

edges_near : (first : Vector) (us : List Vector) → AreSteps first → All AreSteps us → All IsNearEdge (edges_from first us)
edges_near first [] a h = All-nil IsNearEdge
edges_near first (u ∷ []) a h = All-cons IsNearEdge (u, first) [] (All-head AreSteps u [] h, a) (All-nil IsNearEdge)
edges_near first (u ∷ v ∷ vs) a h =
    let rest = All-tail AreSteps u (v ∷ vs) h in
    All-cons IsNearEdge (u, v) (edges_from first (v ∷ vs)) (All-head AreSteps u (v ∷ vs) h, All-head AreSteps v vs rest) (edges_near first (v ∷ vs) a rest)

loop_near : (l : List Vector) → All AreSteps l → All IsNearEdge (loop_edges l)
loop_near [] h = All-nil IsNearEdge
loop_near (u ∷ us) h = edges_near u (u ∷ us) (All-head AreSteps u us h) h

fan_near : (apex : Vector) (loops : List (List Vector)) → AreSteps apex → All (All AreSteps) loops → All IsNear (fan apex loops)
fan_near apex loops a h =
    all_lists IsNear (λ l. map (fan_triangle apex) (loop_edges l)) loops
    (All-weaker (All AreSteps) (λ l. All IsNear (map (fan_triangle apex) (loop_edges l)))
    (λ l k. All-map IsNear (fan_triangle apex) (loop_edges l) (All-weaker IsNearEdge (λ e. IsNear (fan_triangle apex e)) (λ e n. record { a = a; b = n.0; c = n.1 }) (loop_edges l) (loop_near l k))) loops h)

pub face_near : (loops : List (List Vector)) → All (All AreSteps) loops → All IsNear (face_triangles loops)
face_near [] h = All-nil IsNear
face_near ([] ∷ loops) h = All-nil IsNear
face_near ((apex ∷ us) ∷ loops) h = fan_near apex ((apex ∷ us) ∷ loops) (All-head AreSteps apex us (All-head (All AreSteps) (apex ∷ us) loops h)) h

pub near_loops : (loops : List (List Vector)) → list_all (list_all is_near) loops ≡ true → All (All AreSteps) loops
near_loops loops e = passed (list_all is_near) (All AreSteps) (λ l k. passed is_near AreSteps near_steps l k) loops e

pub triangles_near : (faces : List Face) → list_all is_face_near faces ≡ true → All IsNear (triangles_of faces)
triangles_near faces e =
    all_lists IsNear (λ f. face_triangles f.loops) faces
    (passed is_face_near (λ f. All IsNear (face_triangles f.loops)) (λ f k. face_near f.loops (near_loops f.loops k)) faces e)

-- ---- closed shells
pub begins : (n : ℕ) (loops : List (List Vector)) → IsOutline n loops → BeginsWithCorner loops
begins n [] h = tt
begins n ([] ∷ loops) h = none (All-head (λ l. 3 ≤ length l) [] loops h.long)
  where
    none : 3 ≤ 0 → ⊥
    none h = omega arith
begins n ((u ∷ us) ∷ loops) h = tt

loops_of : Face → List (List Vector)
loops_of f = f.loops

pub closed_triangles : (faces : List Face) → All (λ f. BeginsWithCorner f.loops) faces → open_edge (edges_of faces) ≡ None → IsClosed (triangles_of faces)
unfolding loops_of
closed_triangles faces h e =
    subst IsClosed (flat_map-map face_triangles loops_of faces)
    (faces_closed (map loops_of faces) (All-map BeginsWithCorner loops_of faces h) (subst AreEven (sym (flat_map-map face_edges loops_of faces)) (even_where_none (edges_of faces) e)))

-- ---- fitting planes
find_none : {X : Type 0} (p : X → Bool) (xs : List X) → find (λ x. not (p x)) xs ≡ None → list_all p xs ≡ true
find_none {X} p [] e = refl
find_none {X} p (x ∷ xs) e = by (p x) (find (λ x. not (p x)) xs) (list_all p xs) e (find_none p xs)
  where
    by : (b : Bool) (found : Option X) (all : Bool) → cond (not b) (Some x) found ≡ None → (found ≡ None → all ≡ true) → (b && all) ≡ true
    by true found all e next = next e
    by false found all e next = cc

pub triangles_formed : (faces : List Face) → find (λ f. not (is_face_fitting f)) faces ≡ None → All HasForms (triangles_of faces)
triangles_formed faces e =
    all_lists HasForms (λ f. face_triangles f.loops) faces
    (passed is_face_fitting (λ f. All HasForms (face_triangles f.loops)) (λ f k. passed is_triangle_fitting HasForms fitting_has_forms (face_triangles f.loops) k) faces (find_none is_face_fitting faces e))

-- where the test of the edges passes, the shell is open nowhere
pub closed_none : (at : ℕ) (o : Option Edge) → if_closed at o ≡ Ok tt → o ≡ None
closed_none at None e = refl
closed_none at (Some edge) e = cc

-- the triangles of one of the near faces
pub face_triangles_near : (faces : List Face) (i : ℕ) (face : Face) (triangles : List Triangle) → i < length faces → face ≡ get_or faces i face → triangles ≡ face_triangles face.loops → list_all is_face_near faces ≡ true → All IsNear triangles
face_triangles_near faces i face triangles l is e near =
    subst (All IsNear) (sym e)
    (subst (λ f. All IsNear (face_triangles f.loops)) (sym is) (All-get_or (λ f. All IsNear (face_triangles f.loops)) faces i face l
    (passed is_face_near (λ f. All IsNear (face_triangles f.loops)) (λ f k. face_near f.loops (near_loops f.loops k)) faces near)))

-- where a face fits, the first that does not is further on
pub find_step : {X : Type 0} (p : X → Bool) (xs : List X) (i : ℕ) (d : X) (whole : Option X) → i < length xs → p (get_or xs i d) ≡ true
    → find (λ x. not (p x)) (drop i xs) ≡ whole → find (λ x. not (p x)) (drop (i + 1) xs) ≡ whole
find_step p xs i d whole l e h =
    sym (ap (λ b. cond (not b) (Some (get_or xs i d)) (find (λ x. not (p x)) (drop (i + 1) xs))) e)
    ∙ sym (ap (find (λ x. not (p x))) (drop_more xs i d l)) ∙ h
