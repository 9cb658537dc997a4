-- The sides of prisms, one after another.
use Rattle.std.proofs.Common.{◌≡◌, ℕ, ◌+◌, ◌<◌, ◌≤◌, List, [], ◌∷◌, ◌++◌, length, map, drop, get_or, refl, sym, ap, ◌∙◌, arith}
use Rattle.std.specs.List.{flat_map}
use Rattle.std.proofs.lemmas.List.{drop_more, drop_all, map-append, append_assoc, append-nil}
use Rattle.spec_space.specs.declared.Vector.{Vector}
use Rattle.spec_solid.specs.Extrusions.{plus, edges_from, loop_edges}
use Rattle.spec_shape.specs.Shapes.{Face, prism_faces}
use Rattle.solid_expr.specs.Sides.{next_in, side, face_at, loop_sides}

pub corner_next : (first : Vector) (points : List Vector) (k : ℕ) (d : Vector) → k + 1 < length points → get_or points (k + 1) d ≡ next_in first (drop (k + 1) points)
corner_next first points k d l = sym (ap (next_in first) (drop_more points (k + 1) d l))

pub corner_first : (first : Vector) (points : List Vector) (k : ℕ) → length points ≤ k + 1 → first ≡ next_in first (drop (k + 1) points)
corner_first first points k l = sym (ap (next_in first) (drop_all (k + 1) points l))

edges_step : (first u : Vector) (rest : List Vector) → edges_from first (u ∷ rest) ≡ (u, next_in first rest) ∷ edges_from first rest
edges_step first u [] = refl
edges_step first u (v ∷ vs) = refl

-- the sides from a corner on
abbrev pub sides_from : ℕ → Vector → Vector → List Vector → List Face
sides_from at sweep first points = map (face_at at) (map (side sweep) (edges_from first points))

pub sides_whole : (at : ℕ) (sweep : Vector) (points : List Vector) (d : Vector) → 1 ≤ length points → sides_from at sweep (get_or points 0 d) points ≡ loop_sides at sweep points
sides_whole at sweep [] d l = absurd (omega arith)
sides_whole at sweep (u ∷ us) d l = refl

pub sides_step : (at : ℕ) (sweep first : Vector) (points : List Vector) (k : ℕ) (d next : Vector) (faces : List Face) (face : Face) (all : List Face) → k < length points
    → next ≡ next_in first (drop (k + 1) points) → face ≡ face_at at (side sweep (get_or points k d, next))
    → faces ++ sides_from at sweep first (drop k points) ≡ all → (faces ++ face ∷ []) ++ sides_from at sweep first (drop (k + 1) points) ≡ all
sides_step at sweep first points k d next faces face all l e f h =
    append_assoc faces (face ∷ []) (sides_from at sweep first (drop (k + 1) points))
    ∙ ap (λ w. faces ++ (w ∷ sides_from at sweep first (drop (k + 1) points))) (f ∙ ap (λ v. face_at at (side sweep (get_or points k d, v))) e)
    ∙ ap (λ es. faces ++ map (face_at at) (map (side sweep) es)) (sym (edges_step first (get_or points k d) (drop (k + 1) points)))
    ∙ ap (λ ps. faces ++ sides_from at sweep first ps) (sym (drop_more points k d l))
    ∙ h

pub sides_end : (at : ℕ) (sweep first : Vector) (points : List Vector) (k : ℕ) (faces all : List Face) → length points ≤ k
    → faces ++ sides_from at sweep first (drop k points) ≡ all → faces ≡ all
sides_end at sweep first points k faces all l h =
    sym (append-nil faces) ∙ ap (λ ps. faces ++ sides_from at sweep first ps) (sym (drop_all k points l)) ∙ h

pub all_sides_step : (at : ℕ) (sweep : Vector) (loops : List (List Vector)) (i : ℕ) (d : List Vector) (faces more all : List Face) → i < length loops
    → more ≡ faces ++ loop_sides at sweep (get_or loops i d)
    → faces ++ flat_map (loop_sides at sweep) (drop i loops) ≡ all → more ++ flat_map (loop_sides at sweep) (drop (i + 1) loops) ≡ all
all_sides_step at sweep loops i d faces more all l e h =
    ap (λ fs. fs ++ flat_map (loop_sides at sweep) (drop (i + 1) loops)) e
    ∙ append_assoc faces (loop_sides at sweep (get_or loops i d)) (flat_map (loop_sides at sweep) (drop (i + 1) loops))
    ∙ ap (λ ls. faces ++ flat_map (loop_sides at sweep) ls) (sym (drop_more loops i d l))
    ∙ h

pub all_sides_end : (at : ℕ) (sweep : Vector) (loops : List (List Vector)) (i : ℕ) (faces all : List Face) → length loops ≤ i
    → faces ++ flat_map (loop_sides at sweep) (drop i loops) ≡ all → faces ≡ all
all_sides_end at sweep loops i faces all l h =
    sym (append-nil faces) ∙ ap (λ ls. faces ++ flat_map (loop_sides at sweep) ls) (sym (drop_all i loops l)) ∙ h

sides_are : (at : ℕ) (sweep : Vector) (loops : List (List Vector))
    → flat_map (loop_sides at sweep) loops ≡ map (face_at at) (flat_map (λ l. map (side sweep) (loop_edges l)) loops)
sides_are at sweep [] = refl
sides_are at sweep (l ∷ loops) =
    ap (λ fs. loop_sides at sweep l ++ fs) (sides_are at sweep loops)
    ∙ sym (map-append (face_at at) (map (side sweep) (loop_edges l)) (flat_map (λ l. map (side sweep) (loop_edges l)) loops))

-- the bottom, the top and the sides are the faces of a prism
pub prism_listed : (at : ℕ) (sweep : Vector) (loops : List (List Vector)) (bottom top : Face) (faces : List Face)
    → bottom ≡ face_at at loops → top ≡ face_at at (map (λ l. map (λ u. plus u sweep) l) loops)
    → faces ≡ (bottom ∷ top ∷ []) ++ flat_map (loop_sides at sweep) loops → faces ≡ prism_faces at loops sweep
prism_listed at sweep loops bottom top faces eb et e =
    e ∙ ap (λ f. f ∷ top ∷ flat_map (loop_sides at sweep) loops) eb
    ∙ ap (λ f. face_at at loops ∷ f ∷ flat_map (loop_sides at sweep) loops) et
    ∙ ap (λ fs. face_at at loops ∷ face_at at (map (λ l. map (λ u. plus u sweep) l) loops) ∷ fs) (sides_are at sweep loops)

-- what is made of each element of a list, one after another
pub pushed_step : {X Y : Type 0} (f : X → Y) (xs : List X) (i : ℕ) (d : X) (ys more : List Y) (y : Y) (all : List Y) → i < length xs → more ≡ ys ++ y ∷ [] → y ≡ f (get_or xs i d)
    → ys ++ map f (drop i xs) ≡ all → more ++ map f (drop (i + 1) xs) ≡ all
pushed_step f xs i d ys more y all l e g h =
    ap (λ zs. zs ++ map f (drop (i + 1) xs)) e
    ∙ append_assoc ys (y ∷ []) (map f (drop (i + 1) xs))
    ∙ ap (λ w. ys ++ (w ∷ map f (drop (i + 1) xs))) g
    ∙ ap (λ zs. ys ++ map f zs) (sym (drop_more xs i d l))
    ∙ h
