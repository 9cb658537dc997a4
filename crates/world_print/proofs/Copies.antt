-- A copied mesh is the mesh.
use Rattle.std.proofs.Common.{◌≡◌, ℕ, ◌<◌, List, [], ◌∷◌, map, All, sym, subst}
use Rattle.std.proofs.lemmas.List.Elements.{All-nil, All-cons, All-head, All-tail}
use Rattle.spec_page.specs.Element.{Face}
use Rattle.exact_mesh.specs.Meshes.{face_of}
use Rattle.exact_mesh.specs.declared.mesh.MeshFace.{MeshFace}
use Rattle.world_print.proofs.Prints.{head_same, tail_same}

abbrev HasCornersBelow : ℕ → Face → Type 0
HasCornersBelow n f = All (λ i. i < n) f.corners

-- the places of the corners of copied faces are those of the faces
pub places_copied : (n : ℕ) (copies faces : List MeshFace) → map face_of copies ≡ map face_of faces → All (λ f. All (λ i. i < n) f.corners.items) faces → All (λ f. All (λ i. i < n) f.corners.items) copies
places_copied n [] faces e h = All-nil (λ (f : MeshFace). All (λ i. i < n) f.corners.items)
places_copied n (c ∷ cs) [] e h = cc
places_copied n (c ∷ cs) (f ∷ fs) e h =
    All-cons (λ (f : MeshFace). All (λ i. i < n) f.corners.items) c cs
    (subst (HasCornersBelow n) (sym (head_same (face_of c) (face_of f) (map face_of cs) (map face_of fs) e)) (All-head (λ (f : MeshFace). All (λ i. i < n) f.corners.items) f fs h))
    (places_copied n cs fs (tail_same (face_of c) (face_of f) (map face_of cs) (map face_of fs) e) (All-tail (λ (f : MeshFace). All (λ i. i < n) f.corners.items) f fs h))
