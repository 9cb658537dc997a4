-- The volume of a mesh is that of the printed element with its printed corners and its faces.
use Rattle.std.proofs.Common.{◌≡◌, ℕ, ℤ, List, [], map, slice_index_or, sym, ap, ap₂, ◌∙◌}
use Rattle.std.proofs.Math.ListN.{get_or-map}
use Rattle.std.proofs.lemmas.Simd.{map-map}
use Rattle.spec_space.specs.declared.Vector.{Vector}
use Rattle.spec_page.specs.declared.Corner.{Corner}
use Rattle.spec_page.specs.Element.{Face, Element}
use Rattle.spec_page.specs.Faces.{no_corner, corner_at}
use Rattle.spec_page.specs.World.{faces_volume, printed_volume}
use Rattle.exact_mesh.specs.declared.mesh.MeshFace.{MeshFace}
use Rattle.exact_mesh.specs.Meshes.{vector_of, vector_at, face_of, mesh_volume}

-- the same printed corner at each place, also where there is none
printed_at : (e : Element) (corners : List (List ℤ)) → map (λ c. c.printed) e.corners ≡ map vector_of corners → (i : ℕ) → (corner_at e i).printed ≡ vector_at corners i
printed_at e corners same i =
    sym (get_or-map (λ (c : Corner). c.printed) e.corners i no_corner)
    ∙ ap (λ vs. slice_index_or vs i (vector_of [])) same
    ∙ get_or-map vector_of corners i []

-- for an element with these printed corners and these faces
pub printed_volume_is : (e : Element) (corners : List (List ℤ)) (faces : List MeshFace)
    → map (λ c. c.printed) e.corners ≡ map vector_of corners → e.faces ≡ map face_of faces
    → printed_volume e ≡ mesh_volume corners faces
printed_volume_is e corners faces same_corners same_faces =
    let at : (λ (i : ℕ). (corner_at e i).printed) ≡ vector_at corners = (λ k i. printed_at e corners same_corners i k) in
    let faces_at : (λ (f : Face). map (λ i. (corner_at e i).printed) f.corners) ≡ (λ (f : Face). map (vector_at corners) f.corners) = (λ k f. map (at k) f.corners) in
    ap₂ (λ (origin : Vector) (f : Face → List Vector). faces_volume origin (map f e.faces)) (printed_at e corners same_corners 0) faces_at
    ∙ ap (λ fs. faces_volume (vector_at corners 0) (map (λ (f : Face). map (vector_at corners) f.corners) fs)) same_faces
    ∙ ap (faces_volume (vector_at corners 0)) (map-map (λ (f : Face). map (vector_at corners) f.corners) face_of faces)
