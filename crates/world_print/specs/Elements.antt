-- The printed element of a mesh that is ready to be written.
use Rattle.std.specs.Prelude.{◌≡◌, ℕ, ℤ, List, [], ◌∷◌, map}
use Rattle.ifc_kinds.specs.declared.kind.Kind.{Kind}
use Rattle.spec_place.specs.declared.transform.Transform.{Transform}
use Rattle.spec_page.specs.declared.Corner.{Corner as PageCorner}
use Rattle.spec_page.specs.Element.{Element}
use Rattle.plane_core.specs.declared.numbers.Corner.{Corner}
use Rattle.plane_core.specs.Views.{point_of}
use Rattle.exact_mesh.specs.Meshes.{face_of, vector_of}
use Rattle.exact_mesh.specs.declared.mesh.ExactMesh.{ExactMesh}
use Rattle.world_print.specs.declared.element.ElementMesh.{ElementMesh}

-- the exact corners with the printed ones, in order
abbrev pub page_corners : List Corner → List (List ℤ) → List PageCorner
page_corners (c ∷ cs) (v ∷ vs) = record { exact = point_of c; printed = vector_of v } ∷ page_corners cs vs
page_corners _ _ = []

-- the printed element: number, frame, corners, faces and volume of the mesh
abbrev pub element_of : ElementMesh → Element
element_of m = record {
  number = m.number;
  frame = m.frame;
  corners = page_corners m.mesh.corners.items m.printed.items;
  faces = map face_of m.mesh.faces.items;
  six = m.six;
}

-- the mesh is that of an element of this number and kind, in this frame, on a grid of such steps
pub record IsMeshOf (number : ℕ) (kind : Kind) (frame : Transform) (step : ℕ) (mesh : ExactMesh) (m : ElementMesh) : Type 0 where
  pub number_kept : m.number ≡ number
  pub kind_kept : m.kind ≡ kind
  pub frame_kept : m.frame ≡ frame
  pub step_kept : m.step ≡ step
  pub mesh_kept : m.mesh ≡ mesh

-- what a mesh that is ready to be written holds: what the element is, the grid step in micrometres, and the printed element
pub record Mesh : Type 0 where
  pub kind : Kind
  pub step : ℕ
  pub element : Element

abbrev pub mesh_of : ElementMesh → Mesh
mesh_of m = record { kind = m.kind; step = m.step; element = element_of m }
