-- The element of a page with these parts.
use Rattle.std.specs.Prelude.{ℕ, ℤ, List, Option, map}
use Rattle.spec_place.specs.declared.transform.Transform.{Transform}
use Rattle.spec_page.specs.Element.{Element}
use Rattle.plane_core.specs.declared.numbers.Corner.{Corner}
use Rattle.exact_mesh.specs.declared.mesh.MeshFace.{MeshFace}
use Rattle.exact_mesh.specs.Meshes.{face_of}
use Rattle.world_print.specs.Elements.{page_corners}

abbrev pub element_with : ℕ → Transform → List Corner → List (List ℤ) → List MeshFace → Option ℤ → Element
element_with number frame corners printed faces six = record {
  number = number;
  frame = frame;
  corners = page_corners corners printed;
  faces = map face_of faces;
  six = six;
}
