-- The meshes of the elements of a file that are converted.
use Rattle.std.specs.Prelude.{◌≡◌, true, List, [], ◌∷◌}
use Rattle.spec_entity.specs.Reads.{has_kind}
use Rattle.spec_geometry.specs.Files.{File}
use Rattle.spec_page.specs.Element.{Element}
use Rattle.spec_page.specs.Items.{Item, Printed, Skipped, Refused}
use Rattle.world_print.specs.Elements.{Mesh}

-- the mesh of a converted element: of its kind, on the grid of the file, and printed so
pub record IsMeshOf (file : File) (e : Element) (m : Mesh) : Type 0 where
  pub element : m.element ≡ e
  pub kind : has_kind file.section e.number m.kind ≡ true
  pub step : m.step ≡ file.grid

-- one mesh for each of the items that is converted, in order
abbrev pub AreMeshesOf : File → List Item → List Mesh → Type 0
AreMeshesOf file [] [] = Unit {0}
AreMeshesOf file [] (m ∷ ms) = ⊥
AreMeshesOf file (Printed e ∷ is) [] = ⊥
AreMeshesOf file (Printed e ∷ is) (m ∷ ms) = IsMeshOf file e m × AreMeshesOf file is ms
AreMeshesOf file (Skipped n ∷ is) ms = AreMeshesOf file is ms
AreMeshesOf file (Refused n why ∷ is) ms = AreMeshesOf file is ms
