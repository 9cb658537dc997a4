-- The item of a page that stands for what became of an element, and its mesh.
use Rattle.std.specs.Prelude.{◌≡◌, ℕ, List, [], ◌∷◌, ⊤}
use Rattle.ifc_kinds.specs.declared.kind.Kind.{Kind}
use Rattle.spec_page.specs.Items.{Item, Printed, Skipped, Refused}
use Rattle.world_print.specs.Elements.{Mesh, element_of, mesh_of}
use Rattle.world_print.specs.declared.element.ElementMesh.{ElementMesh}
use Rattle.ix_page.specs.declared.element.Made.{Made}
use Rattle.ix_page.specs.declared.element.Made.TheVariants as made

abbrev pub item_of : ℕ → Made → Item
item_of n made.Nothing = Skipped n
item_of n (made.Refusal why) = Refused n why
item_of n (made.Mesh mesh) = Printed (element_of mesh)

-- the mesh of what was converted
abbrev pub meshes_of : Made → List Mesh
meshes_of made.Nothing = []
meshes_of (made.Refusal why) = []
meshes_of (made.Mesh mesh) = mesh_of mesh ∷ []

-- the number, the kind and the grid step of a mesh
pub record IsMarked (n : ℕ) (kind : Kind) (step : ℕ) (mesh : ElementMesh) : Type 0 where
  pub number : mesh.number ≡ n
  pub kind_kept : mesh.kind ≡ kind
  pub step_kept : mesh.step ≡ step

-- if an element was converted, its mesh is of this number, kind and grid step
abbrev pub IsMeshAs : ℕ → Kind → ℕ → Made → Type 0
IsMeshAs n kind step made.Nothing = ⊤
IsMeshAs n kind step (made.Refusal why) = ⊤
IsMeshAs n kind step (made.Mesh mesh) = IsMarked n kind step mesh
