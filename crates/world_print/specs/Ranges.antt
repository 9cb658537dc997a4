-- Grid steps, and how far corners and what is printed of them may lie from the origin (limits of this project).
use Rattle.std.specs.Prelude.{◌*◌, ◌≤◌, ◌<◌, ◌^◌, ℕ, ℤ, List, length, All, unsigned_abs}
use Rattle.spec_place.specs.Vectors.{IsWithin}
use Rattle.plane_core.specs.declared.numbers.Corner.{Corner}
use Rattle.exact_mesh.specs.Meshes.{vector_of}
use Rattle.exact_mesh.specs.declared.mesh.ExactMesh.{ExactMesh}

-- a grid step has from 1 to 10,000 micrometres
pub record IsStep (micrometres : ℕ) : Type 0 where
  pub least : 1 ≤ micrometres
  pub most : micrometres ≤ 10 ^ 4

-- no coordinate has a size above 2^20 grid steps
pub record IsOnGrid (c : Corner) : Type 0 where
  pub x : unsigned_abs c.x ≤ 2 ^ 20 * unsigned_abs c.w
  pub y : unsigned_abs c.y ≤ 2 ^ 20 * unsigned_abs c.w
  pub z : unsigned_abs c.z ≤ 2 ^ 20 * unsigned_abs c.w

-- no printed coordinate has a size above 10^14 micrometres
abbrev pub IsPrintable : List ℤ → Type 0
IsPrintable printed = IsWithin (10 ^ 14) (vector_of printed)

-- each corner of each face is one of the mesh
abbrev pub HasItsCorners : ExactMesh → Type 0
HasItsCorners mesh = All (λ f. All (λ i. i < length mesh.corners.items) f.corners.items) mesh.faces.items
