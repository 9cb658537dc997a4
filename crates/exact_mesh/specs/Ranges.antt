-- How far printed corners lie from one another.
use Rattle.std.specs.Prelude.{ℕ, ℤ, ◌^◌, ◌≤◌, List, All, unsigned_abs}
use Rattle.spec_space.specs.declared.Vector.{Vector}
use Rattle.spec_space.specs.Points.{minus}
use Rattle.exact_mesh.specs.Meshes.{vector_of, vector_at}

-- no number of the vector has a size above n
pub record IsWithin (n : ℕ) (v : Vector) : Type 0 where
  pub x : unsigned_abs v.x ≤ n
  pub y : unsigned_abs v.y ≤ n
  pub z : unsigned_abs v.z ≤ n

-- no coordinate differs from that of the first corner by more than 2^37
abbrev pub AreNear : List (List ℤ) → Type 0
AreNear corners = All (λ c. IsWithin (2 ^ 37) (minus (vector_of c) (vector_at corners 0))) corners
