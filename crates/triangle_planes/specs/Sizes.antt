-- Sizes of ways between places on the grid, and of normals of triangles.
use Rattle.std.specs.Prelude.{◌^◌, ◌≤◌, unsigned_abs}
use Rattle.spec_space.specs.declared.Vector.{Vector}

-- the ways along the axes have a size of at most 2^21
pub record AreRuns (v : Vector) : Type 0 where
  pub x : unsigned_abs v.x ≤ 2 ^ 21
  pub y : unsigned_abs v.y ≤ 2 ^ 21
  pub z : unsigned_abs v.z ≤ 2 ^ 21

-- the areas across the axes have a size of at most 2^43
pub record AreAreas (v : Vector) : Type 0 where
  pub x : unsigned_abs v.x ≤ 2 ^ 43
  pub y : unsigned_abs v.y ≤ 2 ^ 43
  pub z : unsigned_abs v.z ≤ 2 ^ 43
