-- Sizes of coordinates.
use Rattle.std.specs.Prelude.{◌^◌, ◌≤◌, unsigned_abs}
use Rattle.spec_space.specs.declared.Vector.{Vector}

-- grid steps within the limit of 2^20
pub record AreSteps (v : Vector) : Type 0 where
  pub x : unsigned_abs v.x ≤ 2 ^ 20
  pub y : unsigned_abs v.y ≤ 2 ^ 20
  pub z : unsigned_abs v.z ≤ 2 ^ 20
