-- A corner as whole grid steps, and what is left of them.
use Rattle.std.specs.Prelude.{◌≡◌, ◌*◌, ◌^◌, ◌+ℤ◌, ◌*ℤ◌}
use Rattle.spec_space.specs.declared.Point.{Point}
use Rattle.spec_space.specs.declared.Vector.{Vector}
use Rattle.spec_place.specs.Vectors.{IsWithin}

-- the point's numbers are its weight times whole steps, and a rest
pub record IsSplit (p : Point) (whole rest : Vector) : Type 0 where
  pub x : p.x ≡ whole.x *ℤ p.w +ℤ rest.x
  pub y : p.y ≡ whole.y *ℤ p.w +ℤ rest.y
  pub z : p.z ≡ whole.z *ℤ p.w +ℤ rest.z
  pub whole_small : IsWithin (2 ^ 20) whole
  pub rest_small : IsWithin (6 * 2 ^ 78) rest
