-- Bounds of axes and matrices.
use Rattle.std.specs.Prelude.{◌≡◌, ◌≤◌, ◌*◌, ◌^◌, false, unsigned_abs}
use Rattle.spec_space.specs.declared.Plane.{Plane}
use Rattle.spec_space.specs.Points.{normal}
use Rattle.spec_place.specs.declared.transform.Axes.{Axes}
use Rattle.spec_place.specs.declared.transform.Transform.{Transform}
use Rattle.spec_place.specs.Vectors.{is_zero, IsWithin}

-- no part of an axis has a size above 1
pub record AreSmall (a : Axes) : Type 0 where
  pub x : IsWithin (10 ^ 9) a.x
  pub y : IsWithin (10 ^ 9) a.y
  pub z : IsWithin (10 ^ 9) a.z

-- no part of an axis has a size above 1000
pub record AreStretched (a : Axes) : Type 0 where
  pub x : IsWithin (10 ^ 12) a.x
  pub y : IsWithin (10 ^ 12) a.y
  pub z : IsWithin (10 ^ 12) a.z

-- the plane has a normal; its parts have sizes of at most 10^7, and d of at most 3 * 10^20
pub record IsPlaneOnGrid (h : Plane) : Type 0 where
  pub some : is_zero (normal h) ≡ false
  pub normal_small : IsWithin (10 ^ 7) (normal h)
  pub d_small : unsigned_abs h.d ≤ 3 * 10 ^ 20

-- no entry of the matrix has a size above 1
pub record HasSmallEntries (t : Transform) : Type 0 where
  pub x : IsWithin (10 ^ 9) t.x
  pub y : IsWithin (10 ^ 9) t.y
  pub z : IsWithin (10 ^ 9) t.z
