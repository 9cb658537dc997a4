-- Sums and multiples of points, and when two points are one place.
use Rattle.std.specs.Prelude.{◌≡◌, ℤ, ◌+ℤ◌, ◌*ℤ◌}
use Rattle.spec_space.specs.declared.Point.{Point}

abbrev pub times : ℤ → Point → Point
times k p = record { x = k *ℤ p.x; y = k *ℤ p.y; z = k *ℤ p.z; w = k *ℤ p.w }

abbrev pub plus : Point → Point → Point
plus p q = record { x = p.x +ℤ q.x; y = p.y +ℤ q.y; z = p.z +ℤ q.z; w = p.w +ℤ q.w }

-- two spellings of one point
pub record IsSamePoint (q r : Point) : Type 0 where
  pub same_x : q.x *ℤ r.w ≡ r.x *ℤ q.w
  pub same_y : q.y *ℤ r.w ≡ r.y *ℤ q.w
  pub same_z : q.z *ℤ r.w ≡ r.z *ℤ q.w
