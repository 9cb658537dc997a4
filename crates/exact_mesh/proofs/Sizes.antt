-- How large a cross product is.
use Rattle.std.proofs.Common.{◌^◌, ◌*ℤ◌}
use Rattle.spec_space.specs.declared.Vector.{Vector}
use Rattle.spec_space.specs.Points.{cross}
use Rattle.integer_laws.proofs.Sizes.{size_sub, size_mul}
use Rattle.exact_mesh.specs.Ranges.{IsWithin}

-- each number is the difference of two products of numbers whose sizes are at most 2^37
pub cross_within : (u v : Vector) → IsWithin (2 ^ 37) u → IsWithin (2 ^ 37) v → IsWithin (2 ^ 75) (cross u v)
cross_within u v h k = record {
  x = size_sub (u.y *ℤ v.z) (u.z *ℤ v.y) (2 ^ 74) (2 ^ 74) (size_mul u.y v.z (2 ^ 37) (2 ^ 37) h.y k.z) (size_mul u.z v.y (2 ^ 37) (2 ^ 37) h.z k.y);
  y = size_sub (u.z *ℤ v.x) (u.x *ℤ v.z) (2 ^ 74) (2 ^ 74) (size_mul u.z v.x (2 ^ 37) (2 ^ 37) h.z k.x) (size_mul u.x v.z (2 ^ 37) (2 ^ 37) h.x k.z);
  z = size_sub (u.x *ℤ v.y) (u.y *ℤ v.x) (2 ^ 74) (2 ^ 74) (size_mul u.x v.y (2 ^ 37) (2 ^ 37) h.x k.y) (size_mul u.y v.x (2 ^ 37) (2 ^ 37) h.y k.x);
}
