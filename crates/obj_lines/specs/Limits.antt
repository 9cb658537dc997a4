-- The sizes of what a page holds.
use Rattle.std.specs.Prelude.{ℤ, pos, List, ◌*◌, ◌^◌, ◌≤◌, ◌<ℤ◌, unsigned_abs}
use Rattle.spec_space.specs.declared.Point.{Point}
use Rattle.spec_space.specs.declared.Plane.{Plane}
use Rattle.spec_place.specs.declared.transform.Transform.{Transform}
use Rattle.spec_place.specs.Vectors.{IsWithin}
use Rattle.spec_headline.specs.Reduced.{numerators}
use Rattle.exact_mesh.specs.Meshes.{number_at}

-- the frame of twelve numbers
abbrev pub numbered_frame : List ℤ → Transform
numbered_frame ns = record {
  x = record { x = number_at ns 0; y = number_at ns 1; z = number_at ns 2 };
  y = record { x = number_at ns 3; y = number_at ns 4; z = number_at ns 5 };
  z = record { x = number_at ns 6; y = number_at ns 7; z = number_at ns 8 };
  off = record { x = number_at ns 9; y = number_at ns 10; z = number_at ns 11 };
}

-- a corner but for a common divisor of its numbers
pub record HasCornerSizes (p : Point) : Type 0 where
  pub positive : pos 0 <ℤ p.w
  pub weight : unsigned_abs p.w ≤ 6 * 2 ^ 78
  pub size : IsWithin (6 * 2 ^ 96) (numerators p)
  pub reach : IsWithin (2 ^ 20 * unsigned_abs p.w) (numerators p)

pub record HasPlaneSizes (h : Plane) : Type 0 where
  pub a : unsigned_abs h.a ≤ 2 ^ 26
  pub b : unsigned_abs h.b ≤ 2 ^ 26
  pub c : unsigned_abs h.c ≤ 2 ^ 26
  pub d : unsigned_abs h.d ≤ 2 ^ 44
