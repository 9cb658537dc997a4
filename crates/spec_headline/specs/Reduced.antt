-- The corners and planes of a printed element: they have no common divisor, so that a point has one spelling, and a plane one
-- from each of its sides, and keep the limits of their sizes (rules of this project).
use Rattle.std.specs.Prelude.{◌≡◌, ◌≤◌, ◌*◌, ◌^◌, ◌⊎◌, ℤ, ◌*ℤ◌, unsigned_abs}
use Rattle.spec_space.specs.declared.Point.{Point}
use Rattle.spec_space.specs.declared.Plane.{Plane}
use Rattle.spec_space.specs.declared.Vector.{Vector}
use Rattle.spec_space.specs.Points.{IsPoint, opposite}
use Rattle.spec_space.specs.Reduced.{IsReduced}
use Rattle.spec_place.specs.Vectors.{IsWithin}
use Rattle.spec_page.specs.declared.Corner.{Corner}

-- the number divides all four numbers of a point, and these are the quotients
abbrev pub IsPointTimes : ℤ → Point → Point → Type 0
IsPointTimes m quotient p = (p.x ≡ m *ℤ quotient.x) × (p.y ≡ m *ℤ quotient.y) × (p.z ≡ m *ℤ quotient.z) × (p.w ≡ m *ℤ quotient.w)

-- the weight is above 0, and no number but 1 and -1 divides all four
pub record IsReducedPoint (p : Point) : Type 0 where
  pub weight : IsPoint p
  pub divisors : (m : ℤ) (quotient : Point) → IsPointTimes m quotient p → unsigned_abs m ≡ 1

-- the coordinates of a point, each times its weight
abbrev pub numerators : Point → Vector
numerators p = record { x = p.x; y = p.y; z = p.z }

-- an exact corner: reduced, and within 2^20 grid steps
pub record IsExactCorner (p : Point) : Type 0 where
  pub reduced : IsReducedPoint p
  pub weight : unsigned_abs p.w ≤ 6 * 2 ^ 78
  pub size : IsWithin (6 * 2 ^ 96) (numerators p)
  pub reach : IsWithin (2 ^ 20 * unsigned_abs p.w) (numerators p)

-- a printed corner, in micrometres
abbrev pub IsPrintedCorner : Vector → Type 0
IsPrintedCorner v = IsWithin (10 ^ 14) v

abbrev pub IsCornerWithin : Corner → Type 0
IsCornerWithin c = IsExactCorner c.exact × IsPrintedCorner c.printed

-- the plane is reduced, seen from one of its sides, and its numbers are within the limits of this project
pub record IsPrintedPlane (h : Plane) : Type 0 where
  pub reduced : IsReduced h ⊎ IsReduced (opposite h)
  pub a : unsigned_abs h.a ≤ 2 ^ 26
  pub b : unsigned_abs h.b ≤ 2 ^ 26
  pub c : unsigned_abs h.c ≤ 2 ^ 26
  pub d : unsigned_abs h.d ≤ 2 ^ 44
