-- The planes and corners of this crate as the planes and points of the definitions.
use Rattle.plane_core.specs.declared.numbers.Plane.{Plane}
use Rattle.plane_core.specs.declared.numbers.Corner.{Corner}
use Rattle.plane_core.specs.declared.numbers.RawCorner.{RawCorner}
use Rattle.spec_space.specs.declared.Plane.{Plane as AnyPlane}
use Rattle.spec_space.specs.declared.Point.{Point}

-- the plane with the same numbers
abbrev pub plane_of : Plane → AnyPlane
plane_of p = record { a = p.a; b = p.b; c = p.c; d = p.d }

-- the point with the same numbers
abbrev pub point_of : Corner → Point
point_of c = record { x = c.x; y = c.y; z = c.z; w = c.w }

abbrev pub raw_point_of : RawCorner → Point
raw_point_of c = record { x = c.x; y = c.y; z = c.z; w = c.w }
