-- The cells into which the planes of an element part space, and that each has one meaning.
use Rattle.std.specs.Prelude.{◌≡◌, ◌⊎◌, pos, ◌<ℤ◌}
use Rattle.spec_space.specs.declared.Plane.{Plane}
use Rattle.spec_space.specs.declared.Point.{Point}
use Rattle.spec_space.specs.Points.{IsPoint, value}
use Rattle.spec_solid.specs.Solids.{Body, is_meant}
use Rattle.spec_solid.specs.Planes.{IsPlaneOf}

-- both points lie in front of the plane, or both behind it
abbrev pub AreOnOneSide : Plane → Point → Point → Type 0
AreOnOneSide h p q = ((pos 0 <ℤ value h p) × (pos 0 <ℤ value h q)) ⊎ ((value h p <ℤ pos 0) × (value h q <ℤ pos 0))

-- the points are off the planes of the element, and on one side of each
abbrev pub AreInOneCell : Body → Point → Point → Type 0
AreInOneCell body p q = (h : Plane) → IsPlaneOf body h → AreOnOneSide h p q

-- two points of one cell are both inside the element, or both outside
abbrev pub HasOneMeaningInEachCell : Body → Type 0
HasOneMeaningInEachCell body = (p q : Point) → IsPoint p → IsPoint q → AreInOneCell body p q → is_meant body p ≡ is_meant body q
