-- Sides: planes of which the front is kept.
use Rattle.std.specs.Prelude.{Bool, pos, ◌<ℤ◌, ◌≤ℤ◌, int_lt, List, All}
use Rattle.spec_space.specs.declared.Point.{Point}
use Rattle.spec_space.specs.declared.Plane.{Plane}
use Rattle.spec_space.specs.Points.{value}

-- strictly inside each side
abbrev pub IsWithin : List Plane → Point → Type 0
IsWithin sides p = All (λ h. pos 0 <ℤ value h p) sides

-- inside each side or on its plane
abbrev pub IsTouching : List Plane → Point → Type 0
IsTouching sides p = All (λ h. pos 0 ≤ℤ value h p) sides

-- whether the point lies strictly in front
abbrev pub is_in_front : Plane → Point → Bool
is_in_front h p = int_lt (pos 0) (value h p)
