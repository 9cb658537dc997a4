-- When a triangle is pierced by the ray from a point along the positive x axis (a rule of this project).
use Rattle.std.specs.Prelude.{pos, ◌*ℤ◌, Bool, false, not, ◌&&◌, int_lt, int_le, if◌then◌else◌}
use Rattle.spec_space.specs.declared.Point.{Point}
use Rattle.spec_space.specs.declared.Vector.{Vector}
use Rattle.spec_space.specs.Points.{minus, cross, dot, way}

-- a triangle with corners at whole grid steps
pub record Triangle : Type 0 where
  pub a : Vector
  pub b : Vector
  pub c : Vector

-- exactly one of two
abbrev pub differ : Bool → Bool → Bool
differ p q = if p then not q else q

-- the corner lies low for the point, seen along y
abbrev pub is_low : Vector → Point → Bool
is_low a q = int_le (a.y *ℤ q.w) q.y

-- the line from a low end to an end that is not passes above the point, seen along x
abbrev pub rises_above : Vector → Vector → Point → Bool
rises_above low high q = int_lt ((way low q).z *ℤ (minus high low).y) ((way low q).y *ℤ (minus high low).z)

-- the edge passes above the point: with two low ends, or none, it does not
abbrev pub passes_above : Vector → Vector → Point → Bool
passes_above a b q =
    if is_low a q then (if is_low b q then false else rises_above a b q)
    else (if is_low b q then rises_above b a q else false)

abbrev pub turn : Triangle → Vector
turn t = cross (minus t.b t.a) (minus t.c t.a)

-- an odd number of the triangle's edges passes above the point, and the point lies before its plane, seen along x
abbrev pub is_pierced : Triangle → Point → Bool
is_pierced t q =
    differ (differ (passes_above t.a t.b q) (passes_above t.b t.c q)) (passes_above t.c t.a q)
    && int_lt ((turn t).x *ℤ dot (turn t) (way t.a q)) (pos 0)
