-- When a point is inside a solid, and what an element means.
use Rattle.std.specs.Prelude.{pos, Bool, false, not, ◌&&◌, ◌||◌, int_lt, List, [], ◌∷◌, if◌then◌else◌}
use Rattle.spec_space.specs.declared.Point.{Point}
use Rattle.spec_space.specs.declared.Plane.{Plane}
use Rattle.spec_space.specs.Points.{value}
use Rattle.spec_solid.specs.declared.BoolOp.{BoolOp}
use Rattle.spec_solid.specs.declared.BoolOp.TheVariants.{Union, Intersection, Difference}
use Rattle.spec_solid.specs.Triangles.{Triangle, differ, is_pierced}

-- a shell of triangles, a half-space with its material in front of its plane or behind it, and two solids combined
pub data Solid : Type 0 where
  Shell : List Triangle → Solid
  HalfSpace : Plane → Bool → Solid
  Combined : BoolOp → Solid → Solid → Solid

abbrev pub truth : BoolOp → Bool → Bool → Bool
truth Union p q = p || q
truth Intersection p q = p && q
truth Difference p q = p && not q

-- an odd number of the triangles is pierced from the point
abbrev pub pierces_oddly : List Triangle → Point → Bool
pierces_oddly [] q = false
pierces_oddly (t ∷ ts) q = differ (is_pierced t q) (pierces_oddly ts q)

abbrev pub is_inside : Solid → Point → Bool
is_inside (Shell triangles) q = pierces_oddly triangles q
is_inside (HalfSpace h in_front) q = if in_front then int_lt (pos 0) (value h q) else int_lt (value h q) (pos 0)
is_inside (Combined operator first second) q = truth operator (is_inside first q) (is_inside second q)

abbrev pub is_inside_some : List Solid → Point → Bool
is_inside_some [] q = false
is_inside_some (s ∷ ss) q = is_inside s q || is_inside_some ss q

-- an element's items, and the items of its openings
pub record Body : Type 0 where
  pub items : List Solid
  pub openings : List Solid

-- the element's meaning: the point is inside some item, and inside no item of an opening
abbrev pub is_meant : Body → Point → Bool
is_meant body q = is_inside_some body.items q && not (is_inside_some body.openings q)
