-- Solids that are bounded by how they are made (a rule of this project).
use Rattle.std.specs.Prelude.{Bool, true, false, ◌&&◌, ◌||◌, IsTrue}
use Rattle.spec_solid.specs.declared.BoolOp.{BoolOp}
use Rattle.spec_solid.specs.declared.BoolOp.TheVariants.{Union, Intersection, Difference}
use Rattle.spec_solid.specs.Solids.{Solid, Shell, HalfSpace, Combined}

-- a union is bounded if both parts are, an intersection if one of them is, a difference if the first is
abbrev pub stays_bounded : BoolOp → Bool → Bool → Bool
stays_bounded Union p q = p && q
stays_bounded Intersection p q = p || q
stays_bounded Difference p q = p

-- a shell is bounded, and a half-space is not
abbrev pub is_bounded : Solid → Bool
is_bounded (Shell triangles) = true
is_bounded (HalfSpace h in_front) = false
is_bounded (Combined operator first second) = stays_bounded operator (is_bounded first) (is_bounded second)

abbrev pub IsBounded : Solid → Type 0
IsBounded s = IsTrue (is_bounded s)
