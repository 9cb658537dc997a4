-- Whether a point lies strictly inside a fragment.
use Rattle.std.specs.Prelude.{unsigned_abs, Bool, ◌&&◌, ◌==◌, List}
use Rattle.std.specs.List.{list_all}
use Rattle.spec_space.specs.declared.Point.{Point}
use Rattle.spec_space.specs.Points.{value}
use Rattle.plane_core.specs.declared.numbers.Plane.{Plane as BookPlane}
use Rattle.convex_cycles.specs.Sides.{is_in_front}
use Rattle.poly_frag.specs.Frags.{support_of, sides_of}
use Rattle.poly_frag.specs.declared.frag.Frag.{Frag}

-- whether the point lies strictly inside the fragment: on its plane, and strictly inside each side
abbrev pub holds : List BookPlane → Frag → Point → Bool
holds planes f p = (unsigned_abs (value (support_of planes f) p) == 0) && list_all (λ h. is_in_front h p) (sides_of planes f)
