-- The order of points by x, then y, then z.
use Rattle.std.specs.Ordering.{ordering_then}
use Rattle.std.specs.declared.cmp.Ordering.{Ordering}
use Rattle.spec_num.specs.Fractions.{fraction_cmp}
use Rattle.spec_space.specs.declared.Point.{Point}

-- by x, of equal x by y, and of equal x and y by z
abbrev pub point_cmp : Point → Point → Ordering
point_cmp p q =
    ordering_then (fraction_cmp p.x p.w q.x q.w)
    (ordering_then (fraction_cmp p.y p.w q.y q.w) (fraction_cmp p.z p.w q.z q.w))
