-- Points, vectors and planes over whole numbers without bound (ISO 10303-42, with whole coordinates).
use Rattle.std.specs.Prelude.{ℤ, pos, neg_ℤ, ◌+ℤ◌, ◌-ℤ◌, ◌*ℤ◌, ◌<ℤ◌}
use Rattle.spec_space.specs.declared.Point.{Point}
use Rattle.spec_space.specs.declared.Plane.{Plane}
use Rattle.spec_space.specs.declared.Vector.{Vector}

-- a point has a weight above 0
abbrev pub IsPoint : Point → Type 0
IsPoint p = pos 0 <ℤ p.w

abbrev pub minus : Vector → Vector → Vector
minus u v = record { x = u.x -ℤ v.x; y = u.y -ℤ v.y; z = u.z -ℤ v.z }

abbrev pub cross : Vector → Vector → Vector
cross u v = record { x = u.y *ℤ v.z -ℤ u.z *ℤ v.y; y = u.z *ℤ v.x -ℤ u.x *ℤ v.z; z = u.x *ℤ v.y -ℤ u.y *ℤ v.x }

abbrev pub dot : Vector → Vector → ℤ
dot u v = u.x *ℤ v.x +ℤ u.y *ℤ v.y +ℤ u.z *ℤ v.z

-- the way from a place to a point, times the point's weight
abbrev pub way : Vector → Point → Vector
way a p = record { x = p.x -ℤ a.x *ℤ p.w; y = p.y -ℤ a.y *ℤ p.w; z = p.z -ℤ a.z *ℤ p.w }

-- the way from one point to another, times both weights
abbrev pub way_between : Point → Point → Vector
way_between p q = record { x = q.x *ℤ p.w -ℤ p.x *ℤ q.w; y = q.y *ℤ p.w -ℤ p.y *ℤ q.w; z = q.z *ℤ p.w -ℤ p.z *ℤ q.w }

abbrev pub normal : Plane → Vector
normal h = record { x = h.a; y = h.b; z = h.c }

-- the value of a plane at a point: above 0 in front, 0 on the plane, below 0 behind
abbrev pub value : Plane → Point → ℤ
value h p = h.a *ℤ p.x +ℤ h.b *ℤ p.y +ℤ h.c *ℤ p.z -ℤ h.d *ℤ p.w

-- the same plane, seen from its other side
abbrev pub opposite : Plane → Plane
opposite h = record { a = neg_ℤ h.a; b = neg_ℤ h.b; c = neg_ℤ h.c; d = neg_ℤ h.d }
