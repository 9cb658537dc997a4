-- The side of a point at a plane, the common point of three planes, and when a plane is the reduced form of four numbers.
use Rattle.std.specs.Prelude.{◌≢◌, ◌≡◌, zero, suc, ℤ, negsuc, pos, ◌*ℤ◌, ◌<ℤ◌}
use Rattle.spec_space.specs.declared.Point.{Point}
use Rattle.spec_space.specs.declared.Plane.{Plane as AnyPlane}
use Rattle.spec_space.specs.Points.{IsPoint, value, normal, dot, cross}
use Rattle.spec_space.specs.Reduced.{IsTimes}
use Rattle.spec_space.specs.Sums.{IsSamePoint}
use Rattle.plane_core.specs.Views.{plane_of, point_of, raw_point_of}
use Rattle.plane_core.specs.declared.numbers.Plane.{Plane}
use Rattle.plane_core.specs.declared.numbers.Corner.{Corner}
use Rattle.plane_core.specs.declared.numbers.RawCorner.{RawCorner}
use Rattle.plane_core.specs.declared.points.Sign.{Sign}
use Rattle.plane_core.specs.declared.points.Sign.TheVariants.{Front, On, Back}

abbrev pub sign_of : ℤ → Sign
sign_of (pos zero) = On
sign_of (pos (suc n)) = Front
sign_of (negsuc n) = Back

-- the value of a plane at the point of four numbers
abbrev pub value_at : AnyPlane → ℤ → ℤ → ℤ → ℤ → ℤ
value_at h x y z w = value h (record { x = x; y = y; z = z; w = w })

abbrev pub IsOn : Plane → Point → Type 0
IsOn p q = value (plane_of p) q ≡ pos 0

-- 0 exactly where the three normals are dependent
abbrev pub normals_det : Plane → Plane → Plane → ℤ
normals_det p q r = dot (normal (plane_of p)) (cross (normal (plane_of q)) (normal (plane_of r)))

-- the point is the one point of all three planes
pub record IsOnlyPointOf (p q r : Plane) (place : Point) : Type 0 where
  pub on_first : IsOn p place
  pub on_second : IsOn q place
  pub on_third : IsOn r place
  pub only : (x : Point) → IsPoint x → IsOn p x → IsOn q x → IsOn r x → IsSamePoint x place

-- the corner is the one point of all three planes
abbrev pub IsCommonPoint : Plane → Plane → Plane → Corner → Type 0
IsCommonPoint p q r c = IsOnlyPointOf p q r (point_of c)

abbrev pub IsRawCommonPoint : Plane → Plane → Plane → RawCorner → Type 0
IsRawCommonPoint p q r c = IsOnlyPointOf p q r (raw_point_of c)

-- the four numbers of the first point are one positive multiple of those of the second
pub record IsMultipleOf (q p : Point) : Type 0 where
  pub factor : ℤ
  pub positive : pos 0 <ℤ factor
  pub x_is : q.x ≡ factor *ℤ p.x
  pub y_is : q.y ≡ factor *ℤ p.y
  pub z_is : q.z ≡ factor *ℤ p.z
  pub w_is : q.w ≡ factor *ℤ p.w

-- the plane has the four numbers, but for a common factor
pub record IsReductionOf (p : Plane) (a b c d : ℤ) : Type 0 where
  pub factor : ℤ
  pub some : factor ≢ pos 0
  pub times : IsTimes factor (plane_of p) (record { a = a; b = b; c = c; d = d })
