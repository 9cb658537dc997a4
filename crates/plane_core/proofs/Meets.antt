-- The common point of three planes, by any of its spellings.
use Rattle.std.proofs.Common.{◌≡◌, ℤ, pos, ◌*ℤ◌, ◌<ℤ◌, arith}
use Rattle.std.proofs.lemmas.Int.{ints}
use Rattle.integer_laws.proofs.Cramer as C
use Rattle.spec_space.specs.declared.Point.{Point}
use Rattle.spec_space.specs.declared.Plane.{Plane as AnyPlane}
use Rattle.spec_space.specs.Points.{value}
use Rattle.plane_core.specs.Views.{plane_of}
use Rattle.plane_core.specs.Planes.{IsOnlyPointOf, IsMultipleOf}
use Rattle.plane_core.specs.declared.numbers.Plane.{Plane}

-- the numbers of Cramer's rule
abbrev pub cramer : Plane → Plane → Plane → Point
cramer p q r = record {
  x = C.x p.a p.b p.c p.d q.a q.b q.c q.d r.a r.b r.c r.d;
  y = C.y p.a p.b p.c p.d q.a q.b q.c q.d r.a r.b r.c r.d;
  z = C.z p.a p.b p.c p.d q.a q.b q.c q.d r.a r.b r.c r.d;
  w = C.w p.a p.b p.c p.d q.a q.b q.c q.d r.a r.b r.c r.d;
}

once : (x y : ℤ) → x ≡ y → x ≡ pos 1 *ℤ y
once x y e = omega (arith, ints)

one : (x y : ℤ) → x ≡ y → pos 1 *ℤ x ≡ y
one x y e = omega (arith, ints)

one_positive : pos 0 <ℤ pos 1
one_positive = omega (arith, ints)

-- a multiple of them, by a factor of either sign, is the one point of the three planes
pub turned_point : (p q r : Plane) (s : ℤ) (y : Point) → s *ℤ (cramer p q r).x ≡ y.x → s *ℤ (cramer p q r).y ≡ y.y → s *ℤ (cramer p q r).z ≡ y.z → s *ℤ (cramer p q r).w ≡ y.w → IsOnlyPointOf p q r y
turned_point p q r s y ex ey ez ew =
    let x_is = once _ _ ex in
    let y_is = once _ _ ey in
    let z_is = once _ _ ez in
    let w_is = once _ _ ew in
    record {
      on_first = C.on_corner p.a p.b p.c p.d s _ _ _ _ (pos 1) y.x y.y y.z y.w one_positive x_is y_is z_is w_is (C.on_first p.a p.b p.c p.d q.a q.b q.c q.d r.a r.b r.c r.d);
      on_second = C.on_corner q.a q.b q.c q.d s _ _ _ _ (pos 1) y.x y.y y.z y.w one_positive x_is y_is z_is w_is (C.on_second p.a p.b p.c p.d q.a q.b q.c q.d r.a r.b r.c r.d);
      on_third = C.on_corner r.a r.b r.c r.d s _ _ _ _ (pos 1) y.x y.y y.z y.w one_positive x_is y_is z_is w_is (C.on_third p.a p.b p.c p.d q.a q.b q.c q.d r.a r.b r.c r.d);
      only = λ (u : Point) is_point on_p on_q on_r. record {
        same_x = C.same_corner s _ _ (pos 1) y.x y.w u.x u.w one_positive x_is w_is (C.same_x p.a p.b p.c p.d q.a q.b q.c q.d r.a r.b r.c r.d u.x u.y u.z u.w on_p on_q on_r);
        same_y = C.same_corner s _ _ (pos 1) y.y y.w u.y u.w one_positive y_is w_is (C.same_y p.a p.b p.c p.d q.a q.b q.c q.d r.a r.b r.c r.d u.x u.y u.z u.w on_p on_q on_r);
        same_z = C.same_corner s _ _ (pos 1) y.z y.w u.z u.w one_positive z_is w_is (C.same_z p.a p.b p.c p.d q.a q.b q.c q.d r.a r.b r.c r.d u.x u.y u.z u.w on_p on_q on_r);
      };
    }

-- on a plane by one spelling, on it by the other
pub multiple_on : (h : AnyPlane) (x y : Point) → IsMultipleOf x y → value h x ≡ pos 0 → value h y ≡ pos 0
multiple_on h x y m on = C.on_corner h.a h.b h.c h.d (pos 1) x.x x.y x.z x.w m.factor y.x y.y y.z y.w m.positive (one _ _ m.x_is) (one _ _ m.y_is) (one _ _ m.z_is) (one _ _ m.w_is) on

pub multiple_point : (p q r : Plane) (x y : Point) → IsMultipleOf x y → IsOnlyPointOf p q r x → IsOnlyPointOf p q r y
multiple_point p q r x y m o = record {
  on_first = multiple_on (plane_of p) x y m o.on_first;
  on_second = multiple_on (plane_of q) x y m o.on_second;
  on_third = multiple_on (plane_of r) x y m o.on_third;
  only = λ (u : Point) is_point on_p on_q on_r. let same = o.only u is_point on_p on_q on_r in record {
    same_x = C.same_corner (pos 1) x.x x.w m.factor y.x y.w u.x u.w m.positive (one _ _ m.x_is) (one _ _ m.w_is) same.same_x;
    same_y = C.same_corner (pos 1) x.y x.w m.factor y.y y.w u.y u.w m.positive (one _ _ m.y_is) (one _ _ m.w_is) same.same_y;
    same_z = C.same_corner (pos 1) x.z x.w m.factor y.z y.w u.z u.w m.positive (one _ _ m.z_is) (one _ _ m.w_is) same.same_z;
  };
}
