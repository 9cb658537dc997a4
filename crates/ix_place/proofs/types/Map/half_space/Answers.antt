use Rattle.std.proofs.Common.{◌≡◌, false, pos, ◌^◌}
use Rattle.spec_space.specs.declared.Vector.{Vector}
use Rattle.spec_space.specs.declared.Plane.{Plane}
use Rattle.spec_space.specs.Points.{dot}
use Rattle.spec_place.specs.Vectors.{divided, is_zero, IsWithin}
use Rattle.spec_place.specs.HalfSpaces.{plane_through}
use Rattle.ix_place.specs.Bounds.{IsPlaneOnGrid}
use Rattle.ix_place.proofs.Sizes.{wider_number, dot_within, divided_within}
use Rattle.ix_place.proofs.types.Map.half_space.Goals as goal

normal_within : (n m : Vector) → m ≡ divided n (pos 100) → IsWithin (10 ^ 9) n → IsWithin (10 ^ 7) m
normal_within n m is h = rw is (divided_within n 100 {n = 10 ^ 7} tt h)

on_grid : (n m corner : Vector) (h : Plane) → m ≡ divided n (pos 100) → h ≡ plane_through m corner → IsWithin (10 ^ 7) m → IsWithin (10 ^ 13) corner → is_zero (divided n (pos 100)) ≡ false → IsPlaneOnGrid h
on_grid n m corner h is plane small near some_ = rw plane (record { some = rw is some_; normal_small = small; d_small = wider_number (dot m corner) (dot_within m corner small near) tt })

pub plane_through-requires-clause-normal : goal.plane_through-requires-clause-normal
plane_through-requires-clause-normal c = normal_within c.in_ok-plane_normal.field-0 c.divided-normal.result c.divided-normal.ensures c.in_ok-plane_normal.ensures.within

pub returns-clause-plane : goal.returns-clause-plane
returns-clause-plane c =
    on_grid c.in_ok-plane_normal.field-0 c.divided-normal.result c.location-corner.result c.plane_through.result c.divided-normal.ensures c.plane_through.ensures.value
    (normal_within c.in_ok-plane_normal.field-0 c.divided-normal.result c.divided-normal.ensures c.in_ok-plane_normal.ensures.within)
    c.location-corner.ensures.within c.in_ok-plane_normal.ensures.some
