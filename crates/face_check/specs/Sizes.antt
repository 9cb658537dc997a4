-- Planes and faces of which sides are computed in 128 bits.
use Rattle.std.specs.Prelude.{◌≡◌, ◌≤◌, ◌<◌, ◌^◌, ℕ, All, length, unsigned_abs}
use Rattle.spec_space.specs.declared.Plane.{Plane}
use Rattle.spec_page.specs.Element.{Face}

-- the numbers of the plane are within the limits of planes
pub record IsSizedPlane (h : Plane) : Type 0 where
  pub a : unsigned_abs h.a ≤ 2 ^ 26
  pub b : unsigned_abs h.b ≤ 2 ^ 26
  pub c : unsigned_abs h.c ≤ 2 ^ 26
  pub d : unsigned_abs h.d ≤ 2 ^ 44

-- a face among so many corners, with a plane for each edge
pub record IsSizedFace (corners : ℕ) (f : Face) : Type 0 where
  pub plane : IsSizedPlane f.plane
  pub edges : All IsSizedPlane f.edges
  pub paired : length f.edges ≡ length f.corners
  pub within : All (λ i. i < corners) f.corners
