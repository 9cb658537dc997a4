-- The planes of an element, and the two sides of a point on one of them.
use Rattle.std.specs.Prelude.{◌≡◌, ◌≢◌, ℤ, pos, neg_ℤ, ◌^◌, ◌+ℤ◌, ◌-ℤ◌, ◌*ℤ◌, ◌==◌, List, [], ◌∷◌, ◌++◌, Contains, unsigned_abs, if◌then◌else◌}
use Rattle.std.specs.List.{flat_map}
use Rattle.spec_space.specs.declared.Point.{Point}
use Rattle.spec_space.specs.declared.Plane.{Plane}
use Rattle.spec_space.specs.declared.Vector.{Vector}
use Rattle.spec_space.specs.Points.{minus, dot, value, opposite}
use Rattle.spec_space.specs.Reduced.{IsTimes, IsReduced}
use Rattle.spec_solid.specs.Triangles.{Triangle, turn}
use Rattle.spec_solid.specs.Solids.{Solid, Shell, HalfSpace, Combined, Body, is_meant}

-- the plane of a triangle
abbrev pub plane_through : Triangle → Plane
plane_through t = record { a = (turn t).x; b = (turn t).y; c = (turn t).z; d = dot (turn t) t.a }

-- the plane through two places that is parallel to the z axis
abbrev pub upright_plane : Vector → Vector → Plane
upright_plane u v = record {
  a = (minus v u).y;
  b = neg_ℤ (minus v u).x;
  c = pos 0;
  d = (minus v u).y *ℤ u.x -ℤ (minus v u).x *ℤ u.y;
}

-- a triangle that is not upright has its plane, and the upright planes through its edges; an upright one has none
abbrev pub triangle_planes : Triangle → List Plane
triangle_planes t =
    if unsigned_abs (turn t).z == 0 then []
    else plane_through t ∷ upright_plane t.a t.b ∷ upright_plane t.b t.c ∷ upright_plane t.c t.a ∷ []

abbrev pub solid_planes : Solid → List Plane
solid_planes (Shell triangles) = flat_map triangle_planes triangles
solid_planes (HalfSpace h in_front) = h ∷ []
solid_planes (Combined operator first second) = solid_planes first ++ solid_planes second

abbrev pub body_planes : Body → List Plane
body_planes body = flat_map solid_planes body.items ++ flat_map solid_planes body.openings

-- the reduced form of one of the element's planes
abbrev pub IsPlaneOf : Body → Plane → Type 0
IsPlaneOf body h = IsReduced h × ((k : Plane) × (m : ℤ) × Contains (body_planes body) k × (m ≢ pos 0) × IsTimes m h k)

-- the point is on this plane of the element, and on no other one
abbrev pub IsAlone : Body → Plane → Point → Type 0
IsAlone body h p = IsPlaneOf body h × (value h p ≡ pos 0) × ((k : Plane) → IsPlaneOf body k → value k p ≡ pos 0 → k ≡ h)

-- the neighbour just in front of a plane, and the one just behind it
abbrev pub front_of : Plane → Point → Point
front_of h p = record {
  x = pos (2 ^ 54) *ℤ p.x +ℤ h.a;
  y = pos (2 ^ 54) *ℤ p.y +ℤ h.b;
  z = pos (2 ^ 54) *ℤ p.z +ℤ h.c;
  w = pos (2 ^ 54) *ℤ p.w;
}

abbrev pub back_of : Plane → Point → Point
back_of h p = record {
  x = pos (2 ^ 54) *ℤ p.x -ℤ h.a;
  y = pos (2 ^ 54) *ℤ p.y -ℤ h.b;
  z = pos (2 ^ 54) *ℤ p.z -ℤ h.c;
  w = pos (2 ^ 54) *ℤ p.w;
}

-- the outward planes of the boundary at a point alone on a plane: the plane, with its normal out of the element, where
-- the meaning differs across it there, and none where it does not
abbrev pub boundary_at : Body → Plane → Point → List Plane
boundary_at body h p =
    if is_meant body (back_of h p) then (if is_meant body (front_of h p) then [] else h ∷ [])
    else (if is_meant body (front_of h p) then opposite h ∷ [] else [])
