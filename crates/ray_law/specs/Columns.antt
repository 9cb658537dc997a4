-- When a point lies below a triangle, in the triangle's column along z, and which edges meet the quarter beside a point.
use Rattle.std.specs.Prelude.{◌≢◌, ℤ, pos, ◌*ℤ◌, Bool, false, not, ◌&&◌, int_lt, if◌then◌else◌}
use Rattle.spec_space.specs.declared.Point.{Point}
use Rattle.spec_space.specs.declared.Plane.{Plane}
use Rattle.spec_space.specs.declared.Vector.{Vector}
use Rattle.spec_space.specs.Points.{minus, dot, way, value}
use Rattle.spec_solid.specs.Triangles.{Triangle, differ, is_low, passes_above, turn}
use Rattle.spec_space.specs.Reduced.{IsTimes}
use Rattle.spec_solid.specs.Planes.{plane_through, upright_plane}

-- exactly one end of the edge lies low for the point
abbrev pub crosses : Vector → Vector → Point → Bool
crosses a b q = differ (is_low a q) (is_low b q)

-- the line from a low end to an end that is not passes right of the point, seen along z
abbrev pub rises_right : Vector → Vector → Point → Bool
rises_right low high q = int_lt ((way low q).x *ℤ (minus high low).y) ((way low q).y *ℤ (minus high low).x)

-- the edge passes right of the point: with two low ends, or none, it does not
abbrev pub passes_right : Vector → Vector → Point → Bool
passes_right a b q =
    if is_low a q then (if is_low b q then false else rises_right a b q)
    else (if is_low b q then rises_right b a q else false)

-- the edge meets the quarter that lies above the point and right of it, at the point's y
abbrev pub meets_quarter : Vector → Vector → Point → Bool
meets_quarter a b q = passes_above a b q && passes_right a b q

-- an odd number of the triangle's edges passes above the point
abbrev pub passes_above_oddly : Triangle → Point → Bool
passes_above_oddly t q = differ (differ (passes_above t.a t.b q) (passes_above t.b t.c q)) (passes_above t.c t.a q)

-- an odd number of the triangle's edges passes right of the point
abbrev pub passes_right_oddly : Triangle → Point → Bool
passes_right_oddly t q = differ (differ (passes_right t.a t.b q) (passes_right t.b t.c q)) (passes_right t.c t.a q)

-- an odd number of the triangle's edges passes right of the point, and the point lies before its plane, seen along z
abbrev pub is_below : Triangle → Point → Bool
is_below t q = passes_right_oddly t q && int_lt ((turn t).z *ℤ dot (turn t) (way t.a q)) (pos 0)

-- an odd number of the triangle's edges meets the quarter
abbrev pub quarter_parity : Triangle → Point → Bool
quarter_parity t q = differ (differ (meets_quarter t.a t.b q) (meets_quarter t.b t.c q)) (meets_quarter t.c t.a q)

-- the corner, as a point
abbrev pub point_at : Vector → Point
point_at v = record { x = v.x; y = v.y; z = v.z; w = pos 1 }

-- the point is strictly on the side of the plane on which the corner lies
abbrev pub is_beside : Plane → Vector → Point → Bool
is_beside h corner q = int_lt (pos 0) (value h (point_at corner) *ℤ value h q)

-- the point is in the triangle's column: for each edge it is on the third corner's side of the upright plane
abbrev pub is_in_column : Triangle → Point → Bool
is_in_column t q =
    is_beside (upright_plane t.a t.b) t.c q
    && (is_beside (upright_plane t.b t.c) t.a q && is_beside (upright_plane t.c t.a) t.b q)

-- the point is strictly below the plane, which is not upright
abbrev pub is_under : Plane → Point → Bool
is_under h q = if int_lt (pos 0) h.c then int_lt (value h q) (pos 0) else int_lt (pos 0) (value h q)

-- the point is on none of the upright planes of the triangle's edges
pub record IsOffWalls (t : Triangle) (q : Point) : Type 0 where
  pub ab : value (upright_plane t.a t.b) q ≢ pos 0
  pub bc : value (upright_plane t.b t.c) q ≢ pos 0
  pub ca : value (upright_plane t.c t.a) q ≢ pos 0

-- ---- planes that are reduced
-- the second plane is a multiple of the first, which holds the same points
abbrev pub IsMultiple : Plane → Plane → Type 0
IsMultiple h k = (m : ℤ) × (m ≢ pos 0) × IsTimes m h k

-- planes of which those of the triangle are multiples, such as their reduced forms
pub record FormsOf (t : Triangle) : Type 0 where
  pub ab : Plane
  pub bc : Plane
  pub ca : Plane
  pub through : Plane
  pub ab_of : IsMultiple ab (upright_plane t.a t.b)
  pub bc_of : IsMultiple bc (upright_plane t.b t.c)
  pub ca_of : IsMultiple ca (upright_plane t.c t.a)
  pub through_of : IsMultiple through (plane_through t)

-- the point is on none of them
pub record IsOffForms (t : Triangle) (forms : FormsOf t) (q : Point) : Type 0 where
  pub ab : value forms.ab q ≢ pos 0
  pub bc : value forms.bc q ≢ pos 0
  pub ca : value forms.ca q ≢ pos 0
  pub through : value forms.through q ≢ pos 0

abbrev pub is_in_front : Point → Plane → Bool
is_in_front q k = int_lt (pos 0) (value k q)

-- both or neither
abbrev pub same : Bool → Bool → Bool
same p q = if p then q else not q

-- the point lies in front of the plane where the corner does, and only there
abbrev pub is_with : Plane → Vector → Point → Bool
is_with h corner q = same (is_in_front (point_at corner) h) (is_in_front q h)

-- the four sides on which a point below the triangle lies
abbrev pub has_sides : (t : Triangle) → FormsOf t → Point → Bool
has_sides t forms q =
    (is_with forms.ab t.c q && (is_with forms.bc t.a q && is_with forms.ca t.b q))
    && same (int_lt forms.through.c (pos 0)) (is_in_front q forms.through)
