-- The corners inside an edge, in the order of their coordinates.
use Rattle.std.specs.Prelude.{◌≡◌, ◌↔◌, pos, Bool, true, false, ◌&&◌, List, AllPairs, Contains}
use Rattle.std.specs.Ordering.{is_lt, int_eq}
use Rattle.spec_space.specs.declared.Plane.{Plane}
use Rattle.spec_space.specs.Points.{value}
use Rattle.plane_core.specs.declared.numbers.Plane.{Plane as BookPlane}
use Rattle.plane_core.specs.declared.numbers.Corner.{Corner}
use Rattle.plane_core.specs.declared.book.PlaneId.{PlaneId}
use Rattle.plane_core.specs.Views.{point_of}
use Rattle.convex_cycles.specs.Sides.{is_in_front}
use Rattle.poly_frag.specs.Frags.{plane_at, side_of}
use Rattle.corner_book.specs.Order.{point_cmp}
use Rattle.edge_cut.specs.declared.sides.Side.{Side}

-- c comes before d by x, then y, then z
abbrev pub comes_before : Corner → Corner → Bool
comes_before c d = is_lt (point_cmp (point_of c) (point_of d))

-- c comes after one corner and before another one
abbrev pub is_among : Corner → Corner → Corner → Bool
is_among low high c = comes_before low c && comes_before c high

-- the corner is strictly inside the sides that the edges before and after keep
abbrev pub is_between : List BookPlane → Side → Corner → Bool
is_between planes s c = is_in_front (side_of planes s.before) (point_of c) && is_in_front (side_of planes s.after) (point_of c)

-- the corner is on the plane
abbrev pub lies_on : Plane → Corner → Bool
lies_on h c = int_eq (value h (point_of c)) (pos 0)

-- the corner is on the planes of two numbers
abbrev pub lies_on_both : List BookPlane → PlaneId → PlaneId → Corner → Bool
lies_on_both planes p q c = lies_on (plane_at planes p) c && lies_on (plane_at planes q) c

-- the corner is on the planes of the piece and of the edge
abbrev pub is_on_line : List BookPlane → PlaneId → Side → Corner → Bool
is_on_line planes support s c = lies_on_both planes support s.edge.plane c

-- the corner lies on the edge and is neither of its ends
abbrev pub is_inside : List BookPlane → PlaneId → Side → Corner → Bool
is_inside planes support s c = is_on_line planes support s c && is_between planes s c

-- all corners of the list that lie inside the edge, rising where the edge rises, and falling where it falls
pub record IsStretch (planes : List BookPlane) (corners : List Corner) (support : PlaneId) (s : Side) (inside : List Corner) : Type 0 where
  pub all : (c : Corner) → Contains inside c ↔ (Contains corners c × (is_inside planes support s c ≡ true))
  pub rising : comes_before s.end s.start ≡ false → AllPairs (λ c d. comes_before c d ≡ true) inside
  pub falling : comes_before s.end s.start ≡ true → AllPairs (λ c d. comes_before d c ≡ true) inside
