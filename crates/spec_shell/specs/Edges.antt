-- Edges between places on the grid, and closed shells (a rule of this project): each two places are joined by an even number of edges.
use Rattle.std.specs.Prelude.{◌≡◌, ◌≢◌, Bool, false, not, ◌&&◌, ◌||◌, int_lt, List, [], ◌∷◌, map, filter, Option, Some, None, if◌then◌else◌}
use Rattle.std.specs.Ordering.{int_eq}
use Rattle.spec_space.specs.declared.Vector.{Vector}
use Rattle.spec_solid.specs.Triangles.{differ}

abbrev pub Edge : Type 0
Edge = Vector × Vector

abbrev pub is_same_place : Vector → Vector → Bool
is_same_place u v = int_eq u.x v.x && (int_eq u.y v.y && int_eq u.z v.z)

-- the edge joins the two places, in either direction
abbrev pub joins : Vector → Vector → Edge → Bool
joins u v e = (is_same_place e.0 u && is_same_place e.1 v) || (is_same_place e.0 v && is_same_place e.1 u)

-- an odd number of the edges passes the test
abbrev pub oddly : (Edge → Bool) → List Edge → Bool
oddly test [] = false
oddly test (e ∷ es) = differ (test e) (oddly test es)

-- each two places are joined by an even number of the edges
abbrev pub AreEven : List Edge → Type 0
AreEven es = (u v : Vector) → u ≢ v → oddly (joins u v) es ≡ false

-- Where a shell is open.

-- a place comes before another by x, then by y, then by z
abbrev pub is_before : Vector → Vector → Bool
is_before u v =
    int_lt u.x v.x || (int_eq u.x v.x && (int_lt u.y v.y || (int_eq u.y v.y && int_lt u.z v.z)))

-- an edge comes before another by its first place, then by its second
abbrev pub is_edge_before : Edge → Edge → Bool
is_edge_before e f = is_before e.0 f.0 || (is_same_place e.0 f.0 && is_before e.1 f.1)

-- the edge from the earlier one of its places
abbrev pub rising : Edge → Edge
rising e = if is_before e.1 e.0 then (e.1, e.0) else e

-- the edges between two places that an odd number of the edges joins
abbrev pub odd_edges : List Edge → List Edge
odd_edges es = map rising (filter (λ e. not (is_same_place e.0 e.1) && oddly (joins e.0 e.1) es) es)

abbrev pub least_of : List Edge → Option Edge
least_of [] = None
least_of (e ∷ es) = or_less e (least_of es)
  where
    or_less : Edge → Option Edge → Option Edge
    or_less e None = Some e
    or_less e (Some f) = Some (if is_edge_before f e then f else e)

-- the least of the edges at which a shell is open, if it is
abbrev pub open_edge : List Edge → Option Edge
open_edge es = least_of (odd_edges es)
