-- The order of places and of edges, as a set keeps them, and which edges an odd number joins.
use Rattle.std.specs.Prelude.{Bool, ◌&&◌, List}
use Rattle.std.specs.Ordering.{int_cmp, ordering_then}
use Rattle.std.specs.declared.cmp.Ordering.{Ordering}
use Rattle.spec_space.specs.declared.Vector.{Vector}
use Rattle.spec_shell.specs.Edges.{Edge, is_before, joins, oddly}
use Rattle.shell_edges.specs.declared.place.Place.{Place}

abbrev pub vector_of : Place → Vector
vector_of p = record { x = p.x; y = p.y; z = p.z }

abbrev pub edge_of : Place × Place → Edge
edge_of k = (vector_of k.0, vector_of k.1)

-- by x, then by y, then by z
abbrev pub vector_cmp : Vector → Vector → Ordering
vector_cmp u v = ordering_then (int_cmp u.x v.x) (ordering_then (int_cmp u.y v.y) (int_cmp u.z v.z))

-- by the first place, then by the second
abbrev pub edge_cmp : Edge → Edge → Ordering
edge_cmp e f = ordering_then (vector_cmp e.0 f.0) (vector_cmp e.1 f.1)

abbrev pub joint_cmp : Place × Place → Place × Place → Ordering
joint_cmp j k = edge_cmp (edge_of j) (edge_of k)

-- the edge rises, and an odd number of the edges joins its places
abbrev pub is_odd : List Edge → Edge → Bool
is_odd es k = is_before k.0 k.1 && oddly (joins k.0 k.1) es
