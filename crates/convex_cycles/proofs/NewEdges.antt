-- The edges of a cycle after a cut: one that leaves the front of the cut, one that enters it, and the edge on the cut.
use Rattle.std.proofs.Common.{pos, ◌<ℤ◌, ◌≤ℤ◌}
use Rattle.spec_space.specs.declared.Plane.{Plane}
use Rattle.spec_space.specs.Points.{value}
use Rattle.convex_cycles.specs.Cycles.{Step, IsEdgeOf}
use Rattle.convex_cycles.proofs.Orders.{level}
use Rattle.convex_cycles.proofs.Crossings.{crossing, crossing-IsPoint, crossing_on, crossing_zero, crossing_positive}
use Rattle.convex_cycles.proofs.Turns.{leaving_edge, entering_edge}

-- e up to the cut
abbrev pub leaving : Plane → Step → Step
leaving k e = record { prev = e.prev; side = e.side; next = k; start = e.start; end = crossing k e.end e.start }

-- e from the cut on
abbrev pub entering : Plane → Step → Step
entering k e = record { prev = k; side = e.side; next = e.next; start = crossing k e.start e.end; end = e.end }

-- the new edge on the cut, from the edge u that leaves to the edge v that enters
abbrev pub along : Plane → Step → Step → Step
along k u v = record { prev = u.side; side = k; next = v.side; start = crossing k u.end u.start; end = crossing k v.start v.end }

pub leaving-IsEdgeOf : (s k : Plane) (e : Step) → IsEdgeOf s e → pos 0 <ℤ value k e.start → value k e.end ≤ℤ pos 0 → IsEdgeOf s (leaving k e)
leaving-IsEdgeOf s k e is front back = record {
  start_point = is.start_point;
  end_point = crossing-IsPoint k e.end e.start is.end_point is.start_point back front;
  start_on = is.start_on;
  end_on = crossing_zero k s e.end e.start is.end_on is.start_on;
  start_prev = is.start_prev;
  start_side = is.start_side;
  end_side = crossing_zero k e.side e.end e.start is.end_side is.start_side;
  end_next = crossing_on k e.end e.start;
  inside_prev = crossing_positive k e.prev e.end e.start back front is.inside_prev (level (value e.prev e.start) is.start_prev);
  inside_next = front;
  left = is.left;
  left_next = leaving_edge s k e is front back;
}

pub entering-IsEdgeOf : (s k : Plane) (e : Step) → IsEdgeOf s e → value k e.start ≤ℤ pos 0 → pos 0 <ℤ value k e.end → IsEdgeOf s (entering k e)
entering-IsEdgeOf s k e is back front = record {
  start_point = crossing-IsPoint k e.start e.end is.start_point is.end_point back front;
  end_point = is.end_point;
  start_on = crossing_zero k s e.start e.end is.start_on is.end_on;
  end_on = is.end_on;
  start_prev = crossing_on k e.start e.end;
  start_side = crossing_zero k e.side e.start e.end is.start_side is.end_side;
  end_side = is.end_side;
  end_next = is.end_next;
  inside_prev = front;
  inside_next = crossing_positive k e.next e.start e.end back front is.inside_next (level (value e.next e.end) is.end_next);
  left = entering_edge s k e is back front;
  left_next = is.left_next;
}

pub along-IsEdgeOf : (s k : Plane) (u v : Step) → IsEdgeOf s u → IsEdgeOf s v
    → pos 0 <ℤ value k u.start → value k u.end ≤ℤ pos 0 → value k v.start ≤ℤ pos 0 → pos 0 <ℤ value k v.end
    → pos 0 <ℤ value u.side (crossing k v.start v.end) → pos 0 <ℤ value v.side (crossing k u.end u.start) → IsEdgeOf s (along k u v)
along-IsEdgeOf s k u v iu iv u_front u_back v_back v_front inside_u inside_v =
    let l = leaving-IsEdgeOf s k u iu u_front u_back in
    let r = entering-IsEdgeOf s k v iv v_back v_front in
    record {
      start_point = l.end_point;
      end_point = r.start_point;
      start_on = l.end_on;
      end_on = r.start_on;
      start_prev = l.end_side;
      start_side = l.end_next;
      end_side = r.start_prev;
      end_next = r.start_side;
      inside_prev = inside_u;
      inside_next = inside_v;
      left = l.left_next;
      left_next = r.left;
    }
