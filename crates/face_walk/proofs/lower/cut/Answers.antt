use Rattle.std.proofs.Common.{◌+◌, true, false, subst}
use Rattle.poly_frag.specs.Splits.{IsSplit, AreSplitFragments, AreSplitEdges}
use Rattle.tree_pool.specs.Pools.{rank_at}
use Rattle.face_walk.proofs.Sheets.{weight_one, weight_two, step_lower, one_divided, two_divided, part_rest, front_frag, back_frag, both_frags}
use Rattle.face_walk.proofs.lower.cut.Goals as goal

pub returns-in_ok-push-in-Front : goal.returns-in_ok-push-in-Front
returns-in_ok-push-in-Front c =
    let pool = c.args.pool.now in
    let planes = c.args.book.now in
    let ok = c.on_sides-before.ensures.trees in
    let live = c.requires.safe.live in
    let s = c.args.sheet.now in
    let by = c.args.plane in
    let g = c.in-Front.frag in
    let next = c.on_sides-before.result in
    let goes = c.on_sides-before.ensures.places in
    let points = subst (IsSplit planes s.frag by) c.in-Front.is c.in_ok-frag.ensures.points in
    let edges = subst (AreSplitEdges s.frag by) c.in-Front.is c.in_ok-frag.ensures.edges in
    let fragment = subst (AreSplitFragments planes) c.in-Front.is c.in_ok-frag.ensures.fragments in
    record {
      divided = one_divided pool planes s (record { frag = g; places = next }) c.args.sheets.now.items c.push.new.self.items c.in_ok-push-in-Front.ensures.items
          (part_rest pool ok planes s by true c.requires.crossing g fragment edges.0 edges.1 points.0 next goes)
          (front_frag pool planes s by c.requires.crossing c.requires.other g points.0 points.2)
          (weight_one (rank_at pool next.front + rank_at pool next.back) (rank_at pool s.places.front + rank_at pool s.places.back)
          (step_lower pool ok s.places live by.k c.requires.crossing true true next goes));
    }

pub returns-in_ok-push-in-Back : goal.returns-in_ok-push-in-Back
returns-in_ok-push-in-Back c =
    let pool = c.args.pool.now in
    let planes = c.args.book.now in
    let ok = c.on_sides-before.ensures.trees in
    let live = c.requires.safe.live in
    let s = c.args.sheet.now in
    let by = c.args.plane in
    let g = c.in-Back.frag in
    let next = c.on_sides-behind.result in
    let goes = c.on_sides-behind.ensures.places in
    let points = subst (IsSplit planes s.frag by) c.in-Back.is c.in_ok-frag.ensures.points in
    let edges = subst (AreSplitEdges s.frag by) c.in-Back.is c.in_ok-frag.ensures.edges in
    let fragment = subst (AreSplitFragments planes) c.in-Back.is c.in_ok-frag.ensures.fragments in
    record {
      divided = one_divided pool planes s (record { frag = g; places = next }) c.args.sheets.now.items c.push-in-Back.new.self.items c.in_ok-push-in-Back.ensures.items
          (part_rest pool ok planes s by false c.requires.crossing g fragment edges.0 edges.1 points.0 next goes)
          (back_frag pool planes s by c.requires.crossing c.requires.other g points.0 points.2)
          (weight_one (rank_at pool next.front + rank_at pool next.back) (rank_at pool s.places.front + rank_at pool s.places.back)
          (step_lower pool ok s.places live by.k c.requires.crossing false false next goes));
    }

pub returns-in_ok-push-in-Both-2 : goal.returns-in_ok-push-in-Both-2
returns-in_ok-push-in-Both-2 c =
    let pool = c.args.pool.now in
    let planes = c.args.book.now in
    let ok = c.on_sides-before.ensures.trees in
    let live = c.requires.safe.live in
    let s = c.args.sheet.now in
    let by = c.args.plane in
    let g = c.in-Both.first in
    let m = c.in-Both.second in
    let before = c.on_sides-before.result in
    let behind = c.on_sides-behind.result in
    let goes_before = c.on_sides-before.ensures.places in
    let goes_behind = c.on_sides-behind.ensures.places in
    let points = subst (IsSplit planes s.frag by) c.in-Both.is c.in_ok-frag.ensures.points in
    let edges = subst (AreSplitEdges s.frag by) c.in-Both.is c.in_ok-frag.ensures.edges in
    let fragments = subst (AreSplitFragments planes) c.in-Both.is c.in_ok-frag.ensures.fragments in
    record {
      divided = two_divided pool planes s (record { frag = m; places = behind }) (record { frag = g; places = before }) c.args.sheets.now.items c.push-in-Both.new.self.items c.push-in-Both-2.new.self.items
          c.in_ok-push-in-Both.ensures.items c.in_ok-push-in-Both-2.ensures.items
          (part_rest pool ok planes s by false c.requires.crossing m fragments.1 edges.2 edges.3 points.2 behind goes_behind)
          (part_rest pool ok planes s by true c.requires.crossing g fragments.0 edges.0 edges.1 points.0 before goes_before)
          (both_frags pool planes s by c.requires.crossing c.requires.other g m points.0 points.2)
          (weight_two (rank_at pool behind.front + rank_at pool behind.back) (rank_at pool before.front + rank_at pool before.back) (rank_at pool s.places.front + rank_at pool s.places.back)
          (step_lower pool ok s.places live by.k c.requires.crossing false false behind goes_behind)
          (step_lower pool ok s.places live by.k c.requires.crossing true true before goes_before));
    }
