use Rattle.std.proofs.Common.{◌≡◌, ◌≤◌, ◌<◌, length, get_or, subst, sym}
use Rattle.corner_book.specs.Corners.{corners_of}
use Rattle.convex_cycles.specs.Cycles.{IsEdgeOf}
use Rattle.poly_frag.specs.Frags.{plane_at}
use Rattle.edge_cut.specs.Sides.{step_of}
use Rattle.edge_cut.proofs.Rounded.{round_next, round_all}
use Rattle.edge_cut.proofs.round.cut_round.Goals as goal

pub add-requires-clause-edge : goal.add-requires-clause-edge
add-requires-clause-edge c =
    let i = c.loop-side.side-index in
    let same = c.deref-side-items.ensures.value in
    let below = subst (λ xs. i < length xs) same c.loop-side-test.true in
    subst (λ s. IsEdgeOf (plane_at c.args.book.now c.args.outline.now.support) (step_of c.args.book.now s)) (sym (subst (λ xs. c.side-item.result ≡ get_or xs i c.side-item.result) same c.side-item.is))
    (c.requires.given.edges i c.side-item.result below)

pub loop-side-preserved : goal.loop-side-preserved
loop-side-preserved c =
    let i = c.loop-side.side-index in
    let same = c.deref-side-items.ensures.value in
    record {
      round = round_next c.args.book.now (corners_of c.args.corners.now) c.args.outline.now.support c.args.outline.now.sides.items i c.side-item.result c.loop-side.round c.add.new.self
          (subst (λ xs. i < length xs) same c.loop-side-test.true) (subst (λ xs. c.side-item.result ≡ get_or xs i c.side-item.result) same c.side-item.is) c.in_ok-add.ensures.cut c.loop-side.invariant.round;
      lines = c.in_ok-add.ensures.lines;
    }

pub returns-clause-round : goal.returns-clause-round
returns-clause-round c = round_all c.args.book.now (corners_of c.args.corners.now) c.args.outline.now c.loop-side.round c.loop-side.side-index (subst (λ xs. length xs ≤ c.loop-side.side-index) c.deref-side-items.ensures.value c.loop-side-test.false) c.loop-side.invariant.round
