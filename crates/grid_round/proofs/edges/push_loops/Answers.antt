use Rattle.std.proofs.Common.{◌++◌, ◌∙◌, ap}
use Rattle.spec_solid.specs.Extrusions.{loop_edges}
use Rattle.grid_round.proofs.Lists.{lists_step, lists_end}
use Rattle.grid_round.proofs.edges.push_loops.Goals as goal

pub loop-found-preserved : goal.loop-found-preserved
loop-found-preserved c =
    let edges = c.loop-found.edges.items in
    lists_step loop_edges c.args.loops.now c.loop-found.found-index c.found-item.result edges c.push_edges.new.edges.items _ c.loop-found-test.true
    (c.in_ok-push_edges.ensures ∙ ap (λ l. edges ++ loop_edges l) (c.points.ensures ∙ c.found-item.is))
    c.loop-found.invariant

pub returns : goal.returns
returns c = lists_end loop_edges c.args.loops.now c.loop-found.found-index c.loop-found.edges.items _ c.loop-found-test.false c.loop-found.invariant
