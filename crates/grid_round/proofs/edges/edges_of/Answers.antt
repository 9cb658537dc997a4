use Rattle.std.proofs.Common.{◌++◌, ◌∙◌, ap}
use Rattle.std.specs.List.{flat_map}
use Rattle.spec_solid.specs.Extrusions.{loop_edges}
use Rattle.grid_round.proofs.Lists.{lists_step, lists_end}
use Rattle.grid_round.proofs.edges.edges_of.Goals as goal

pub loop-face-preserved : goal.loop-face-preserved
loop-face-preserved c =
    let edges = c.loop-face.edges.items in
    lists_step (λ f. flat_map loop_edges f.loops) c.args.faces.now c.loop-face.face-index c.face-item.result edges c.push_loops.new.edges.items _ c.loop-face-test.true
    (c.in_ok-push_loops.ensures ∙ ap (λ ls. edges ++ flat_map loop_edges ls) (c.as_slice.ensures ∙ c.loops.ensures.value ∙ ap (λ f. f.loops) c.face-item.is))
    c.loop-face.invariant

pub returns : goal.returns
returns c = lists_end (λ f. flat_map loop_edges f.loops) c.args.faces.now c.loop-face.face-index c.loop-face.edges.items _ c.loop-face-test.false c.loop-face.invariant
