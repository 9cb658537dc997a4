use Rattle.std.proofs.Common.{[], ◌∷◌, ◌++◌, ◌∙◌, ap, map}
use Rattle.std.proofs.lemmas.List.{map-append}
use Rattle.grid_solid.specs.Triangles.{triangle_of}
use Rattle.grid_round.specs.Fans.{fan_triangle}
use Rattle.grid_round.proofs.Steps.{map_step, map_end}
use Rattle.grid_round.proofs.triangles.fan.Goals as goal

pub loop-edge-preserved : goal.loop-edge-preserved
loop-edge-preserved c =
    let triangles = c.loop-edge.triangles.items in
    map_step (fan_triangle c.args.apex.now) c.args.edges.now c.loop-edge.edge-index _ (map triangle_of triangles) (map triangle_of c.push.new.self.items) _ c.loop-edge-test.true
    (ap (map triangle_of) c.in_ok-push.ensures.items ∙ map-append triangle_of triangles (c.fan_triangle.result ∷ []) ∙ ap (λ t. map triangle_of triangles ++ t ∷ []) c.fan_triangle.ensures)
    c.loop-edge.invariant

pub returns : goal.returns
returns c =
    map_end (fan_triangle c.args.apex.now) c.args.edges.now c.loop-edge.edge-index (map triangle_of c.loop-edge.triangles.items) _ c.loop-edge-test.false c.loop-edge.invariant
