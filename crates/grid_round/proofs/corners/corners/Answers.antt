use Rattle.std.proofs.Common.{◌^◌, ◌-◌, [], ◌∷◌, ◌++◌, ◌∙◌, ap}
use Rattle.std.proofs.lemmas.List.Elements.{All-get_or}
use Rattle.spec_place.specs.Vectors.{IsWithin}
use Rattle.spec_place.specs.Maps.{corner}
use Rattle.grid_round.proofs.Steps.{map_step, map_end}
use Rattle.grid_round.proofs.corners.corners.Goals as goal

pub corner-requires-clause-point : goal.corner-requires-clause-point
corner-requires-clause-point c = All-get_or (IsWithin (2 ^ 62 - 1)) c.args.points.now c.loop-point.point-index _ c.loop-point-test.true c.requires.points

pub loop-point-preserved : goal.loop-point-preserved
loop-point-preserved c =
    let rounded = c.loop-point.rounded.items in
    map_step (corner c.args.under.now c.args.step) c.args.points.now c.loop-point.point-index _ rounded c.push.new.self.items _ c.loop-point-test.true
    (c.in_ok-push.ensures.items ∙ ap (λ v. rounded ++ v ∷ []) c.corner.ensures) c.loop-point.invariant

pub returns : goal.returns
returns c = map_end (corner c.args.under.now c.args.step) c.args.points.now c.loop-point.point-index c.loop-point.rounded.items _ c.loop-point-test.false c.loop-point.invariant
