use Rattle.std.proofs.Common.{◌≡◌, ◌∙◌, ◌*◌, ◌^◌, ap}
use Rattle.std.specs.Prelude.{Some}
use Rattle.spec_shape.specs.Profiles.{placed_loops}
use Rattle.ix_profile.proofs.Outlines.{moved_outline, axis_set}
use Rattle.ix_profile.proofs.loops.Loops.placed.Goals as goal

pub returns-clause-value : goal.returns-clause-value
returns-clause-value c =
    c.placed_along.ensures.value
    ∙ ap (λ u. placed_loops c.args.at.now (Some u) c.args.self) c.first_axis.ensures.value
    ∙ axis_set c.args.at.now c.args.ref_dir c.args.self

pub returns-clause-outline : goal.returns-clause-outline
returns-clause-outline c = λ h. moved_outline _ (10 ^ 16) (3 * 10 ^ 16) c.args.self c.placed_along.result c.placed_along.ensures.value c.placed_along.ensures.within h
