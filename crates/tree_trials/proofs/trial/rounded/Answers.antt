use Rattle.std.proofs.Common.{◌∙◌, arith}
use Rattle.tree_trials.proofs.Counts.{few_planes}
use Rattle.tree_trials.proofs.trial.rounded.Goals as goal

pub returns : goal.returns
returns c =
    few_planes c.args.faces.items _ _ c.requires (omega (arith, c.if-len-gt100.false, c.len.ensures))
    (c.in_ok-element.ensures ∙ c.shell.ensures) c.in_ok-round_solid.ensures.few
