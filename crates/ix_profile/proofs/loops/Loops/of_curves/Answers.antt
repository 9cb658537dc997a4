use Rattle.std.proofs.Common.{◌≡◌, ◌∙◌, sym, ap}
use Rattle.std.specs.Prelude.{Some, None, if◌then◌else◌}
use Rattle.spec_shape.specs.Loops.{open_loop}
use Rattle.ix_profile.specs.Curves.{makes_loop}
use Rattle.ix_profile.proofs.Opened.{opened_step, opened_all}
use Rattle.ix_profile.proofs.loops.Loops.of_curves.Goals as goal

pub loop-which-preserved : goal.loop-which-preserved
loop-which-preserved c =
    opened_step c.args.curves.now c.loop-which.loops c.push.new.self c.loop-which.which c.index-curves-which.result c.in-Some.found c.loop-which-test.true
    (sym c.in-Some.is ∙ c.in_ok-found.ensures ∙ ap (λ w. if makes_loop w then Some (open_loop w) else None) c.index-curves-which.is)
    c.in_ok-push.ensures.ok c.loop-which.invariant

pub returns-clause-all : goal.returns-clause-all
returns-clause-all c = opened_all c.args.curves.now c.loop-which.loops c.loop-which.which c.loop-which-test.false c.loop-which.invariant
