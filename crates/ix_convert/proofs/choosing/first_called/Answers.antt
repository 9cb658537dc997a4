use Rattle.std.proofs.Common.{sym, ◌∙◌}
use Rattle.ix_convert.proofs.Named.{named_here, named_next}
use Rattle.ix_convert.proofs.choosing.first_called.Goals as goal

pub returns-then-is_called : goal.returns-then-is_called
returns-then-is_called g c =
    named_here c.args.writers.now (λ w. (goal.MeshWriter-dyn g (w.vtable, w.value)).view w.value)
    c.loop-at.at c.index-writers-at.result c.args.name.now c.loop-at-test.true c.index-writers-at.is (sym c.is_called.ensures ∙ c.if-is_called.true) c.loop-at.invariant

pub loop-at-preserved : goal.loop-at-preserved
loop-at-preserved g c =
    named_next c.args.writers.now (λ w. (goal.MeshWriter-dyn g (w.vtable, w.value)).view w.value)
    c.loop-at.at c.index-writers-at.result c.args.name.now c.loop-at-test.true c.index-writers-at.is (sym c.is_called.ensures ∙ c.if-is_called.false) c.loop-at.invariant
