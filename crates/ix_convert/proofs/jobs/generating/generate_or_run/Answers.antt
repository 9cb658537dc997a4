use Rattle.std.proofs.Common.{[], sym, subst}
use Rattle.spec_run.specs.Tasks.Generating.{generating_or_running}
use Rattle.ix_convert.specs.Answers.{AnswersIn}
use Rattle.ix_convert.proofs.jobs.generating.generate_or_run.Goals as goal

pub returns-then-run : goal.returns-then-run
returns-then-run c =
    subst (λ run. AnswersIn (generating_or_running c.args.count run) [] c.run_model.new.page.items c.run_model.result) (sym c.if-run.true) c.run_model.ensures

pub returns-else-run : goal.returns-else-run
returns-else-run c =
    subst (λ run. AnswersIn (generating_or_running c.args.count run) [] c.generate_page.new.page.items c.generate_page.result) (sym c.if-run.false) c.generate_page.ensures
