use Rattle.std.proofs.Common.{List, subst}
use Rattle.mesh_out.specs.Writers.{Writer}
use Rattle.spec_run.specs.Changes.{change}
use Rattle.spec_run.specs.Tasks.{asked}
use Rattle.ix_convert.specs.Runs.{IsRun}
use Rattle.ix_convert.proofs.starting.run_with.Goals as goal

pub returns : goal.returns
returns g c =
    let source = g.S.Source in
    let out = g.O.Sink in
    let rep = g.R.Sink in
    let run = c.convert_run in (
      run.new.page.items,
      subst (λ (writers : List Writer). IsRun (asked c.args.words.now writers) run.new.page.items run.result (change source.left source.faults c.args.src.now run.new.src)
          (change out.held out.faults c.args.out.now run.new.out) (change rep.held rep.faults c.args.rep.now run.new.rep)) c.requires run.ensures.run,
    )
