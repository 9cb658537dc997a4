use Rattle.std.proofs.Common.{rules, [], refl}
use Rattle.spec_run.specs.declared.PageFault.TheVariants.{TooLarge}
use Rattle.spec_run.specs.Changes.{change}
use Rattle.spec_run.specs.Tasks.Checking.{checking}
use Rattle.ix_convert.proofs.Found.{read_answers, unread_answers}
use Rattle.ix_convert.proofs.OneLine.{checking_one}
use Rattle.ix_convert.proofs.jobs.checking.answer.Goals as goal

pub returns-in-Ok : goal.returns-in-Ok
returns-in-Ok g c =
    let source = g.S.Source in
    read_answers checking (change source.left source.faults c.args.src.now c.read_whole.new.src) c.in-Ok.source.items c.deref.result.now [] c.check_bytes.result
    checking_one refl c.in-Ok.ensures.all c.in-Ok.ensures.end (c.in-Ok.ensures.kept (search rules)) c.deref.ensures.value c.check_bytes.ensures

pub returns-in-Err : goal.returns-in-Err
returns-in-Err g c =
    let source = g.S.Source in
    unread_answers checking TooLarge (change source.left source.faults c.args.src.now c.read_whole.new.src) [] c.unread.result c.in-Err.fault
    checking_one refl refl (λ given large. large) refl c.in-Err.ensures.too_large c.in-Err.ensures.cause c.in-Err.ensures.kept c.unread.ensures
