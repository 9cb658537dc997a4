use Rattle.std.proofs.Common.{[], false, refl, subst}
use Rattle.spec_run.specs.declared.PageFault.TheVariants.{Line}
use Rattle.obj_read.specs.Answers.{HasLine}
use Rattle.spec_run.specs.Tasks.Checking.{checking}
use Rattle.ix_convert.proofs.Found.{built_answer, built_refusal, wants_memory}
use Rattle.ix_convert.proofs.jobs.checking.check_bytes.Goals as goal

pub returns-in-Ok : goal.returns-in-Ok
returns-in-Ok c =
    let found = c.in-Ok.ensures.found in
    built_answer checking c.args.source.now [] c.built.result c.verdict_report.result (λ text. text.items) c.in-Ok.verdict c.verdict_status.result false refl
    c.built.ensures.told c.built.ensures.wants c.verdict_report.ensures c.verdict_status.ensures refl refl
    (record { grid = found.0; items = found.1; input = record { small = c.requires; page = found.2 }; verdict_is = found.3 }) tt

pub returns-in-Err-Line : goal.returns-in-Err-Line
returns-in-Err-Line c =
    built_refusal checking c.args.source.now [] c.refused.result c.line_report.result (λ text. text.items) (Line c.in-Err-Line.n) refl
    c.refused.ensures.told c.refused.ensures.wants c.line_report.ensures refl (record { small = c.requires; line = subst (HasLine c.args.source.now) c.in-Err-Line.field-0-is c.in-Err-Line.ensures.refused })

pub returns-in-Err-NoMemory : goal.returns-in-Err-NoMemory
returns-in-Err-NoMemory c = wants_memory checking c.args.source.now [] c.no_memory.result refl refl c.no_memory.ensures
