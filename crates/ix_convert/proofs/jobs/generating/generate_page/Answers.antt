use Rattle.std.proofs.Common.{[], true, refl}
use Rattle.spec_run.specs.Tasks.Generating.{generating}
use Rattle.ix_convert.proofs.Found.{built_answer, wants_memory}
use Rattle.ix_convert.proofs.jobs.generating.generate_page.Goals as goal

pub returns-in-Ok : goal.returns-in-Ok
returns-in-Ok c =
    built_answer (generating c.args.count) [] c.put_model.new.page.items c.built.result c.count_report.result (λ text. text.items) tt _ true refl
    c.built.ensures.told c.built.ensures.wants c.count_report.ensures refl refl tt c.in-Ok.ensures tt

pub returns-in-Err : goal.returns-in-Err
returns-in-Err c = wants_memory (generating c.args.count) [] c.put_model.new.page.items c.no_memory.result refl tt c.no_memory.ensures
