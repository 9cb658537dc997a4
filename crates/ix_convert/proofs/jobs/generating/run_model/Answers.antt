use Rattle.std.proofs.Common.{◌≡◌, ◌++◌, [], false, refl, ◌∙◌, ap}
use Rattle.spec_run.specs.Tasks.Converting.{page_status}
use Rattle.spec_run.specs.Tasks.Generating.{generated_line, running}
use Rattle.spec_page.specs.Page.{page_report}
use Rattle.ix_page.specs.Counts.{IsTallyOf}
use Rattle.ix_convert.proofs.Found.{built_answer, at_one, wants_memory}
use Rattle.ix_convert.proofs.SoundPages.{sound_model}
use Rattle.ix_convert.proofs.jobs.generating.run_model.Goals as goal

pub returns-in-Ok : goal.returns-in-Ok
returns-in-Ok c =
    let found = c.in-Ok.ensures in
    built_answer (running c.args.count) [] c.generate_and_build.new.page.items c.built.result c.run_report.result (λ text. text.items) found.0 c.page_status.result false refl
    c.built.ensures.told c.built.ensures.wants
    (at_one c.run_report.result (IsTallyOf c.in-Ok.tally) (λ text items. text.items ≡ generated_line c.args.count ++ page_report items) found.0 found.2 c.run_report.ensures)
    (c.page_status.ensures ∙ ap page_status found.2.refused) refl tt found.1
    (sound_model c.args.count c.generate_and_build.new.page.items found.0 found.1)

pub returns-in-Err : goal.returns-in-Err
returns-in-Err c = wants_memory (running c.args.count) [] c.generate_and_build.new.page.items c.no_memory.result refl tt c.no_memory.ensures
