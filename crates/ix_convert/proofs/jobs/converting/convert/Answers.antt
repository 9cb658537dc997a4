use Rattle.std.proofs.Common.{◌≡◌, true, refl, ◌∙◌, ap, subst}
use Rattle.std.specs.Option.{option_map}
use Rattle.spec_run.specs.Tasks.Converting.{Format, page_status, converting}
use Rattle.spec_page.specs.Page.{page_report}
use Rattle.ix_page.specs.Counts.{IsTallyOf}
use Rattle.ix_convert.specs.Conversions.{HasReason, LeavesBlank, format_by}
use Rattle.ix_convert.proofs.Found.{built_answer, built_refusal, at_one, wants_memory}
use Rattle.ix_convert.proofs.SoundPages.{sound_in, page_is_done}
use Rattle.ix_convert.proofs.jobs.converting.convert.Goals as goal

pub returns-in-Ok : goal.returns-in-Ok
returns-in-Ok g c =
    let format : Format = format_by (option_map (λ w. (goal.MeshWriter-dyn g (w.vtable, w.value)).view w.value) c.args.form) in
    let found = c.in-Ok.ensures.page in
    built_answer (converting c.args.wanted.grid c.args.wanted.only format) c.args.source.now c.convert_file.new.page.items c.built.result
    c.page_report.result (λ text. text.items) found.0 c.page_status.result true refl c.built.ensures.told c.built.ensures.wants
    (at_one c.page_report.result (IsTallyOf c.in-Ok.tally) (λ text items. text.items ≡ page_report items) found.0 found.2 c.page_report.ensures)
    (c.page_status.ensures ∙ ap page_status found.2.refused) (page_is_done _) tt found.1
    (sound_in c.args.wanted.grid c.args.wanted.only format c.args.source.now c.convert_file.new.page.items found.0 c.requires.grid found.1)

pub returns-in-Err-Refused : goal.returns-in-Err-Refused
returns-in-Err-Refused g c =
    let format : Format = format_by (option_map (λ w. (goal.MeshWriter-dyn g (w.vtable, w.value)).view w.value) c.args.form) in
    built_refusal (converting c.args.wanted.grid c.args.wanted.only format) c.args.source.now c.convert_file.new.page.items c.refused.result
    c.fault_report.result (λ text. text.items) c.in-Err-Refused.fault refl c.refused.ensures.told c.refused.ensures.wants c.fault_report.ensures
    (subst (LeavesBlank c.convert_file.new.page.items) c.in-Err-Refused.field-0-is c.in-Err-Refused.ensures.blank)
    (subst (HasReason c.args.source.now) c.in-Err-Refused.field-0-is c.in-Err-Refused.ensures.refused)

pub returns-in-Err-NoMemory : goal.returns-in-Err-NoMemory
returns-in-Err-NoMemory g c =
    let format : Format = format_by (option_map (λ w. (goal.MeshWriter-dyn g (w.vtable, w.value)).view w.value) c.args.form) in
    wants_memory (converting c.args.wanted.grid c.args.wanted.only format) c.args.source.now c.convert_file.new.page.items c.no_memory.result refl tt c.no_memory.ensures
