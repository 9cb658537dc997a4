use Rattle.std.proofs.Common.{rules, refl}
use Rattle.std.specs.Option.{option_map}
use Rattle.spec_run.specs.declared.FileFault.TheVariants.{TooLarge}
use Rattle.spec_run.specs.Changes.{change}
use Rattle.spec_run.specs.Tasks.Converting.{Format, converting}
use Rattle.ix_convert.specs.Conversions.{format_by}
use Rattle.ix_convert.proofs.Found.{read_answers, unread_answers}
use Rattle.ix_convert.proofs.OneInput.{converting_one}
use Rattle.ix_convert.proofs.jobs.converting.convert_source.Goals as goal

pub returns-in-Ok : goal.returns-in-Ok
returns-in-Ok g c =
    let source = g.S.Source in
    let format : Format = format_by (option_map (λ w. (goal.MeshWriter-dyn g (w.vtable, w.value)).view w.value) c.args.form) in
    read_answers (converting c.args.wanted.grid c.args.wanted.only format) (change source.left source.faults c.args.src.now c.read_whole.new.src)
    c.in-Ok.source.items c.deref.result.now c.convert.new.page.items c.convert.result
    (converting_one c.args.wanted.grid c.args.wanted.only format) refl c.in-Ok.ensures.all c.in-Ok.ensures.end (c.in-Ok.ensures.kept (search rules))
    c.deref.ensures.value c.convert.ensures

pub returns-in-Err : goal.returns-in-Err
returns-in-Err g c =
    let source = g.S.Source in
    let format : Format = format_by (option_map (λ w. (goal.MeshWriter-dyn g (w.vtable, w.value)).view w.value) c.args.form) in
    unread_answers (converting c.args.wanted.grid c.args.wanted.only format) TooLarge (change source.left source.faults c.args.src.now c.read_whole.new.src)
    c.args.page.now.items c.unread.result c.in-Err.fault
    (converting_one c.args.wanted.grid c.args.wanted.only format) refl refl (λ given large. large) c.requires.empty
    c.in-Err.ensures.too_large c.in-Err.ensures.cause c.in-Err.ensures.kept c.unread.ensures
