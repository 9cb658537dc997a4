use Rattle.std.proofs.Common.{map, Global, []}
use Rattle.std.specs.Prelude.{string_bytes}
use Rattle.spec_run.specs.Changes.{change}
use Rattle.ix_convert.proofs.Named.{written_for, unnamed_for}
use Rattle.ix_convert.proofs.jobs.converting.answer_format.Goals as goal

pub returns-in-Some : goal.returns-in-Some
returns-in-Some g c =
    let source = g.S.Source in
    written_for c.args.writers.items c.deref.result.now (λ w. (goal.MeshWriter-dyn g (w.vtable, w.value)).view w.value)
    (map (string_bytes {Z = Global}) c.args.words.now) c.args.format c.in-Some.at c.args.wanted.grid c.args.wanted.only
    (change source.left source.faults c.args.src.now c.convert_through.new.src) c.convert_through.new.page.items c.convert_through.result
    c.deref.ensures.value c.in-Some.ensures c.convert_through.ensures

pub returns-in-None : goal.returns-in-None
returns-in-None g c =
    let source = g.S.Source in
    unnamed_for c.args.writers.items c.deref.result.now (λ w. (goal.MeshWriter-dyn g (w.vtable, w.value)).view w.value)
    (map (string_bytes {Z = Global}) c.args.words.now) c.args.format c.args.wanted.grid c.args.wanted.only
    (change source.left source.faults c.args.src.now c.answer_faulty.new._src) c.args.page.now.items [] c.answer_faulty.result
    c.deref.ensures.value c.in-None.ensures c.requires.empty c.answer_faulty.ensures
