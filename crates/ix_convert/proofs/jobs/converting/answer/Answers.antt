use Rattle.std.proofs.Common.{map, Global}
use Rattle.std.specs.Prelude.{string_bytes}
use Rattle.spec_run.specs.Changes.{change}
use Rattle.ix_convert.proofs.Named.{obj_for}
use Rattle.ix_convert.proofs.jobs.converting.answer.Goals as goal

pub returns-then-format-eq0 : goal.returns-then-format-eq0
returns-then-format-eq0 g c =
    let source = g.S.Source in
    obj_for (map (string_bytes {Z = Global}) c.args.words.now) _ c.args.format c.args.wanted.grid c.args.wanted.only
    (change source.left source.faults c.args.src.now c.convert_source.new.src) c.convert_source.new.page.items c.convert_source.result
    c.if-format-eq0.true c.convert_source.ensures
