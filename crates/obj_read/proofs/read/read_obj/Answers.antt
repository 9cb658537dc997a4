use Rattle.std.proofs.Common.{arith, Option, subst, sym}
use Rattle.obj_read.specs.Readers.{state_of, items_in, IsNext}
use Rattle.obj_read.specs.States.{Ended}
use Rattle.obj_read.specs.declared.reader.Reader.{Reader}
use Rattle.obj_read.proofs.Reading.{few_corners, few_parts, read_line_more, bad_line, short_text, sole_page, of_end}
use Rattle.obj_read.proofs.Steps.{nothing, not_nothing}
use Rattle.obj_read.proofs.read.read_obj.Goals as goal

pub read_next-requires : goal.read_next-requires
read_next-requires c = few_corners c.args.bytes.now c.lines.rest.now c.lines.lines (state_of c.lines.reader) c.lines.invariant (omega arith)

pub returns-in-Ok-None-clause-refuses : goal.returns-in-Ok-None-clause-refuses
returns-in-Ok-None-clause-refuses c =
    let P : Option Reader → Type 0 = λ o. IsNext (state_of c.lines.reader) c.in-Some.line.now o in
    bad_line c.args.bytes.now c.lines.rest.now c.in-Some.line.now c.in-Some.more.now c.lines.lines (state_of c.lines.reader) c.lines.invariant (omega arith)
    c.in-Some.ensures.1 c.in-Some.ensures.0 (subst P c.in-Ok-None.field-0-is c.in-Ok-None.ensures)

pub returns-in-Ok-None-clause-sole : goal.returns-in-Ok-None-clause-sole
returns-in-Ok-None-clause-sole c =
    let P : Option Reader → Type 0 = λ o. IsNext (state_of c.lines.reader) c.in-Some.line.now o in
    let bad = bad_line c.args.bytes.now c.lines.rest.now c.in-Some.line.now c.in-Some.more.now c.lines.lines (state_of c.lines.reader) c.lines.invariant (omega arith)
    c.in-Some.ensures.1 c.in-Some.ensures.0 (subst P c.in-Ok-None.field-0-is c.in-Ok-None.ensures) in
    bad.no_page

pub lines-preserved : goal.lines-preserved
lines-preserved c =
    let P : Option Reader → Type 0 = λ o. IsNext (state_of c.lines.reader) c.in-Some.line.now o in
    let n = subst P c.in-Ok-Some.field-0-is c.in-Ok-Some.ensures in
    read_line_more c.args.bytes.now c.lines.rest.now c.in-Some.line.now c.in-Some.more.now c.lines.lines (state_of c.lines.reader) n.0 (state_of c.in-Ok-Some.next)
    c.lines.invariant (omega arith) c.in-Some.ensures.1 c.in-Some.ensures.0 n.1 n.2

pub returns-in-Some-into_page-clause-kept : goal.returns-in-Some-into_page-clause-kept
returns-in-Some-into_page-clause-kept c =
    let p = c.in-Some-into_page.page in
    let r = of_end c.args.bytes.now c.lines.rest.now c.lines.lines (state_of c.lines.reader) (Ended p.grid (items_in p)) c.lines.invariant c.in-Some-into_page.ensures in
    let few = few_parts c.args.bytes.now c.lines.rest.now c.lines.lines p.grid (items_in p) r (nothing c.lines.rest.now (sym c.if-not-is_empty.ensures)) (omega arith) in
    record {
      grid_kept = r.kept.grid_kept;
      kept = r.kept.items_kept;
      counted = p.counted;
      few_corners = omega (arith, few);
      few_faces = omega (arith, few);
    }

pub returns-in-Some-into_page-clause-sole : goal.returns-in-Some-into_page-clause-sole
returns-in-Some-into_page-clause-sole c = λ grid items page.
    let p = c.in-Some-into_page.page in
    let r = of_end c.args.bytes.now c.lines.rest.now c.lines.lines (state_of c.lines.reader) (Ended p.grid (items_in p)) c.lines.invariant c.in-Some-into_page.ensures in
    sole_page c.args.bytes.now c.lines.rest.now c.lines.lines p.grid (items_in p) grid items r (nothing c.lines.rest.now (sym c.if-not-is_empty.ensures)) page

pub returns-in-None-clause-refuses : goal.returns-in-None-clause-refuses
returns-in-None-clause-refuses c =
    short_text c.args.bytes.now c.lines.rest.now c.lines.lines (state_of c.lines.reader) c.lines.invariant c.in_default.ensures (λ grid items empty same. c.in-None.ensures grid items same)

pub returns-in-None-clause-sole : goal.returns-in-None-clause-sole
returns-in-None-clause-sole c =
    let bad = short_text c.args.bytes.now c.lines.rest.now c.lines.lines (state_of c.lines.reader) c.lines.invariant c.in_default.ensures (λ grid items empty same. c.in-None.ensures grid items same) in
    bad.no_page

pub returns-then-not-is_empty-clause-refuses : goal.returns-then-not-is_empty-clause-refuses
returns-then-not-is_empty-clause-refuses c =
    short_text c.args.bytes.now c.lines.rest.now c.lines.lines (state_of c.lines.reader) c.lines.invariant c.in_default.ensures
    (λ grid items empty same. not_nothing c.lines.rest.now c.if-not-is_empty.ensures empty)

pub returns-then-not-is_empty-clause-sole : goal.returns-then-not-is_empty-clause-sole
returns-then-not-is_empty-clause-sole c =
    let bad = short_text c.args.bytes.now c.lines.rest.now c.lines.lines (state_of c.lines.reader) c.lines.invariant c.in_default.ensures
    (λ grid items empty same. not_nothing c.lines.rest.now c.if-not-is_empty.ensures empty) in
    bad.no_page
