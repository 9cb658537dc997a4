use Rattle.spec_page.specs.Lines.{exact_line, printed_line}
use Rattle.world_print.proofs.Appended.{refused, begun_two, one_more, stopped_in, last}
use Rattle.obj_text.proofs.lines.put_corner.Goals as goal

pub returns-in_err-put_exact : goal.returns-in_err-put_exact
returns-in_err-put_exact c =
    refused c.from_residual.result c.from_residual.ensures.0
    (stopped_in (exact_line c.args.corner.now.exact) (printed_line c.args.corner.now.printed) (begun_two (exact_line c.args.corner.now.exact) (printed_line c.args.corner.now.printed)) c.in_err-put_exact.ensures)

pub returns : goal.returns
returns c =
    last c.put_printed.new.page.items c.put_printed.result
    (one_more (exact_line c.args.corner.now.exact) (begun_two (exact_line c.args.corner.now.exact) (printed_line c.args.corner.now.printed)) c.in_ok-put_exact.ensures)
    c.put_printed.ensures
