use Rattle.std.proofs.Common.{codes}
use Rattle.spec_page.specs.Lines.{number_line, frame_line}
use Rattle.world_print.proofs.Appended.{refused, begun_two, one_more, stopped_in, last}
use Rattle.obj_text.proofs.element.put_head.Goals as goal

pub returns-in_err-put_number_line : goal.returns-in_err-put_number_line
returns-in_err-put_number_line c =
    refused c.from_residual.result c.from_residual.ensures.0
    (stopped_in (number_line (codes "o ") c.args.number) (frame_line c.args.frame.now) (begun_two (number_line (codes "o ") c.args.number) (frame_line c.args.frame.now)) c.in_err-put_number_line.ensures)

pub returns : goal.returns
returns c =
    last c.put_frame.new.page.items c.put_frame.result (one_more (number_line (codes "o ") c.args.number) (begun_two (number_line (codes "o ") c.args.number) (frame_line c.args.frame.now)) c.in_ok-put_number_line.ensures) c.put_frame.ensures
