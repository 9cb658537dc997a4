use Rattle.std.proofs.Common.{sym, ap, ◌∙◌, subst}
use Rattle.std.specs.Prelude.{codes}
use Rattle.spec_place.specs.declared.transform.Transform.{Transform}
use Rattle.spec_place.specs.Transforms.{IsFrame}
use Rattle.obj_lines.specs.Limits.{numbered_frame}
use Rattle.obj_lines.specs.PageLines.{Frame}
use Rattle.obj_lines.proofs.Forms.{form_none, form_out, form_some, twelve_numbers}
use Rattle.obj_lines.proofs.Shapes.{frame_form, one_frame, frame_numbers}
use Rattle.obj_lines.proofs.kinds.frame_line.Goals as goal

pub returns-in_err-found : goal.returns-in_err-found
returns-in_err-found c = rw c.from_residual.ensures (form_none Frame (codes "#frame @ @ @ @ @ @ @ @ @ @ @ @") 12 (λ (a : Transform). frame_numbers a) frame_form c.args.text.now c.in_err-found.ensures)

pub returns-in_err-frame : goal.returns-in_err-frame
returns-in_err-frame c =
    let ns = c.in_ok-found.found in
    let is = c.in_ok-found.ensures in
    rw c.from_residual-in_err-frame.ensures
    (form_out Frame (codes "#frame @ @ @ @ @ @ @ @ @ @ @ @") 12 (λ (a : Transform). frame_numbers a) frame_form c.args.text.now ns is (λ a h e. c.in_err-frame.ensures (subst IsFrame (one_frame a (numbered_frame ns) (e ∙ sym (twelve_numbers ns is.words.count_is)) ∙ sym c.transform_of.ensures) h)))

pub returns : goal.returns
returns c =
    let ns = c.in_ok-found.found in
    let is = c.in_ok-found.ensures in
    form_some Frame (codes "#frame @ @ @ @ @ @ @ @ @ @ @ @") 12 (λ (a : Transform). frame_numbers a) frame_form c.args.text.now ns is c.in_ok-frame.frame
    (subst IsFrame (sym c.in_ok-frame.ensures.1) c.in_ok-frame.ensures.0) (ap frame_numbers (c.in_ok-frame.ensures.1 ∙ c.transform_of.ensures) ∙ twelve_numbers ns is.words.count_is)
