use Rattle.std.proofs.Common.{◌++◌, FitsSigned}
use Rattle.std.proofs.lemmas.Int.{to_z-of_z}
use mir.Syntax.{w128}
use Rattle.spec_page.specs.Lines.{spaced}
use Rattle.spec_page.specs.Refusals.{further}
use Rattle.world_print.proofs.Appended.{refused, begun_three, one_more, stopped_in, last}
use Rattle.obj_text.proofs.refusals.put_three_parts.Goals as goal

pub returns-in_err-put_spaced : goal.returns-in_err-put_spaced
returns-in_err-put_spaced c =
    let x : FitsSigned w128 c.args.x = c.ranges.x in
    refused c.from_residual.result c.from_residual.ensures.0
    (stopped_in (spaced c.args.x) (further c.args.y ++ further c.args.z) (begun_three (spaced c.args.x) (further c.args.y) (further c.args.z)) (simp to_z-of_z at c.in_err-put_spaced.ensures))

pub returns-in_err-put_further : goal.returns-in_err-put_further
returns-in_err-put_further c =
    let x : FitsSigned w128 c.args.x = c.ranges.x in
    let y : FitsSigned w128 c.args.y = c.ranges.y in
    refused c.from_residual-in_err-put_further.result c.from_residual-in_err-put_further.ensures.0
    (stopped_in (further c.args.y) (further c.args.z) (one_more (spaced c.args.x) (begun_three (spaced c.args.x) (further c.args.y) (further c.args.z)) (simp to_z-of_z at c.in_ok-put_spaced.ensures))
    (simp to_z-of_z at c.in_err-put_further.ensures))

pub returns : goal.returns
returns c =
    let x : FitsSigned w128 c.args.x = c.ranges.x in
    let y : FitsSigned w128 c.args.y = c.ranges.y in
    let z : FitsSigned w128 c.args.z = c.ranges.z in
    last c.put_further-2.new.page.items c.put_further-2.result
    (one_more (further c.args.y) (one_more (spaced c.args.x) (begun_three (spaced c.args.x) (further c.args.y) (further c.args.z)) (simp to_z-of_z at c.in_ok-put_spaced.ensures)) (simp to_z-of_z at c.in_ok-put_further.ensures))
    (simp to_z-of_z at c.put_further-2.ensures)
