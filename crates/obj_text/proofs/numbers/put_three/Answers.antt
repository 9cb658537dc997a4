use Rattle.std.proofs.Common.{◌++◌, FitsSigned}
use Rattle.std.proofs.lemmas.Int.{to_z-of_z}
use mir.Syntax.{w128}
use Rattle.spec_page.specs.Lines.{spaced}
use Rattle.world_print.proofs.Appended.{refused, begun_three, one_more, stopped_in, last}
use Rattle.obj_text.proofs.numbers.put_three.Goals as goal

pub returns-in_err-put_spaced : goal.returns-in_err-put_spaced
returns-in_err-put_spaced c =
    let x : FitsSigned w128 c.args.x = c.ranges.x in
    refused c.from_residual.result c.from_residual.ensures.0
    (stopped_in (spaced c.args.x) (spaced c.args.y ++ spaced c.args.z) (begun_three (spaced c.args.x) (spaced c.args.y) (spaced c.args.z)) (simp to_z-of_z at c.in_err-put_spaced.ensures))

pub returns-in_err-put_spaced-2 : goal.returns-in_err-put_spaced-2
returns-in_err-put_spaced-2 c =
    let x : FitsSigned w128 c.args.x = c.ranges.x in
    let y : FitsSigned w128 c.args.y = c.ranges.y in
    refused c.from_residual-in_err-put_spaced-2.result c.from_residual-in_err-put_spaced-2.ensures.0
    (stopped_in (spaced c.args.y) (spaced c.args.z) (one_more (spaced c.args.x) (begun_three (spaced c.args.x) (spaced c.args.y) (spaced c.args.z)) (simp to_z-of_z at c.in_ok-put_spaced.ensures))
    (simp to_z-of_z at c.in_err-put_spaced-2.ensures))

pub returns : goal.returns
returns c =
    let x : FitsSigned w128 c.args.x = c.ranges.x in
    let y : FitsSigned w128 c.args.y = c.ranges.y in
    let z : FitsSigned w128 c.args.z = c.ranges.z in
    last c.put_spaced-3.new.page.items c.put_spaced-3.result
    (one_more (spaced c.args.y) (one_more (spaced c.args.x) (begun_three (spaced c.args.x) (spaced c.args.y) (spaced c.args.z)) (simp to_z-of_z at c.in_ok-put_spaced.ensures)) (simp to_z-of_z at c.in_ok-put_spaced-2.ensures))
    (simp to_z-of_z at c.put_spaced-3.ensures)
