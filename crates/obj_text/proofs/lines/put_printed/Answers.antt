use Rattle.std.proofs.Common.{[], ◌∷◌, ◌++◌, FitsSigned, codes, arith}
use Rattle.std.proofs.lemmas.Int.{to_z-of_z, ints}
use mir.Syntax.{w128}
use Rattle.spec_page.specs.Lines.{spaced_metres}
use Rattle.world_print.proofs.Appended.{refused, begun_five, one_more, stopped, stopped_in, complete}
use Rattle.obj_text.proofs.lines.put_printed.Goals as goal

pub returns-in_err-put_spaced_metres : goal.returns-in_err-put_spaced_metres
returns-in_err-put_spaced_metres c =
    let x : FitsSigned w128 c.args.printed.now.x = omega (arith, ints) in
    refused c.from_residual-in_err-put_spaced_metres.result c.from_residual-in_err-put_spaced_metres.ensures.0
    (stopped_in (spaced_metres c.args.printed.now.x) (spaced_metres c.args.printed.now.y ++ (spaced_metres c.args.printed.now.z ++ (10 ∷ [])))
    (one_more (codes "v")
    (begun_five (codes "v") (spaced_metres c.args.printed.now.x) (spaced_metres c.args.printed.now.y) (spaced_metres c.args.printed.now.z) (10 ∷ [])) c.in_ok-push.ensures.items)
    (simp to_z-of_z at c.in_err-put_spaced_metres.ensures))

pub returns-in_err-put_spaced_metres-2 : goal.returns-in_err-put_spaced_metres-2
returns-in_err-put_spaced_metres-2 c =
    let x : FitsSigned w128 c.args.printed.now.x = omega (arith, ints) in
    let y : FitsSigned w128 c.args.printed.now.y = omega (arith, ints) in
    refused c.from_residual-in_err-put_spaced_metres-2.result c.from_residual-in_err-put_spaced_metres-2.ensures.0
    (stopped_in (spaced_metres c.args.printed.now.y) (spaced_metres c.args.printed.now.z ++ (10 ∷ []))
    (one_more (spaced_metres c.args.printed.now.x)
    (one_more (codes "v")
    (begun_five (codes "v") (spaced_metres c.args.printed.now.x) (spaced_metres c.args.printed.now.y) (spaced_metres c.args.printed.now.z) (10 ∷ [])) c.in_ok-push.ensures.items) (simp to_z-of_z at c.in_ok-put_spaced_metres.ensures))
    (simp to_z-of_z at c.in_err-put_spaced_metres-2.ensures))

pub returns-in_err-put_spaced_metres-3 : goal.returns-in_err-put_spaced_metres-3
returns-in_err-put_spaced_metres-3 c =
    let x : FitsSigned w128 c.args.printed.now.x = omega (arith, ints) in
    let y : FitsSigned w128 c.args.printed.now.y = omega (arith, ints) in
    let z : FitsSigned w128 c.args.printed.now.z = omega (arith, ints) in
    refused c.from_residual-in_err-put_spaced_metres-3.result c.from_residual-in_err-put_spaced_metres-3.ensures.0
    (stopped_in (spaced_metres c.args.printed.now.z) (10 ∷ [])
    (one_more (spaced_metres c.args.printed.now.y)
    (one_more (spaced_metres c.args.printed.now.x)
    (one_more (codes "v")
    (begun_five (codes "v") (spaced_metres c.args.printed.now.x) (spaced_metres c.args.printed.now.y) (spaced_metres c.args.printed.now.z) (10 ∷ [])) c.in_ok-push.ensures.items) (simp to_z-of_z at c.in_ok-put_spaced_metres.ensures)) (simp to_z-of_z at c.in_ok-put_spaced_metres-2.ensures))
    (simp to_z-of_z at c.in_err-put_spaced_metres-3.ensures))

pub returns-in_err-push-2 : goal.returns-in_err-push-2
returns-in_err-push-2 c =
    let x : FitsSigned w128 c.args.printed.now.x = omega (arith, ints) in
    let y : FitsSigned w128 c.args.printed.now.y = omega (arith, ints) in
    let z : FitsSigned w128 c.args.printed.now.z = omega (arith, ints) in
    refused c.from_residual-in_err-push-2.result c.from_residual-in_err-push-2.ensures.0
    (stopped
    (one_more (spaced_metres c.args.printed.now.z)
    (one_more (spaced_metres c.args.printed.now.y)
    (one_more (spaced_metres c.args.printed.now.x)
    (one_more (codes "v")
    (begun_five (codes "v") (spaced_metres c.args.printed.now.x) (spaced_metres c.args.printed.now.y) (spaced_metres c.args.printed.now.z) (10 ∷ [])) c.in_ok-push.ensures.items) (simp to_z-of_z at c.in_ok-put_spaced_metres.ensures)) (simp to_z-of_z at c.in_ok-put_spaced_metres-2.ensures)) (simp to_z-of_z at c.in_ok-put_spaced_metres-3.ensures))
    c.in_err-push-2.ensures.items)

pub returns : goal.returns
returns c =
    let x : FitsSigned w128 c.args.printed.now.x = omega (arith, ints) in
    let y : FitsSigned w128 c.args.printed.now.y = omega (arith, ints) in
    let z : FitsSigned w128 c.args.printed.now.z = omega (arith, ints) in
    complete
    (one_more (10 ∷ [])
    (one_more (spaced_metres c.args.printed.now.z)
    (one_more (spaced_metres c.args.printed.now.y)
    (one_more (spaced_metres c.args.printed.now.x)
    (one_more (codes "v")
    (begun_five (codes "v") (spaced_metres c.args.printed.now.x) (spaced_metres c.args.printed.now.y) (spaced_metres c.args.printed.now.z) (10 ∷ [])) c.in_ok-push.ensures.items) (simp to_z-of_z at c.in_ok-put_spaced_metres.ensures)) (simp to_z-of_z at c.in_ok-put_spaced_metres-2.ensures)) (simp to_z-of_z at c.in_ok-put_spaced_metres-3.ensures))
    c.in_ok-push-2.ensures.items)
