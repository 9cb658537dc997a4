use Rattle.std.proofs.Common.{[], ◌∷◌, ◌++◌, FitsSigned, codes, arith}
use Rattle.std.proofs.lemmas.Int.{to_z-of_z, ints}
use mir.Syntax.{w128}
use Rattle.spec_page.specs.Lines.{spaced, spaced_three}
use Rattle.world_print.proofs.Appended.{refused, begun_four, one_more, stopped, stopped_in, complete}
use Rattle.obj_text.proofs.lines.put_plane.Goals as goal

pub returns-in_err-put_three : goal.returns-in_err-put_three
returns-in_err-put_three c =
    let a : FitsSigned w128 c.args.plane.now.a = omega (arith, ints) in
    let b : FitsSigned w128 c.args.plane.now.b = omega (arith, ints) in
    let normal : FitsSigned w128 c.args.plane.now.c = omega (arith, ints) in
    refused c.from_residual-in_err-put_three.result c.from_residual-in_err-put_three.ensures.0
    (stopped_in (spaced_three c.args.plane.now.a c.args.plane.now.b c.args.plane.now.c) (spaced c.args.plane.now.d ++ 10 ∷ [])
    (one_more c.args.sign.now (begun_four c.args.sign.now (spaced_three c.args.plane.now.a c.args.plane.now.b c.args.plane.now.c) (spaced c.args.plane.now.d) (10 ∷ [])) c.in_ok-extend_from_slice.ensures.items)
    (simp to_z-of_z at c.in_err-put_three.ensures))

pub returns-in_err-put_spaced : goal.returns-in_err-put_spaced
returns-in_err-put_spaced c =
    let a : FitsSigned w128 c.args.plane.now.a = omega (arith, ints) in
    let b : FitsSigned w128 c.args.plane.now.b = omega (arith, ints) in
    let normal : FitsSigned w128 c.args.plane.now.c = omega (arith, ints) in
    let d : FitsSigned w128 c.args.plane.now.d = omega (arith, ints) in
    refused c.from_residual-in_err-put_spaced.result c.from_residual-in_err-put_spaced.ensures.0
    (stopped_in (spaced c.args.plane.now.d) (10 ∷ [])
    (one_more (spaced_three c.args.plane.now.a c.args.plane.now.b c.args.plane.now.c)
    (one_more c.args.sign.now (begun_four c.args.sign.now (spaced_three c.args.plane.now.a c.args.plane.now.b c.args.plane.now.c) (spaced c.args.plane.now.d) (10 ∷ [])) c.in_ok-extend_from_slice.ensures.items)
    (simp to_z-of_z at c.in_ok-put_three.ensures))
    (simp to_z-of_z at c.in_err-put_spaced.ensures))

pub returns-in_err-push : goal.returns-in_err-push
returns-in_err-push c =
    let a : FitsSigned w128 c.args.plane.now.a = omega (arith, ints) in
    let b : FitsSigned w128 c.args.plane.now.b = omega (arith, ints) in
    let normal : FitsSigned w128 c.args.plane.now.c = omega (arith, ints) in
    let d : FitsSigned w128 c.args.plane.now.d = omega (arith, ints) in
    refused c.from_residual-in_err-push.result c.from_residual-in_err-push.ensures.0
    (stopped
    (one_more (spaced c.args.plane.now.d)
    (one_more (spaced_three c.args.plane.now.a c.args.plane.now.b c.args.plane.now.c)
    (one_more c.args.sign.now (begun_four c.args.sign.now (spaced_three c.args.plane.now.a c.args.plane.now.b c.args.plane.now.c) (spaced c.args.plane.now.d) (10 ∷ [])) c.in_ok-extend_from_slice.ensures.items)
    (simp to_z-of_z at c.in_ok-put_three.ensures))
    (simp to_z-of_z at c.in_ok-put_spaced.ensures))
    c.in_err-push.ensures.items)

pub returns : goal.returns
returns c =
    let a : FitsSigned w128 c.args.plane.now.a = omega (arith, ints) in
    let b : FitsSigned w128 c.args.plane.now.b = omega (arith, ints) in
    let normal : FitsSigned w128 c.args.plane.now.c = omega (arith, ints) in
    let d : FitsSigned w128 c.args.plane.now.d = omega (arith, ints) in
    complete
    (one_more (10 ∷ [])
    (one_more (spaced c.args.plane.now.d)
    (one_more (spaced_three c.args.plane.now.a c.args.plane.now.b c.args.plane.now.c)
    (one_more c.args.sign.now (begun_four c.args.sign.now (spaced_three c.args.plane.now.a c.args.plane.now.b c.args.plane.now.c) (spaced c.args.plane.now.d) (10 ∷ [])) c.in_ok-extend_from_slice.ensures.items)
    (simp to_z-of_z at c.in_ok-put_three.ensures))
    (simp to_z-of_z at c.in_ok-put_spaced.ensures))
    c.in_ok-push.ensures.items)
