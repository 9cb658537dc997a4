use Rattle.std.proofs.Common.{FitsSigned, sym, ap, ◌∙◌, true≢false, refl, of_z}
use mir.Syntax.{w128}
use Rattle.integer_laws.proofs.Computed.{arg, again, product, fits, zero_bits}
use Rattle.plane_core.proofs.Sizes.{known, small}
use Rattle.integer_laws.proofs.Cramer as C
use Rattle.plane_core.proofs.Meets.{turned_point}
use Rattle.plane_core.proofs.numbers.RawCorner.of_planes.Goals as goal

pub returns-then-w-eq0-clause-dependent : goal.returns-then-w-eq0-clause-dependent
returns-then-w-eq0-clause-dependent c =
    let w_fits : FitsSigned w128 c.weight_part-w.result = record { sfits = c.weight_part-w.type_inv } in
    let w_is = c.weight_part-w.ensures.value in
    let triple = C.triple c.args.p.now.a c.args.p.now.b c.args.p.now.c c.args.q.now.a c.args.q.now.b c.args.q.now.c c.args.r.now.a c.args.r.now.b c.args.r.now.c in
    ((λ _. sym triple ∙ sym w_is ∙ zero_bits c.weight_part-w.result w_fits c.if-w-eq0.true), (λ _. refl))

pub returns-clause-dependent : goal.returns-clause-dependent
returns-clause-dependent c =
    let w_is = c.weight_part-w.ensures.value in
    let triple = C.triple c.args.p.now.a c.args.p.now.b c.args.p.now.c c.args.q.now.a c.args.q.now.b c.args.q.now.c c.args.r.now.a c.args.r.now.b c.args.r.now.c in
    ((λ e. absurd (true≢false e)), (λ e. absurd (c.if-w-eq0.false (ap (of_z w128) (w_is ∙ triple ∙ e)))))

pub overflow_mul-result : goal.overflow_mul-result
overflow_mul-result c =
    let x = again (known c.x_part-x.ensures.value c.x_part-x.ensures.size) tt in
    let s = arg c.sign_number-sign.result c.sign_number-sign.ensures.unit tt in
    fits (product s x) tt

pub overflow_mul-result-2 : goal.overflow_mul-result-2
overflow_mul-result-2 c =
    let y = again (known c.y_part-y.ensures.value c.y_part-y.ensures.size) tt in
    let s = arg c.sign_number-sign.result c.sign_number-sign.ensures.unit tt in
    fits (product s y) tt

pub overflow_mul-result-3 : goal.overflow_mul-result-3
overflow_mul-result-3 c =
    let z = again (known c.z_part-z.ensures.value c.z_part-z.ensures.size) tt in
    let s = arg c.sign_number-sign.result c.sign_number-sign.ensures.unit tt in
    fits (product s z) tt

pub overflow_mul-result-4 : goal.overflow_mul-result-4
overflow_mul-result-4 c =
    let w = again (known c.weight_part-w.ensures.value c.weight_part-w.ensures.size) tt in
    let s = arg c.sign_number-sign.result c.sign_number-sign.ensures.unit tt in
    fits (product s w) tt

pub invariant_of-result : goal.invariant_of-result
invariant_of-result c =
    let w = again (known c.weight_part-w.ensures.value c.weight_part-w.ensures.size) tt in
    let x = again (known c.x_part-x.ensures.value c.x_part-x.ensures.size) tt in
    let y = again (known c.y_part-y.ensures.value c.y_part-y.ensures.size) tt in
    let z = again (known c.z_part-z.ensures.value c.z_part-z.ensures.size) tt in
    let s = arg c.sign_number-sign.result c.sign_number-sign.ensures.unit tt in
    record {
      x_small = small (again (product s x) tt);
      y_small = small (again (product s y) tt);
      z_small = small (again (product s z) tt);
      w_small = small (again (product s w) tt);
      positive = rw (again (product s w) tt).is (rw w.is at c.sign_number-sign.ensures.positive);
    }

pub returns-clause-common : goal.returns-clause-common
returns-clause-common c =
    let w = again (known c.weight_part-w.ensures.value c.weight_part-w.ensures.size) tt in
    let x = again (known c.x_part-x.ensures.value c.x_part-x.ensures.size) tt in
    let y = again (known c.y_part-y.ensures.value c.y_part-y.ensures.size) tt in
    let z = again (known c.z_part-z.ensures.value c.z_part-z.ensures.size) tt in
    let s = arg c.sign_number-sign.result c.sign_number-sign.ensures.unit tt in
    turned_point c.args.p.now c.args.q.now c.args.r.now c.sign_number-sign.result _ (sym (again (product s x) tt).is) (sym (again (product s y) tt).is) (sym (again (product s z) tt).is) (sym (again (product s w) tt).is)
