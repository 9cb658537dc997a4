use Rattle.std.proofs.Common.{◌≡◌, pos, to_z, of_z, refl, sym, ◌∙◌}
use Rattle.std.proofs.lemmas.Int.{to_z-of_z}
use Rattle.std.proofs.lemmas.Bool.{true≢false}
use mir.Syntax.{w128}
use Rattle.spec_space.specs.declared.Plane.{Plane}
use Rattle.obj_lines.specs.Limits.{HasPlaneSizes}
use Rattle.obj_lines.proofs.Reduced.{plane_printed, printed_coprime, coprime_same}
use Rattle.obj_lines.proofs.limits.is_plane.Goals as goal

pub returns : goal.returns
returns c =
    let a = c.args.a in
    let b = c.args.b in
    let p = c.args.c in
    let q = c.args.d in
    let ea = to_z-of_z w128 a c.ranges.a in
    let eb = to_z-of_z w128 b c.ranges.b in
    let ep = to_z-of_z w128 p c.ranges.c in
    let eq = to_z-of_z w128 q c.ranges.d in
    let h : Plane = record { a = a; b = b; c = p; d = q } in
    let sizes : HasPlaneSizes h = rw (ea, eb, ep, eq) at (c.if-not-has_plane_sizes.ensures.0 refl) in
    let some : (a ≡ pos 0) × (b ≡ pos 0) × (p ≡ pos 0) → ⊥ = λ z. true≢false (sym (c.if-is_zero.ensures.1 (ea ∙ z.0, eb ∙ z.1, ep ∙ z.2))) in (
      λ t. plane_printed h sizes some (coprime_same (to_z w128 (of_z w128 a)) (to_z w128 (of_z w128 b)) (to_z w128 (of_z w128 p)) (to_z w128 (of_z w128 q)) a b p q (sym ea) (sym eb) (sym ep) (sym eq) (c.are_coprime.ensures.0 t)),
      λ printed. c.are_coprime.ensures.1 (coprime_same a b p q (to_z w128 (of_z w128 a)) (to_z w128 (of_z w128 b)) (to_z w128 (of_z w128 p)) (to_z w128 (of_z w128 q)) ea eb ep eq (printed_coprime h printed)),
    )
