use Rattle.std.proofs.Common.{◌≡◌, ◌+◌, ◌<◌, ◌≤◌, ◌^◌, ◌-◌, length, get_or, sym, ap, subst, ◌∙◌, arith}
use Rattle.obj_file.specs.declared.item.ObjItem.{ObjItem}
use Rattle.obj_file.specs.Items.{element_of}
use Rattle.mesh_check.specs.Outcomes.{IsOutcome}
use Rattle.mesh_check.proofs.Walked.{IsWalked, kept_at, past_other, few_corners, few_faces, is_verdict, past_sound}
use Rattle.mesh_check.proofs.checked.check.Goals as goal
use Rattle.mesh_check.proofs.checked.check.Goals.{in-Printed+in_ok-verdict+in-Sound, in_default}

pub element_verdict-requires-clause-kept : goal.element_verdict-requires-clause-kept
element_verdict-requires-clause-kept c =
    let items = c.args.file.now.items.items in
    let i = c.loop-item.item-index in
    let o = c.in-Printed.element in
    let below = subst (λ xs. i < length xs) c.deref-item-items.ensures.value c.loop-item-test.true in
    let at = subst (λ (x : ObjItem). x ≡ get_or items i x) c.in-Printed.is (subst (λ xs. c.item-item.result ≡ get_or xs i c.item-item.result) c.deref-item-items.ensures.value c.item-item.is) in
    kept_at c.args.file.now.grid items i _ below at c.requires.kept

pub element_verdict-requires-clause-few_corners : goal.element_verdict-requires-clause-few_corners
element_verdict-requires-clause-few_corners c =
    let items = c.args.file.now.items.items in
    let i = c.loop-item.item-index in
    let o = c.in-Printed.element in
    let below = subst (λ xs. i < length xs) c.deref-item-items.ensures.value c.loop-item-test.true in
    let at = subst (λ (x : ObjItem). x ≡ get_or items i x) c.in-Printed.is (subst (λ xs. c.item-item.result ≡ get_or xs i c.item-item.result) c.deref-item-items.ensures.value c.item-item.is) in
    few_corners c.args.file.now.grid items i c.loop-item.faces o below at c.loop-item.invariant (2 ^ 64 - 1) c.requires.few_corners

pub element_verdict-requires-clause-few_faces : goal.element_verdict-requires-clause-few_faces
element_verdict-requires-clause-few_faces c =
    let items = c.args.file.now.items.items in
    let i = c.loop-item.item-index in
    let o = c.in-Printed.element in
    let below = subst (λ xs. i < length xs) c.deref-item-items.ensures.value c.loop-item-test.true in
    let at = subst (λ (x : ObjItem). x ≡ get_or items i x) c.in-Printed.is (subst (λ xs. c.item-item.result ≡ get_or xs i c.item-item.result) c.deref-item-items.ensures.value c.item-item.is) in
    few_faces c.args.file.now.grid items i c.loop-item.faces o below at c.loop-item.invariant (2 ^ 64 - 1) c.requires.few_faces

pub overflow_add-faces : goal.overflow_add-faces
overflow_add-faces c =
    let items = c.args.file.now.items.items in
    let i = c.loop-item.item-index in
    let o = c.in-Printed.element in
    let below = subst (λ xs. i < length xs) c.deref-item-items.ensures.value c.loop-item-test.true in
    let at = subst (λ (x : ObjItem). x ≡ get_or items i x) c.in-Printed.is (subst (λ xs. c.item-item.result ≡ get_or xs i c.item-item.result) c.deref-item-items.ensures.value c.item-item.is) in
    let few : c.loop-item.faces + length o.faces.items ≤ 2 ^ 64 - 1 = few_faces c.args.file.now.grid items i c.loop-item.faces o below at c.loop-item.invariant (2 ^ 64 - 1) c.requires.few_faces in
    let count = c.len-faces.ensures in
    omega (arith, o.faces.ok.0)

pub returns-in_default-2 : goal.returns-in_default-2
returns-in_default-2 c =
    let items = c.args.file.now.items.items in
    let i = c.loop-item.item-index in
    let o = c.in-Printed.element in
    let below = subst (λ xs. i < length xs) c.deref-item-items.ensures.value c.loop-item-test.true in
    let at = subst (λ (x : ObjItem). x ≡ get_or items i x) c.in-Printed.is (subst (λ xs. c.item-item.result ≡ get_or xs i c.item-item.result) c.deref-item-items.ensures.value c.item-item.is) in
    is_verdict c.args.file.now.grid items i c.loop-item.faces o below at c.loop-item.invariant c.in_ok-verdict.verdict c.in_default-2.not-Sound c.in_ok-verdict.ensures

pub loop-item-preserved : goal.loop-item-preserved
loop-item-preserved c =
    let items = c.args.file.now.items.items in
    let i = c.loop-item.item-index in
    let below = subst (λ xs. i < length xs) c.deref-item-items.ensures.value c.loop-item-test.true in
    let is = subst (λ xs. c.item-item.result ≡ get_or xs i c.item-item.result) c.deref-item-items.ensures.value c.item-item.is in
    elim c.match-item.branch [
      | in-Printed+in_ok-verdict+in-Sound w ↦
          let o = w.in-Printed.element in
          let at = subst (λ (x : ObjItem). x ≡ get_or items i x) w.in-Printed.is is in
          let sound = subst (IsOutcome c.args.file.now.grid o.before c.loop-item.faces (element_of o)) w.in-Sound.is w.in_ok-verdict.ensures in
          let count : w.len-faces.result ≡ length o.faces.items = omega (arith, o.faces.ok.0, w.len-faces.ensures) in
          subst (IsWalked c.args.file.now.grid items (i + 1)) (sym (w.faces-is ∙ ap (λ n. c.loop-item.faces + n) count)) (past_sound c.args.file.now.grid items i c.loop-item.faces o below at c.loop-item.invariant sound)
      | in_default w ↦ subst (IsWalked c.args.file.now.grid items (i + 1)) (sym w.faces-is) (past_other c.args.file.now.grid items i c.loop-item.faces c.item-item.result below is w.in_default.not-Printed c.loop-item.invariant)
    ]
