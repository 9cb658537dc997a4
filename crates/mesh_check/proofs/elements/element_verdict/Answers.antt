use Rattle.std.proofs.Common.{◌≡◌, ◌+◌, ◌<◌, Bool, true, false, List, map, length, All, refl, sym, ap, ap₂, subst, ◌∙◌, arith}
use Rattle.spec_num.specs.Words.{within_128_bits}
use Rattle.face_check.specs.Sizes.{IsSizedFace}
use Rattle.exact_mesh.specs.declared.mesh.MeshFace.{MeshFace}
use Rattle.exact_mesh.specs.Meshes.{face_of, mesh_volume}
use Rattle.exact_mesh.specs.Ranges.{AreNear}
use Rattle.world_print.specs.Ranges.{IsOnGrid, IsPrintable}
use Rattle.world_print.specs.Elements.{page_corners}
use Rattle.edge_balance.specs.Balance.{AreBalanced, IsLeastUnbalanced}
use Rattle.face_check.specs.Sound.{is_flat, is_sound, first_not}
use Rattle.mesh_check.specs.Near.{is_near}
use Rattle.mesh_check.proofs.Parts.{at_none, at_some, face_sized, on_grid, printable, sized, places, none_far, far_below, is_far, all_sound, faulty_below, is_bent, is_off, pair_within, is_unbalanced, near_printed, has_wrong_volume, is_sound_element}
use Rattle.mesh_check.proofs.elements.element_verdict.Goals as goal

pub first_far-far-requires-clause-reach : goal.first_far-far-requires-clause-reach
first_far-far-requires-clause-reach c =
    let o = c.args.element.now in
    let grid = c.args.grid in
    subst (All IsOnGrid) (sym c.deref.ensures.value) (on_grid grid c.requires.grid o c.requires.kept o.paired)

pub first_far-far-requires-clause-printed : goal.first_far-far-requires-clause-printed
first_far-far-requires-clause-printed c =
    let o = c.args.element.now in
    let grid = c.args.grid in
    subst (All IsPrintable) (sym c.deref-2.ensures.value) (printable grid c.requires.grid o c.requires.kept o.paired)

pub overflow_add-v : goal.overflow_add-v
overflow_add-v c =
    let o = c.args.element.now in
    let grid = c.args.grid in
    let far = c.in-Some.ensures ∙ ap₂ (λ xs ys. first_not (is_near o.frame grid) 0 (page_corners xs ys)) c.deref.ensures.value c.deref-2.ensures.value in
    let below : c.in-Some.place < length o.corners.items = far_below grid c.requires.grid o c.requires.kept o.paired c.in-Some.place far in
    omega arith

pub overflow_add-v-in-Some : goal.overflow_add-v-in-Some
overflow_add-v-in-Some c =
    let o = c.args.element.now in
    let grid = c.args.grid in
    let far = c.in-Some.ensures ∙ ap₂ (λ xs ys. first_not (is_near o.frame grid) 0 (page_corners xs ys)) c.deref.ensures.value c.deref-2.ensures.value in
    let below : c.in-Some.place < length o.corners.items = far_below grid c.requires.grid o c.requires.kept o.paired c.in-Some.place far in
    omega arith

pub returns-in-Some : goal.returns-in-Some
returns-in-Some c =
    let o = c.args.element.now in
    let grid = c.args.grid in
    let far = c.in-Some.ensures ∙ ap₂ (λ xs ys. first_not (is_near o.frame grid) 0 (page_corners xs ys)) c.deref.ensures.value c.deref-2.ensures.value in
    is_far grid c.requires.grid o c.requires.kept o.paired c.in-Some.place (o.before + c.in-Some.place + 1) far refl

pub first_unsound-requires : goal.first_unsound-requires
first_unsound-requires c =
    let o = c.args.element.now in
    let grid = c.args.grid in
    subst (λ xs. All (IsSizedFace (length xs)) (map face_of c.deref-4.result.now)) (sym c.deref-3.ensures.value)
    (subst (λ ys. All (IsSizedFace (length o.corners.items)) (map face_of ys)) (sym c.deref-4.ensures.value) (sized grid c.requires.grid o c.requires.kept o.paired))

pub overflow_add-face : goal.overflow_add-face
overflow_add-face c =
    let o = c.args.element.now in
    let grid = c.args.grid in
    let unsound = c.in-Some-first_unsound.ensures ∙ ap₂ (λ xs ys. first_not (is_sound xs) 0 (map face_of ys)) c.deref-3.ensures.value c.deref-4.ensures.value in
    let below : c.in-Some-first_unsound.place < length o.faces.items = faulty_below grid c.requires.grid o c.requires.kept o.paired c.in-Some-first_unsound.place unsound in
    omega arith

pub overflow_add-face-in-Some-first_unsound : goal.overflow_add-face-in-Some-first_unsound
overflow_add-face-in-Some-first_unsound c =
    let o = c.args.element.now in
    let grid = c.args.grid in
    let unsound = c.in-Some-first_unsound.ensures ∙ ap₂ (λ xs ys. first_not (is_sound xs) 0 (map face_of ys)) c.deref-3.ensures.value c.deref-4.ensures.value in
    let below : c.in-Some-first_unsound.place < length o.faces.items = faulty_below grid c.requires.grid o c.requires.kept o.paired c.in-Some-first_unsound.place unsound in
    omega arith

pub index-requires : goal.index-requires
index-requires c =
    let o = c.args.element.now in
    let grid = c.args.grid in
    let unsound = c.in-Some-first_unsound.ensures ∙ ap₂ (λ xs ys. first_not (is_sound xs) 0 (map face_of ys)) c.deref-3.ensures.value c.deref-4.ensures.value in
    let below : c.in-Some-first_unsound.place < length o.faces.items = faulty_below grid c.requires.grid o c.requires.kept o.paired c.in-Some-first_unsound.place unsound in
    omega (arith, o.faces.ok.0)

pub is_flat-requires : goal.is_flat-requires
is_flat-requires c =
    let o = c.args.element.now in
    let grid = c.args.grid in
    let unsound = c.in-Some-first_unsound.ensures ∙ ap₂ (λ xs ys. first_not (is_sound xs) 0 (map face_of ys)) c.deref-3.ensures.value c.deref-4.ensures.value in
    let below = faulty_below grid c.requires.grid o c.requires.kept o.paired c.in-Some-first_unsound.place unsound in
    subst (λ xs. IsSizedFace (length xs) (face_of c.index.result.now)) (sym c.deref-in-Some-first_unsound.ensures.value)
    (face_sized grid c.requires.grid o c.requires.kept o.paired c.in-Some-first_unsound.place c.index.result.now below c.index.ensures)

pub returns-then-is_flat : goal.returns-then-is_flat
returns-then-is_flat c =
    let o = c.args.element.now in
    let grid = c.args.grid in
    let near = none_far grid c.requires.grid o c.requires.kept o.paired (sym c.in_default.is ∙ c.first_far-far.ensures ∙ ap₂ (λ xs ys. first_not (is_near o.frame grid) 0 (page_corners xs ys)) c.deref.ensures.value c.deref-2.ensures.value) in
    let unsound = c.in-Some-first_unsound.ensures ∙ ap₂ (λ xs ys. first_not (is_sound xs) 0 (map face_of ys)) c.deref-3.ensures.value c.deref-4.ensures.value in
    let flat = sym (ap (λ xs. is_flat xs (face_of c.index.result.now)) c.deref-in-Some-first_unsound.ensures.value) ∙ sym c.is_flat.ensures ∙ c.if-is_flat.true in
    is_bent grid c.requires.grid o c.requires.kept o.paired c.args.faces c.in-Some-first_unsound.place (c.args.faces + c.in-Some-first_unsound.place + 1) c.index.result.now near unsound c.index.ensures flat refl

pub returns-in-Some-first_unsound : goal.returns-in-Some-first_unsound
returns-in-Some-first_unsound c =
    let o = c.args.element.now in
    let grid = c.args.grid in
    let near = none_far grid c.requires.grid o c.requires.kept o.paired (sym c.in_default.is ∙ c.first_far-far.ensures ∙ ap₂ (λ xs ys. first_not (is_near o.frame grid) 0 (page_corners xs ys)) c.deref.ensures.value c.deref-2.ensures.value) in
    let unsound = c.in-Some-first_unsound.ensures ∙ ap₂ (λ xs ys. first_not (is_sound xs) 0 (map face_of ys)) c.deref-3.ensures.value c.deref-4.ensures.value in
    let flat = sym (ap (λ xs. is_flat xs (face_of c.index.result.now)) c.deref-in-Some-first_unsound.ensures.value) ∙ sym c.is_flat.ensures ∙ c.if-is_flat.false in
    is_off grid c.requires.grid o c.requires.kept o.paired c.args.faces c.in-Some-first_unsound.place (c.args.faces + c.in-Some-first_unsound.place + 1) c.index.result.now near unsound c.index.ensures flat refl

pub overflow_add-u : goal.overflow_add-u
overflow_add-u c =
    let o = c.args.element.now in
    let grid = c.args.grid in
    let least = subst (λ xs. IsLeastUnbalanced (map face_of xs) c.in-Some-2.from c.in-Some-2.to) c.deref-5.ensures.value
    (at_some c.in_ok-from.field-0 (AreBalanced (map face_of c.deref-5.result.now)) (λ ends. IsLeastUnbalanced (map face_of c.deref-5.result.now) ends.0 ends.1) (c.in-Some-2.from, c.in-Some-2.to) c.in_ok-from.ensures c.in-Some-2.is) in
    let below : c.in-Some-2.from < length o.corners.items = (pair_within grid c.requires.grid o c.requires.kept o.paired c.in-Some-2.from c.in-Some-2.to least).0 in
    omega arith

pub overflow_add-u-in-Some-2 : goal.overflow_add-u-in-Some-2
overflow_add-u-in-Some-2 c =
    let o = c.args.element.now in
    let grid = c.args.grid in
    let least = subst (λ xs. IsLeastUnbalanced (map face_of xs) c.in-Some-2.from c.in-Some-2.to) c.deref-5.ensures.value
    (at_some c.in_ok-from.field-0 (AreBalanced (map face_of c.deref-5.result.now)) (λ ends. IsLeastUnbalanced (map face_of c.deref-5.result.now) ends.0 ends.1) (c.in-Some-2.from, c.in-Some-2.to) c.in_ok-from.ensures c.in-Some-2.is) in
    let below : c.in-Some-2.from < length o.corners.items = (pair_within grid c.requires.grid o c.requires.kept o.paired c.in-Some-2.from c.in-Some-2.to least).0 in
    omega arith

pub overflow_add-v-in-Some-2 : goal.overflow_add-v-in-Some-2
overflow_add-v-in-Some-2 c =
    let o = c.args.element.now in
    let grid = c.args.grid in
    let least = subst (λ xs. IsLeastUnbalanced (map face_of xs) c.in-Some-2.from c.in-Some-2.to) c.deref-5.ensures.value
    (at_some c.in_ok-from.field-0 (AreBalanced (map face_of c.deref-5.result.now)) (λ ends. IsLeastUnbalanced (map face_of c.deref-5.result.now) ends.0 ends.1) (c.in-Some-2.from, c.in-Some-2.to) c.in_ok-from.ensures c.in-Some-2.is) in
    let below : c.in-Some-2.to < length o.corners.items = (pair_within grid c.requires.grid o c.requires.kept o.paired c.in-Some-2.from c.in-Some-2.to least).1 in
    omega arith

pub overflow_add-v-in-Some-2-2 : goal.overflow_add-v-in-Some-2-2
overflow_add-v-in-Some-2-2 c =
    let o = c.args.element.now in
    let grid = c.args.grid in
    let least = subst (λ xs. IsLeastUnbalanced (map face_of xs) c.in-Some-2.from c.in-Some-2.to) c.deref-5.ensures.value
    (at_some c.in_ok-from.field-0 (AreBalanced (map face_of c.deref-5.result.now)) (λ ends. IsLeastUnbalanced (map face_of c.deref-5.result.now) ends.0 ends.1) (c.in-Some-2.from, c.in-Some-2.to) c.in_ok-from.ensures c.in-Some-2.is) in
    let below : c.in-Some-2.to < length o.corners.items = (pair_within grid c.requires.grid o c.requires.kept o.paired c.in-Some-2.from c.in-Some-2.to least).1 in
    omega arith

pub returns-in-Some-2 : goal.returns-in-Some-2
returns-in-Some-2 c =
    let o = c.args.element.now in
    let grid = c.args.grid in
    let near = none_far grid c.requires.grid o c.requires.kept o.paired (sym c.in_default.is ∙ c.first_far-far.ensures ∙ ap₂ (λ xs ys. first_not (is_near o.frame grid) 0 (page_corners xs ys)) c.deref.ensures.value c.deref-2.ensures.value) in
    let sound = all_sound grid c.requires.grid o c.requires.kept o.paired (sym c.in_default-first_unsound.is ∙ c.first_unsound.ensures ∙ ap₂ (λ xs ys. first_not (is_sound xs) 0 (map face_of ys)) c.deref-3.ensures.value c.deref-4.ensures.value) in
    let least = subst (λ xs. IsLeastUnbalanced (map face_of xs) c.in-Some-2.from c.in-Some-2.to) c.deref-5.ensures.value
    (at_some c.in_ok-from.field-0 (AreBalanced (map face_of c.deref-5.result.now)) (λ ends. IsLeastUnbalanced (map face_of c.deref-5.result.now) ends.0 ends.1) (c.in-Some-2.from, c.in-Some-2.to) c.in_ok-from.ensures c.in-Some-2.is) in
    is_unbalanced grid c.requires.grid o c.requires.kept o.paired c.in-Some-2.from c.in-Some-2.to (o.before + c.in-Some-2.from + 1) (o.before + c.in-Some-2.to + 1) near sound least refl refl

pub is_volume-requires-clause-within : goal.is_volume-requires-clause-within
is_volume-requires-clause-within c =
    let o = c.args.element.now in
    let grid = c.args.grid in
    subst (λ ys. All (λ (f : MeshFace). All (λ i. i < length c.deref-6.result.now) f.corners.items) ys) (sym c.deref-7.ensures.value)
    (subst (λ (vs : List (List _)). All (λ (f : MeshFace). All (λ i. i < length vs) f.corners.items) o.faces.items) (sym c.deref-6.ensures.value) (places grid c.requires.grid o c.requires.kept o.paired))

pub is_volume-requires-clause-near : goal.is_volume-requires-clause-near
is_volume-requires-clause-near c =
    let o = c.args.element.now in
    let grid = c.args.grid in
    let near = none_far grid c.requires.grid o c.requires.kept o.paired (sym c.in_default.is ∙ c.first_far-far.ensures ∙ ap₂ (λ xs ys. first_not (is_near o.frame grid) 0 (page_corners xs ys)) c.deref.ensures.value c.deref-2.ensures.value) in
    subst AreNear (sym c.deref-6.ensures.value) (near_printed grid c.requires.grid o c.requires.kept o.paired near c.requires.kept.frame)

pub returns-then-not-is_volume : goal.returns-then-not-is_volume
returns-then-not-is_volume c =
    let o = c.args.element.now in
    let grid = c.args.grid in
    let near = none_far grid c.requires.grid o c.requires.kept o.paired (sym c.in_default.is ∙ c.first_far-far.ensures ∙ ap₂ (λ xs ys. first_not (is_near o.frame grid) 0 (page_corners xs ys)) c.deref.ensures.value c.deref-2.ensures.value) in
    let sound = all_sound grid c.requires.grid o c.requires.kept o.paired (sym c.in_default-first_unsound.is ∙ c.first_unsound.ensures ∙ ap₂ (λ xs ys. first_not (is_sound xs) 0 (map face_of ys)) c.deref-3.ensures.value c.deref-4.ensures.value) in
    let balanced = subst (λ xs. AreBalanced (map face_of xs)) c.deref-5.ensures.value
    (at_none c.in_ok-from.field-0 (AreBalanced (map face_of c.deref-5.result.now)) (λ ends. IsLeastUnbalanced (map face_of c.deref-5.result.now) ends.0 ends.1) c.in_ok-from.ensures c.in_default-2.is) in
    let volume = ap₂ (λ ps fs. within_128_bits (mesh_volume ps fs)) c.deref-6.ensures.value c.deref-7.ensures.value in
    has_wrong_volume grid c.requires.grid o c.requires.kept o.paired near sound balanced (λ right. no c.is_volume.result (c.is_volume.ensures.1 (right ∙ sym volume)) c.if-not-is_volume.true)
  where
    no : (t : Bool) → t ≡ true → t ≡ false → ⊥
    no true e f = cc
    no false e f = cc

pub returns : goal.returns
returns c =
    let o = c.args.element.now in
    let grid = c.args.grid in
    let near = none_far grid c.requires.grid o c.requires.kept o.paired (sym c.in_default.is ∙ c.first_far-far.ensures ∙ ap₂ (λ xs ys. first_not (is_near o.frame grid) 0 (page_corners xs ys)) c.deref.ensures.value c.deref-2.ensures.value) in
    let sound = all_sound grid c.requires.grid o c.requires.kept o.paired (sym c.in_default-first_unsound.is ∙ c.first_unsound.ensures ∙ ap₂ (λ xs ys. first_not (is_sound xs) 0 (map face_of ys)) c.deref-3.ensures.value c.deref-4.ensures.value) in
    let balanced = subst (λ xs. AreBalanced (map face_of xs)) c.deref-5.ensures.value
    (at_none c.in_ok-from.field-0 (AreBalanced (map face_of c.deref-5.result.now)) (λ ends. IsLeastUnbalanced (map face_of c.deref-5.result.now) ends.0 ends.1) c.in_ok-from.ensures c.in_default-2.is) in
    let volume = ap₂ (λ ps fs. within_128_bits (mesh_volume ps fs)) c.deref-6.ensures.value c.deref-7.ensures.value in
    is_sound_element grid c.requires.grid o c.requires.kept o.paired near sound balanced (c.is_volume.ensures.0 c.if-not-is_volume.false ∙ volume)
