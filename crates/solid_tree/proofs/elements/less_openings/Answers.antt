use Rattle.std.proofs.Common.{◌≡◌, Bool, true, List, [], ◌∷◌, ◌++◌, map, length, refl, sym, subst, ◌∙◌, arith, eqb→eq, T}
use Rattle.std.specs.Prelude.{◌==◌}
use Rattle.std.specs.List.{flat_map}
use Rattle.std.proofs.lemmas.Result.{IfOk-weaker}
use Rattle.spec_space.specs.declared.Plane.{Plane}
use Rattle.spec_space.specs.declared.Point.{Point}
use Rattle.spec_solid.specs.declared.BoolOp.TheVariants.{Difference}
use Rattle.spec_solid.specs.Planes.{solid_planes}
use Rattle.spec_solid.specs.Solids.{truth, is_inside_some}
use Rattle.grid_solid.specs.Views.{solid_of}
use Rattle.tree_pool.specs.declared.node.TreeId.{TreeId}
use Rattle.tree_pool.proofs.Laws.{live_kept}
use Rattle.solid_tree.specs.Unions.{HasTree, less}
use Rattle.solid_tree.proofs.Trees.{has_kept}
use Rattle.solid_tree.proofs.ElementLaws.{has_stood, left_has, right_has, less_nothing}
use Rattle.solid_tree.proofs.elements.less_openings.Goals as goal

empty : {X : Type 0} (xs : List X) (b : Bool) → b ≡ (length xs == 0) → b ≡ true → xs ≡ []
empty [] b e t = refl
empty (x ∷ xs) b e t = absurd (not_zero (eqb→eq (length (x ∷ xs)) 0 (subst T (sym t ∙ e) tt)))
  where
    not_zero : length (x ∷ xs) ≡ 0 → ⊥
    not_zero h = omega arith

pub combined-requires-clause-first_live : goal.combined-requires-clause-first_live
combined-requires-clause-first_live c = live_kept c.sweep_others.new.pool c.union_tree.new.pool c.sweep_others.ensures.trees c.union_tree.ensures.trees c.union_tree.ensures.kept c.args.items c.in_ok-sweep_others.ensures.live

pub returns-clause-kept : goal.returns-clause-kept
returns-clause-kept c id t h s = c.combined.ensures.kept id t (c.union_tree.ensures.kept id t (c.sweep_others.ensures.kept id t h s))

pub returns-in_err-removed-clause-kept : goal.returns-in_err-removed-clause-kept
returns-in_err-removed-clause-kept c id t h s = c.union_tree.ensures.kept id t (c.sweep_others.ensures.kept id t h s)

pub returns-then-is_empty-clause-kept : goal.returns-then-is_empty-clause-kept
returns-then-is_empty-clause-kept c id t h s = s

pub returns-clause-less : goal.returns-clause-less
returns-clause-less c =
    let before = c.args.pool.now in
    let old = c.args.book.now in
    let new = c.union_tree.new.book in
    let swept = c.sweep_others.new.pool in
    let both = c.union_tree.new.pool in
    let others = map solid_of c.args.openings.now in
    let ls = flat_map solid_planes others in
    IfOk-weaker c.combined.result
    (λ (id : TreeId). (ks : List Plane) (p q : Point → Bool) → HasTree both new ks p c.args.items → HasTree both new ks q c.in_ok-removed.removed → HasTree c.combined.new.pool new ks (λ x. truth Difference (p x) (q x)) id)
    (λ (id : TreeId). (ks : List Plane) (told : Point → Bool) → HasTree before old ks told c.args.items → HasTree c.combined.new.pool new (ks ++ ls) (less told others) id)
    (λ id made ks told h.
    let first = has_stood before swept old ks told c.args.items c.in_ok-sweep_others.ensures.stands h in
    let kept = has_kept _ old new swept both c.union_tree.ensures.grown c.union_tree.ensures.kept ks told c.args.items first in
    made (ks ++ ls) told (is_inside_some others) (left_has both new ks ls told c.args.items kept) (right_has both new ks ls (is_inside_some others) c.in_ok-removed.removed c.in_ok-removed.ensures.inside))
    c.combined.ensures.combined

pub returns-then-is_empty-clause-less : goal.returns-then-is_empty-clause-less
returns-then-is_empty-clause-less c ks told h = less_nothing c.args.pool.now c.args.book.now ks told c.args.items c.args.openings.now (empty c.args.openings.now c.is_empty.result c.is_empty.ensures c.if-is_empty.true) h
