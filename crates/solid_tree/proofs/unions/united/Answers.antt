use Rattle.std.proofs.Common.{◌≡◌, ◌∷◌, sym, ap, subst, ◌∙◌, arith}
use Rattle.tree_pool.proofs.Laws.{live_kept}
use Rattle.solid_tree.specs.Unions.{AreUnited}
use Rattle.solid_tree.proofs.Lists.{first_of, united_round, live_round, united_last, united_empty, no_items}
use Rattle.solid_tree.proofs.unions.united.Goals as goal

pub loop-alloc-preserved : goal.loop-alloc-preserved
loop-alloc-preserved c =
    let book = c.args.book.now in
    let before = c.loop-alloc.pool in
    let after = c.combined.new.pool in
    let xs = c.loop-alloc.trees.items in
    let ys = c.remove-first.new.self.items in
    let zs = c.remove-second.new.self.items in
    let a = c.remove-first.result in
    let b = c.remove-second.result in
    let both = c.in_ok-both.both in
    let e : xs ≡ a ∷ ys = first_of xs a (omega arith) c.remove-first.ensures.value ∙ ap (λ l. a ∷ l) (sym c.remove-first.ensures.items) in
    let f : ys ≡ b ∷ zs = first_of ys b (omega arith) c.remove-second.ensures.value ∙ ap (λ l. b ∷ l) (sym c.remove-second.ensures.items) in
    let still = live_kept before after c.loop-alloc.invariant.trees c.combined.ensures.trees c.combined.ensures.kept in
    record {
      live = live_round before after xs ys zs c.push.new.self.items a b both e f c.in_ok-push.ensures.items still c.in_ok-both.ensures.live c.loop-alloc.invariant.live;
      kept = λ id t s. c.combined.ensures.kept id t (c.loop-alloc.invariant.kept id t s);
      trees = c.combined.ensures.trees;
      united = λ ks p u. united_round book before after xs ys zs c.push.new.self.items a b both e f c.in_ok-push.ensures.items c.combined.ensures.kept c.in_ok-both.ensures.combined ks p (c.loop-alloc.invariant.united ks p u);
    }

pub returns-in-Some-clause-united : goal.returns-in-Some-clause-united
returns-in-Some-clause-united c ks p u =
    united_last c.loop-alloc.pool c.args.book.now ks p c.loop-alloc.trees.items c.pop.new.self.items c.in-Some.tree (omega arith) c.in-Some.ensures.items (c.loop-alloc.invariant.united ks p u)

pub returns-clause-united : goal.returns-clause-united
returns-clause-united c ks p u =
    united_empty c.loop-alloc.pool c.args.book.now ks p c.leaf.result c.leaf.ensures.stands
    (subst (AreUnited c.loop-alloc.pool c.args.book.now ks p) (no_items c.loop-alloc.trees.items (omega (arith, c.in-None.ensures.cases.0))) (c.loop-alloc.invariant.united ks p u))
