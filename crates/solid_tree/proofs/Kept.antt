-- What the roots reach, in a pool that has kept its trees.
use Rattle.std.proofs.Common.{◌≡◌, inl, inr, ◌∙◌, ℕ, zero, suc, List, [], ◌∷◌, Result, Ok, Err, refl, sym, subst, arith}
use Rattle.std.specs.Prelude.{OnOk, OnErr, ◌↔◌}
use Rattle.std.specs.List.{Contains}
use Rattle.std.proofs.lemmas.List.Elements.{Contains-append_right}
use Rattle.std.specs.declared.alloc.AllocError.{AllocError}
use Rattle.tree_pool.specs.declared.node.TreeId.{TreeId}
use Rattle.tree_pool.specs.declared.node.PoolNode.TheVariants.{Node}
use Rattle.tree_pool.specs.Trees.{Tree, leaf, node}
use Rattle.tree_pool.specs.Pools.{Slots, IsLive, StandsFor, KeepsTrees, AreTrees}
use Rattle.tree_pool.specs.Kept.{IsChild, ReachedIn, IsKept}
use Rattle.tree_pool.proofs.Pools.{live_node}
use Rattle.tree_pool.proofs.Walks.{parts}
use Rattle.tree_pool.proofs.Reached.{Begins, reached_more}
use Rattle.solid_tree.specs.Kept.{KeepsTreesOf, HasOnly}

module _ (roots : List TreeId) (old new : Slots) (before : AreTrees old) (after : AreTrees new) (kept : KeepsTreesOf roots old new) where
  child_kept : (n : ℕ) (above id : TreeId) → ReachedIn old (Begins old roots) n above → IsChild old above id → IsChild new above id
  child_kept n above id reached child =
      let p = child.0 in
      let i = child.1 in
      let j = child.2 in
      let t = before.tree above (live_node old above (Node p i j) child.3) in
      let m = parts old above p i j child.3 t.0 t.1 in
      let stands : StandsFor new above (node p.k m.0 m.1) = kept above (node p.k m.0 m.1) (n, reached) (subst (StandsFor old above) m.4 t.1) in
      let front = after.one_number i stands.0 m.0 (kept i m.0 (suc n, (above, reached, (p, i, j, child.3, inl refl))) m.2) stands.3 in
      let back = after.one_number j stands.1 m.1 (kept j m.1 (suc n, (above, reached, (p, i, j, child.3, inr refl))) m.3) stands.4 in (
        p,
        stands.0,
        stands.1,
        stands.2,
        elim child.4 [
          | inl e ↦ inl (e ∙ front)
          | inr e ↦ inr (e ∙ back)
        ],
      )

  reached_on : (n : ℕ) (id : TreeId) → ReachedIn old (Begins old roots) n id → ReachedIn new (Begins new roots) n id
  reached_on zero id (inl h) = inl (h.0, kept id (leaf h.0) (0, inl h) h.1)
  reached_on zero id (inr h) = inr h
  reached_on (suc n) id h = (h.0, reached_on n h.0 h.1, child_kept n h.0 id h.1 h.2)

  -- what is reached is reached in the new pool
  pub kept_on : (id : TreeId) → IsKept old roots id → IsKept new roots id
  kept_on id h = (h.0, reached_on h.0 id h.1)

  pub kept_then : (last : Slots) → KeepsTreesOf roots new last → KeepsTreesOf roots old last
  kept_then last then id t h s = then id t (kept_on id h) (kept id t h s)

  pub roots_live : ((x : TreeId) → Contains roots x → IsLive old x) → (x : TreeId) → Contains roots x → IsLive new x
  roots_live live x c = let t = before.tree x (live x c) in after.live x t.0 (kept x t.0 (0, inr c) t.1)

-- a pool that keeps all trees keeps these
pub all_kept : (roots : List TreeId) (old new : Slots) → KeepsTrees old new → KeepsTreesOf roots old new
all_kept roots old new kept id t h s = kept id t s

-- all trees are kept, and then twice those that the roots reach
pub kept_thrice : (roots : List TreeId) (a b c d : Slots) → AreTrees a → AreTrees b → AreTrees c → KeepsTrees a b → KeepsTreesOf roots b c → KeepsTreesOf roots c d → KeepsTreesOf roots a d
kept_thrice roots a b c d first second third all then last =
    kept_then roots a c first third (kept_then roots a b first second (all_kept roots a b all) c then) d last

-- one root more
root_too : (pool : Slots) (root : TreeId) (roots : List TreeId) (x : TreeId) → Begins pool roots x → Begins pool (root ∷ roots) x
root_too pool root roots x (inl h) = inl h
root_too pool root roots x (inr h) = inr (Contains-append_right (root ∷ []) roots x h)

-- after a sweep that is not refused, the root is live with its tree, and nothing is live but what is reached
module _ (root : TreeId) (roots ids : List TreeId) (are : ids ≡ root ∷ roots) (old new : Slots) where
  root_kept : IsKept old ids root
  root_kept = (0, inr (subst (λ xs. Contains xs root) (sym are) (0, omega arith, refl)))

  pub swept_live : (r : Result (Unit {0}) AllocError) → OnOk r ((id : TreeId) → IsLive new id ↔ IsKept old ids id) → OnOk r (IsLive new root)
  swept_live (Ok u) live = (live root).1 root_kept
  swept_live (Err e) live = tt

  pub swept_stands : (r : Result (Unit {0}) AllocError) → OnOk r (KeepsTreesOf ids old new) → OnOk r ((t : Tree) → StandsFor old root t → StandsFor new root t)
  swept_stands (Ok u) kept = λ t s. kept root t root_kept s
  swept_stands (Err e) kept = tt

  pub swept_keeps : (r : Result (Unit {0}) AllocError) → OnOk r (KeepsTreesOf ids old new) → OnErr r (new ≡ old) → KeepsTreesOf roots old new
  swept_keeps (Ok u) kept same id t h s = kept id t (subst (λ xs. IsKept old xs id) (sym are) (h.0, reached_more old (Begins old roots) (Begins old (root ∷ roots)) (root_too old root roots) h.0 id h.1)) s
  swept_keeps (Err e) kept same id t h s = subst (λ p. StandsFor p id t) (sym same) s

  pub swept_only : AreTrees old → AreTrees new → (r : Result (Unit {0}) AllocError) → OnOk r ((id : TreeId) → IsLive new id ↔ IsKept old ids id) → OnOk r (KeepsTreesOf ids old new) → OnOk r (HasOnly (root ∷ roots) new)
  swept_only before after (Ok u) live kept = λ id lives. subst (λ xs. IsKept new xs id) are (kept_on ids old new before after kept id ((live id).0 lives))
  swept_only before after (Err e) live kept = tt
