-- What a number that is taken out leaves of the index.
use Rattle.std.proofs.Common.{◌≡◌, ◌≢◌, inl, inr, ◌↔◌, ℕ, Bool, true, false, true≢false, cond, Some, None, refl, sym, ap, ◌∙◌}
use Rattle.std.proofs.lemmas.Bool.{cases_eq}
use Rattle.indexmap.specs.IndexMap.{IndexMap, get}
use Rattle.tree_pool.specs.declared.node.Slot.{Slot}
use Rattle.tree_pool.specs.declared.node.PoolNode.{PoolNode}
use Rattle.tree_pool.specs.Pools.{Slots, slot_at, node_by, node_at}
use Rattle.tree_pool.specs.Index.{node_eq, IsIndexOf}
use Rattle.tree_pool.proofs.Inserted.{same_node, eq_from_same}

nothing : (k : ℕ) → None ≡ Some k → ⊥
nothing k e = cc

module _ {S : Type 0} (old new : Slots) (key : ℕ) (x : Slot) (index next : IndexMap PoolNode ℕ S) (agrees : IsIndexOf old index) (was : slot_at old key ≡ Some x)
    (gone : slot_at new key ≡ None) (others : (k : ℕ) → k ≢ key → slot_at new k ≡ slot_at old k)
    (updated : (n : PoolNode) → get node_eq next n ≡ cond (node_eq x.node n) None (get node_eq index n)) where
  none_here : (n : PoolNode) (k : ℕ) → k ≡ key → node_at new (record { key = k }) ≡ Some n → ⊥
  none_here n k e h =
      let empty : node_at new (record { key = k }) ≡ None = ap (λ m. node_by (slot_at new m)) e ∙ ap node_by gone in
      cc (empty, h)

  at_it : (n : PoolNode) (k : ℕ) → node_eq x.node n ≡ true → (get node_eq next n ≡ Some k) ↔ (node_at new (record { key = k }) ≡ Some n)
  at_it n k e =
      let found : get node_eq next n ≡ None = updated n ∙ ap (λ b. cond b None (get node_eq index n)) e in
      let first : get node_eq index n ≡ Some key = (agrees n key).1 (ap node_by was ∙ ap Some (same_node x.node n e)) in (
        (λ h. absurd (nothing k (sym found ∙ h))),
        (λ h. elim (cases_eq k key) [
          | inl a ↦ absurd (none_here n k a h)
          | inr a ↦ absurd (a (some_same k key (sym ((agrees n k).1 (sym (ap node_by (others k a)) ∙ h)) ∙ first)))
        ]),
      )
    where
      some_same : (a b : ℕ) → Some a ≡ Some b → a ≡ b
      some_same a b e = cc

  at_other : (n : PoolNode) (k : ℕ) → node_eq x.node n ≡ false → (get node_eq next n ≡ Some k) ↔ (node_at new (record { key = k }) ≡ Some n)
  at_other n k e =
      let found : get node_eq next n ≡ get node_eq index n = updated n ∙ ap (λ b. cond b None (get node_eq index n)) e in (
        (λ h. let held = (agrees n k).0 (sym found ∙ h) in elim (cases_eq k key) [
          | inl a ↦ absurd (true≢false (sym (eq_from_same x.node n (here n k a held)) ∙ e))
          | inr a ↦ ap node_by (others k a) ∙ held
        ]),
        (λ h. elim (cases_eq k key) [
          | inl a ↦ absurd (none_here n k a h)
          | inr a ↦ found ∙ (agrees n k).1 (sym (ap node_by (others k a)) ∙ h)
        ]),
      )
    where
      here : (n : PoolNode) (k : ℕ) → k ≡ key → node_at old (record { key = k }) ≡ Some n → x.node ≡ n
      here n k a held =
          let it : node_at old (record { key = k }) ≡ Some x.node = ap (λ m. node_by (slot_at old m)) a ∙ ap node_by was in
          cc (it, held)

  by_test : (n : PoolNode) (k : ℕ) (b : Bool) → node_eq x.node n ≡ b → (get node_eq next n ≡ Some k) ↔ (node_at new (record { key = k }) ≡ Some n)
  by_test n k true e = at_it n k e
  by_test n k false e = at_other n k e

  pub IsIndexOf-removed : IsIndexOf new next
  IsIndexOf-removed n k = by_test n k (node_eq x.node n) refl
