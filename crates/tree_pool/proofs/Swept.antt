-- What a sweep leaves of a pool.
use Rattle.std.proofs.Common.{◌≡◌, ◌⊎◌, inl, inr, ◌↔◌, ◌+◌, ◌-◌, ◌<◌, ◌≤◌, ℕ, zero, suc, max, nat_lt, Bool, true, false, true≢false, cond, List, Option, Some, None, IsSome, Contains, refl, sym, ap, subst, ◌∙◌, arith}
use Rattle.std.proofs.lemmas.Bool.{cases_lt, ltb-true, lt-ltb}
use Rattle.std.specs.List.{list_any}
use Rattle.indexmap.proofs.IndexTableLemmas.Probe.{pigeonhole}
use Rattle.tree_pool.specs.declared.node.TreeId.{TreeId}
use Rattle.tree_pool.specs.declared.node.Slot.{Slot}
use Rattle.tree_pool.specs.declared.node.PoolNode.{PoolNode}
use Rattle.tree_pool.specs.declared.node.PoolNode.TheVariants.{Leaf, Node}
use Rattle.tree_pool.specs.contracts.node.TreeIdPartialEq.TheImpl.{ghosts}
use Rattle.tree_pool.specs.Trees.{Tree, leaf, node}
use Rattle.tree_pool.specs.Pools.{Slots, slot_at, node_by, rank_by, node_at, rank_at, IsLive, live_count, StandsFor, IsBuilt, IsPool}
use Rattle.tree_pool.specs.Kept.{IsChild, IsKept}
use Rattle.tree_pool.proofs.Pools.{node_slot, live_slot, slot_live}
use Rattle.tree_pool.proofs.Counted.{before, before_low, before_same}
use Rattle.tree_pool.proofs.Lists.{found_in, in_found}
use Rattle.tree_pool.proofs.Reached.{Begins, reached_live}

-- ---- ranks are below the count, where children are live and lower by one
abbrev higher_by : Slots → TreeId → Option PoolNode → TreeId
higher_by pool id None = id
higher_by pool id (Some (Leaf b)) = id
higher_by pool id (Some (Node p i j)) = cond (nat_lt (rank_at pool i) (rank_at pool j)) j i

abbrev down : Slots → ℕ → TreeId → TreeId
down pool zero id = id
down pool (suc d) id = down pool d (higher_by pool id (node_at pool id))

not_less : (a b : ℕ) → nat_lt a b ≡ false → b ≤ a
not_less a b e = elim (cases_lt a b) [
  | inl h ↦ absurd (true≢false (sym (lt-ltb a b h) ∙ e))
  | inr h ↦ h
]

module _ (pool : Slots) (built : (id : TreeId) (s : Slot) → slot_at pool id.key ≡ Some s → IsBuilt pool s.rank s.node) where
  by_ranks : (a b m : ℕ) (i j : TreeId) → a ≡ rank_at pool i → b ≡ rank_at pool j → IsLive pool i → IsLive pool j → suc m ≡ suc (max a b) → (t : Bool) → nat_lt a b ≡ t
      → IsLive pool (cond t j i) × (rank_at pool (cond t j i) ≡ m)
  by_ranks a b m i j ea eb li lj e true t = (lj, omega (arith, eb, e, ltb-true a b t))
  by_ranks a b m i j ea eb li lj e false t = (li, omega (arith, ea, e, not_less a b t))

  one_down : (id : TreeId) (rank m : ℕ) (n : PoolNode) → IsBuilt pool rank n → rank ≡ suc m → IsLive pool (higher_by pool id (Some n)) × (rank_at pool (higher_by pool id (Some n)) ≡ m)
  one_down id rank m (Leaf b) h e = absurd (omega (arith, h, e))
  one_down id rank m (Node p i j) h e = by_ranks (rank_at pool i) (rank_at pool j) m i j refl refl h.0 h.1 (sym e ∙ h.3) (nat_lt (rank_at pool i) (rank_at pool j)) refl

  down_rank : (d n : ℕ) (id : TreeId) → IsLive pool id → rank_at pool id ≡ n + d → IsLive pool (down pool d id) × (rank_at pool (down pool d id) ≡ n)
  down_rank zero n id live e = (live, omega (arith, e))
  down_rank (suc d) n id live e =
      let s = live_slot (slot_at pool id.key) live in
      let rank : s.0.rank ≡ suc (n + d) = sym (ap rank_by s.1) ∙ e ∙ (omega arith) in
      let r = one_down id s.0.rank (n + d) s.0.node (built id s.0 s.1) rank in
      let is : node_at pool id ≡ Some s.0.node = ap node_by s.1 in
      let up = subst (λ o. IsLive pool (higher_by pool id o) × (rank_at pool (higher_by pool id o) ≡ n + d)) (sym is) r in
      down_rank d n (higher_by pool id (node_at pool id)) up.0 up.1

  module _ (id : TreeId) (live : IsLive pool id) where
    at_rank : (n : ℕ) → n < suc (rank_at pool id) → IsLive pool (down pool (rank_at pool id - n) id) × (rank_at pool (down pool (rank_at pool id - n) id) ≡ n)
    at_rank n h = down_rank (rank_at pool id - n) n id live (whole (rank_at pool id) n h)
      where
        whole : (r n : ℕ) → n < suc r → r ≡ n + (r - n)
        whole r n h = omega arith

    place : ℕ → ℕ
    place n = before pool ((down pool (rank_at pool id - n) id).key)

    into : (n : ℕ) → n < suc (rank_at pool id) → place n < live_count pool
    unfolding place
    into n h =
        let r = at_rank n h in
        let s = live_slot (slot_at pool ((down pool (rank_at pool id - n) id).key)) r.0 in
        before_low pool ((down pool (rank_at pool id - n) id).key) s.0 s.1

    apart : (n m : ℕ) → n < suc (rank_at pool id) → m < suc (rank_at pool id) → place n ≡ place m → n ≡ m
    unfolding place
    apart n m hn hm e =
        let r = at_rank n hn in
        let q = at_rank m hm in
        let s = live_slot (slot_at pool ((down pool (rank_at pool id - n) id).key)) r.0 in
        let t = live_slot (slot_at pool ((down pool (rank_at pool id - m) id).key)) q.0 in
        let same = before_same pool ((down pool (rank_at pool id - n) id).key) ((down pool (rank_at pool id - m) id).key) s.0 t.0 s.1 t.1 e in
        sym r.1 ∙ ap (λ k. rank_by (slot_at pool k)) same ∙ q.1

    pub rank_low : rank_at pool id < live_count pool
    rank_low = below (rank_at pool id) (live_count pool) (pigeonhole (suc (rank_at pool id)) (live_count pool) place into apart)
      where
        below : (r n : ℕ) → suc r ≤ n → r < n
        below r n h = omega arith

-- ---- the swept pool
decided : (ids : List TreeId) (id : TreeId) → Contains ids id ⊎ (Contains ids id → ⊥)
decided ids id = by (list_any (ghosts.eq id) ids) refl
  where
    by : (b : Bool) → list_any (ghosts.eq id) ids ≡ b → Contains ids id ⊎ (Contains ids id → ⊥)
    by true e = inl (in_found ids id e)
    by false e = inr (λ h. true≢false (sym (found_in ids id h) ∙ e))

module _ (old new : Slots) (ids roots : List TreeId) (ok : IsPool old) (is : (x : TreeId) → Contains ids x ↔ IsKept old roots x)
    (stay : (id : TreeId) → Contains ids id → slot_at new id.key ≡ slot_at old id.key) (gone : (id : TreeId) → (Contains ids id → ⊥) → slot_at new id.key ≡ None) where
  kept_slot : (id : TreeId) (s : Slot) → slot_at new id.key ≡ Some s → IsKept old roots id × (slot_at old id.key ≡ Some s)
  kept_slot id s e = elim (decided ids id) [
    | inl h ↦ ((is id).0 h, sym (stay id h) ∙ e)
    | inr n ↦
        let empty : slot_at new id.key ≡ None = gone id n in
        absurd (cc (empty, e))
  ]

  kept_node : (id : TreeId) (n : PoolNode) → node_at new id ≡ Some n → node_at old id ≡ Some n
  kept_node id n e =
      let s = node_slot (slot_at new id.key) n e in
      ap node_by (kept_slot id s.0 s.1).1 ∙ ap Some s.2

  same_slot : (id : TreeId) → IsKept old roots id → slot_at new id.key ≡ slot_at old id.key
  same_slot id h = stay id ((is id).1 h)

  child_kept : (id child : TreeId) → IsKept old roots id → IsChild old id child → IsKept old roots child
  child_kept id child h c = (suc h.0, (id, h.1, c))

  built_new : (id : TreeId) (rank : ℕ) (n : PoolNode) → IsKept old roots id → node_at old id ≡ Some n → IsBuilt old rank n → IsBuilt new rank n
  built_new id rank (Leaf b) kept e h = h
  built_new id rank (Node p i j) kept e h =
      let si = same_slot i (child_kept id i kept (p, i, j, e, inl refl)) in
      let sj = same_slot j (child_kept id j kept (p, i, j, e, inr refl)) in
      (subst IsSome (sym si) h.0, subst IsSome (sym sj) h.1, h.2, h.3 ∙ (λ t. suc (max (rank_by (sym si t)) (rank_by (sym sj t)))))

  made : (id : TreeId) (s : Slot) → slot_at new id.key ≡ Some s → IsBuilt new s.rank s.node
  made id s e = let k = kept_slot id s e in built_new id s.rank s.node k.0 (ap node_by k.1) (ok.built id s k.1)

  pub swept_pool : IsPool new
  swept_pool = record {
    one_number = λ n i j ei ej. ok.one_number n i j (kept_node i n ei) (kept_node j n ej);
    built = made;
    low = λ id s e. subst (λ r. r < live_count new) (ap rank_by e) (rank_low new made id (slot_live (slot_at new id.key) s e));
  }

  pub swept_trees : (t : Tree) (id : TreeId) → IsKept old roots id → StandsFor old id t → StandsFor new id t
  swept_trees (leaf b) id kept s = ap node_by (same_slot id kept) ∙ s
  swept_trees (node p f g) id kept s = (
    s.0,
    s.1,
    ap node_by (same_slot id kept) ∙ s.2,
    swept_trees f s.0 (child_kept id s.0 kept (record { k = p }, s.0, s.1, s.2, inl refl)) s.3,
    swept_trees g s.1 (child_kept id s.1 kept (record { k = p }, s.0, s.1, s.2, inr refl)) s.4,
  )

  pub swept_live : ((x : TreeId) → Begins old roots x → IsLive old x) → (id : TreeId) → IsLive new id ↔ IsKept old roots id
  swept_live live id = (
    (λ h. let s = live_slot (slot_at new id.key) h in (kept_slot id s.0 s.1).0),
    (λ h. subst IsSome (sym (same_slot id h)) (reached_live old ok (Begins old roots) live h.0 id h.1)),
  )

  -- a leaf is left
  pub swept_leaf : (id : TreeId) (b : Bool) → node_at old id ≡ Some (Leaf b) → node_at new id ≡ Some (Leaf b)
  swept_leaf id b e = ap node_by (same_slot id (0, inl (b, e))) ∙ e
