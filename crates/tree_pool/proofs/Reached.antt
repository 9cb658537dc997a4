-- What is reached is live, and a list that is closed under children has it.
use Rattle.std.proofs.Common.{◌≡◌, ◌⊎◌, inl, inr, ◌+◌, ◌<◌, ℕ, zero, suc, Bool, true, false, List, length, slice_get, Some, Contains, sym, ap, subst, ◌∙◌, arith}
use Rattle.std.proofs.lemmas.Bool.{cases_lt}
use Rattle.tree_pool.specs.declared.node.TreeId.{TreeId}
use Rattle.tree_pool.specs.Pools.{Slots, node_at, IsLive, IsPool}
use Rattle.tree_pool.specs.Kept.{IsChild, ReachedIn, IsLeaf}
use Rattle.tree_pool.specs.declared.node.PoolNode.TheVariants.{Leaf}
use Rattle.tree_pool.proofs.Pools.{live_node}
use Rattle.tree_pool.proofs.Walks.{children}
use Rattle.tree_pool.proofs.Counted.{at_place}

pub child_live : (pool : Slots) → IsPool pool → (x child : TreeId) → IsChild pool x child → IsLive pool child
child_live pool ok x child h = elim h.4 [
  | inl e ↦ subst (IsLive pool) (sym e) (children pool ok x h.0 h.1 h.2 h.3).0
  | inr e ↦ subst (IsLive pool) (sym e) (children pool ok x h.0 h.1 h.2 h.3).1
]

pub reached_live : (pool : Slots) → IsPool pool → (begins : TreeId → Type 0) → ((x : TreeId) → begins x → IsLive pool x) → (n : ℕ) (x : TreeId) → ReachedIn pool begins n x → IsLive pool x
reached_live pool ok begins live zero x h = live x h
reached_live pool ok begins live (suc n) x h = child_live pool ok h.0 x h.2

pub reached_within : (pool : Slots) (ids : List TreeId) (begins : TreeId → Type 0) → ((x : TreeId) → begins x → Contains ids x)
    → ((x child : TreeId) → Contains ids x → IsChild pool x child → Contains ids child) → (n : ℕ) (x : TreeId) → ReachedIn pool begins n x → Contains ids x
reached_within pool ids begins start closed zero x h = start x h
reached_within pool ids begins start closed (suc n) x h = closed h.0 x (reached_within pool ids begins start closed n h.0 h.1) h.2

pub reached_more : (pool : Slots) (begins more : TreeId → Type 0) → ((x : TreeId) → begins x → more x) → (n : ℕ) (x : TreeId) → ReachedIn pool begins n x → ReachedIn pool more n x
reached_more pool begins more weaker zero x h = weaker x h
reached_more pool begins more weaker (suc n) x h = (h.0, reached_more pool begins more weaker n h.0 h.1, h.2)

same_some : (x y : TreeId) → Some x ≡ Some y → x ≡ y
same_some x y e = cc

-- one place more is done
pub closed_further : (pool : Slots) (old new : List TreeId) (at : ℕ) (id : TreeId) → at < length old → slice_get old at ≡ Some id
    → ((k : ℕ) (x : TreeId) → slice_get old k ≡ Some x → slice_get new k ≡ Some x) → ((x : TreeId) → Contains old x → Contains new x)
    → ((child : TreeId) → IsChild pool id child → Contains new child)
    → ((k : ℕ) (x child : TreeId) → k < at → slice_get old k ≡ Some x → IsChild pool x child → Contains old child)
    → (k : ℕ) (x child : TreeId) → k < at + 1 → slice_get new k ≡ Some x → IsChild pool x child → Contains new child
closed_further pool old new at id within here places kept has closed k x child below e h =
    let y = at_place old k (omega (arith, within, below)) in
    let same : y.0 ≡ x = same_some y.0 x (sym (places k y.0 y.1) ∙ e) in
    let held : slice_get old k ≡ Some x = y.1 ∙ ap Some same in
    elim (cases_lt k at) [
      | inl less ↦ kept child (closed k x child less held h)
      | inr more ↦
          let eq : at ≡ k = omega (arith, more, below) in
          let is : id ≡ x = same_some id x (sym here ∙ ap (slice_get old) eq ∙ held) in
          has child (subst (λ z. IsChild pool z child) (sym is) h)
    ]

-- ---- from the two leaves and the roots
abbrev pub Begins : Slots → List TreeId → TreeId → Type 0
Begins pool roots x = IsLeaf pool x ⊎ Contains roots x

module _ (pool : Slots) (roots : List TreeId) (no yes : TreeId) (no_leaf : node_at pool no ≡ Some (Leaf false)) (yes_leaf : node_at pool yes ≡ Some (Leaf true)) where
  pub begins_only : (x : TreeId) → (x ≡ no) ⊎ ((x ≡ yes) ⊎ Contains roots x) → Begins pool roots x
  begins_only x (inl e) = inl (false, ap (node_at pool) e ∙ no_leaf)
  begins_only x (inr (inl e)) = inl (true, ap (node_at pool) e ∙ yes_leaf)
  begins_only x (inr (inr h)) = inr h

  pub begins_live : ((x : TreeId) → Contains roots x → IsLive pool x) → (x : TreeId) → Begins pool roots x → IsLive pool x
  begins_live live x (inl h) = live_node pool x (Leaf h.0) h.1
  begins_live live x (inr h) = live x h

  leaf_listed : (ids : List TreeId) → IsPool pool → Contains ids no → Contains ids yes → (x : TreeId) (b : Bool) → node_at pool x ≡ Some (Leaf b) → Contains ids x
  leaf_listed ids ok n y x false e = subst (Contains ids) (ok.one_number (Leaf false) no x no_leaf e) n
  leaf_listed ids ok n y x true e = subst (Contains ids) (ok.one_number (Leaf true) yes x yes_leaf e) y

  pub begins_listed : (ids : List TreeId) → IsPool pool → Contains ids no → Contains ids yes → ((x : TreeId) → Contains roots x → Contains ids x) → (x : TreeId) → Begins pool roots x → Contains ids x
  begins_listed ids ok n y r x (inl h) = leaf_listed ids ok n y x h.0 h.1
  begins_listed ids ok n y r x (inr h) = r x h
