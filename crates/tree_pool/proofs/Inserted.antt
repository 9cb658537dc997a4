-- What one more node leaves of a pool and of its index.
use Rattle.std.proofs.Common.{◌≡◌, ◌≢◌, ◌+◌, inl, inr, ◌↔◌, ◌<◌, ◌≤◌, ℕ, suc, Bool, true, false, true≢false, cond, ◌&&◌, nat_eq, Option, Some, None, max, refl, sym, ap, subst, ◌∙◌, arith}
use Rattle.std.proofs.lemmas.Bool.{cases_eq}
use Rattle.std.proofs.lemmas.Bool.Decides.{Decides-eqb}
use Rattle.std.specs.Cmp.{booleans_Decides}
use Rattle.slab.specs.Slab.{Slab, slab_len, get as slab_get, Updates as SlabUpdates}
use Rattle.indexmap.specs.IndexMap.{IndexMap, get}
use Rattle.tree_pool.specs.declared.node.TreeId.{TreeId}
use Rattle.tree_pool.specs.declared.node.Slot.{Slot}
use Rattle.tree_pool.specs.declared.node.PoolNode.{PoolNode}
use Rattle.tree_pool.specs.declared.node.PoolNode.TheVariants.{Leaf, Node}
use Rattle.tree_pool.specs.Pools.{Slots, slot_at, node_by, rank_by, node_at, rank_at, live_count, KeepsNodes, AddsOnly, IsBuilt, IsPool}
use Rattle.tree_pool.specs.Index.{node_eq, IsIndexOf}
use Rattle.tree_pool.proofs.Pools.{node_slot, live_slot, slot_live}

-- ---- the test of equal nodes
both : (a b : Bool) → (a && b) ≡ true → (a ≡ true) × (b ≡ true)
both true b e = (refl, e)
both false b e = cc

pub same_node : (n m : PoolNode) → node_eq n m ≡ true → n ≡ m
same_node (Leaf a) (Leaf b) e = ap Leaf ((booleans_Decides a b).0 e)
same_node (Leaf a) (Node q k l) e = cc
same_node (Node p i j) (Leaf b) e = cc
same_node (Node p i j) (Node q k l) e =
    let s = both _ _ e in
    let t = both _ _ s.1 in
    let ep = (Decides-eqb p.k q.k).0 s.0 in
    let ei = (Decides-eqb i.key k.key).0 t.0 in
    let ej = (Decides-eqb j.key l.key).0 t.1 in
    λ t. Node (record { k = ep t }) (record { key = ei t }) (record { key = ej t })

own_number : (x : ℕ) → nat_eq x x ≡ true
own_number x = (Decides-eqb x x).1 refl

node_eq_itself : (n : PoolNode) → node_eq n n ≡ true
node_eq_itself (Leaf b) = (booleans_Decides b b).1 refl
node_eq_itself (Node p i j) = rw (own_number p.k, own_number i.key, own_number j.key) refl

pub eq_from_same : (n m : PoolNode) → n ≡ m → node_eq n m ≡ true
eq_from_same n m e = subst (λ x. node_eq n x ≡ true) e (node_eq_itself n)

id_of : ℕ → TreeId
id_of k = record { key = k }

-- ---- one more slot
pub record Inserts (old new : Slots) (key : ℕ) (x : Slot) : Type 0 where
  pub vacant : slot_at old key ≡ None
  pub changed : slot_at new key ≡ Some x
  pub others : (k : ℕ) → k ≢ key → slot_at new k ≡ slot_at old k
  pub count : live_count new ≡ suc (live_count old)

-- room was made, and then the slot was put
pub inserts : (old mid new : Slab Slot) (key : ℕ) (x : Slot) → mid.slots ≡ old.slots → slab_get mid key ≡ None → SlabUpdates mid new key (Some x) → slab_len new ≡ slab_len mid + 1
    → Inserts old.slots new.slots key x
inserts old mid new key x same vacant updates len = subst (λ s. Inserts s new.slots key x) same (record {
  vacant = vacant;
  changed = updates.changed;
  others = updates.others;
  count = omega (arith, len);
})

module _ (old new : Slots) (key : ℕ) (x : Slot) (put : Inserts old new key x) where
  other_key : (k : ℕ) (s : Slot) → slot_at old k ≡ Some s → k ≢ key
  other_key k s held e =
      let vacant : slot_at old key ≡ None = put.vacant in
      let here : slot_at old key ≡ Some s = ap (slot_at old) (sym e) ∙ held in
      cc (vacant, here)

  kept_slot : (k : ℕ) (s : Slot) → slot_at old k ≡ Some s → slot_at new k ≡ Some s
  kept_slot k s held = put.others k (other_key k s held) ∙ held

  pub kept_nodes : KeepsNodes old new
  kept_nodes id n e = let s = node_slot (slot_at old id.key) n e in ap node_by (kept_slot id.key s.0 s.1) ∙ ap Some s.2

  kept_built : (rank : ℕ) (m : PoolNode) → IsBuilt old rank m → IsBuilt new rank m
  kept_built rank (Leaf b) built = built
  kept_built rank (Node p i j) built =
      let u = live_slot (slot_at old i.key) built.0 in
      let v = live_slot (slot_at old j.key) built.1 in
      let eu = kept_slot i.key u.0 u.1 in
      let ev = kept_slot j.key v.0 v.1 in
      let ri : rank_at old i ≡ rank_at new i = ap rank_by (u.1 ∙ sym eu) in
      let rj : rank_at old j ≡ rank_at new j = ap rank_by (v.1 ∙ sym ev) in
      (slot_live (slot_at new i.key) u.0 eu, slot_live (slot_at new j.key) v.0 ev, built.2, built.3 ∙ (λ t. suc (max (ri t) (rj t))))

  same_slot : (id : TreeId) (s : Slot) → slot_at new id.key ≡ Some s → id.key ≡ key → s ≡ x
  same_slot id s e k =
      let here : slot_at new key ≡ Some s = ap (slot_at new) (sym k) ∙ e in
      let changed : slot_at new key ≡ Some x = put.changed in
      cc (here, changed)

  low_rank : (rank : ℕ) (m : PoolNode) → IsPool old → IsBuilt old rank m → rank ≤ live_count old
  low_rank rank (Leaf b) ok built = omega (arith, built)
  low_rank rank (Node p i j) ok built =
      let u = live_slot (slot_at old i.key) built.0 in
      let v = live_slot (slot_at old j.key) built.1 in
      low_max rank (rank_at old i) (rank_at old j) (live_count old) built.3
      (subst (λ r. r < live_count old) (sym (ap rank_by u.1)) (ok.low i u.0 u.1))
      (subst (λ r. r < live_count old) (sym (ap rank_by v.1)) (ok.low j v.0 v.1))
    where
      low_max : (r a b n : ℕ) → r ≡ suc (max a b) → a < n → b < n → r ≤ n
      low_max r a b n e h k = omega arith

  pub only_one : AddsOnly old new (record { key = key })
  only_one other n e = elim (cases_eq other.key key) [
    | inl a ↦ inl (λ t. record { key = a t })
    | inr a ↦ inr (sym (ap node_by (put.others other.key a)) ∙ e)
  ]

  module _ (ok : IsPool old) (fresh : (id : TreeId) → node_at old id ≡ Some x.node → ⊥) (built : IsBuilt old x.rank x.node) where
    new_node : (id : TreeId) (n : PoolNode) → node_at new id ≡ Some n → id.key ≡ key → x.node ≡ n
    new_node id n e k =
        let here : node_at new id ≡ Some x.node = ap (λ m. node_by (slot_at new m)) k ∙ ap node_by put.changed in
        cc (here, e)

    old_node : (id : TreeId) (n : PoolNode) → node_at new id ≡ Some n → id.key ≢ key → node_at old id ≡ Some n
    old_node id n e k = sym (ap node_by (put.others id.key k)) ∙ e

    number : (n : PoolNode) (i j : TreeId) → node_at new i ≡ Some n → node_at new j ≡ Some n → i ≡ j
    number n i j ei ej = elim (cases_eq i.key key) [
      | inl a ↦ elim (cases_eq j.key key) [
        | inl b ↦ λ t. record { key = (a ∙ sym b) t }
        | inr b ↦ absurd (fresh j (old_node j n ej b ∙ ap Some (sym (new_node i n ei a))))
      ]
      | inr a ↦ elim (cases_eq j.key key) [
        | inl b ↦ absurd (fresh i (old_node i n ei a ∙ ap Some (sym (new_node j n ej b))))
        | inr b ↦ ok.one_number n i j (old_node i n ei a) (old_node j n ej b)
      ]
    ]

    made : (id : TreeId) (s : Slot) → slot_at new id.key ≡ Some s → IsBuilt new s.rank s.node
    made id s e = elim (cases_eq id.key key) [
      | inl a ↦ subst (λ y. IsBuilt new y.rank y.node) (sym (same_slot id s e a)) (kept_built x.rank x.node built)
      | inr a ↦ kept_built s.rank s.node (ok.built id s (sym (put.others id.key a) ∙ e))
    ]

    lower : (id : TreeId) (s : Slot) → slot_at new id.key ≡ Some s → s.rank < live_count new
    lower id s e = elim (cases_eq id.key key) [
      | inl a ↦ subst (λ y. y.rank < live_count new) (sym (same_slot id s e a)) (omega (arith, put.count, low_rank x.rank x.node ok built))
      | inr a ↦ omega (arith, put.count, ok.low id s (sym (put.others id.key a) ∙ e))
    ]

    pub IsPool-inserted : IsPool new
    IsPool-inserted = record {
      one_number = number;
      built = made;
      low = lower;
    }

    -- ---- the index
    module _ {S : Type 0} (index next : IndexMap PoolNode ℕ S) (agrees : IsIndexOf old index) (updated : (n : PoolNode) → get node_eq next n ≡ cond (node_eq x.node n) (Some key) (get node_eq index n)) where
      at_new : (n : PoolNode) (k : ℕ) → node_eq x.node n ≡ true → (get node_eq next n ≡ Some k) ↔ (node_at new (record { key = k }) ≡ Some n)
      at_new n k e =
          let same : x.node ≡ n = same_node x.node n e in
          let found : get node_eq next n ≡ Some key = updated n ∙ ap (λ b. cond b (Some key) (get node_eq index n)) e in (
            (λ h. let here : key ≡ k = some_same key k (sym found ∙ h) in ap (λ m. node_by (slot_at new m)) (sym here) ∙ ap node_by put.changed ∙ ap Some same),
            (λ h. elim (cases_eq k key) [
              | inl a ↦ found ∙ ap Some (sym a)
              | inr a ↦ absurd (fresh (record { key = k }) (old_node (record { key = k }) n h a ∙ ap Some (sym same)))
            ]),
          )
        where
          some_same : (a b : ℕ) → Some a ≡ Some b → a ≡ b
          some_same a b e = cc

      at_old : (n : PoolNode) (k : ℕ) → node_eq x.node n ≡ false → (get node_eq next n ≡ Some k) ↔ (node_at new (record { key = k }) ≡ Some n)
      at_old n k e =
          let found : get node_eq next n ≡ get node_eq index n = updated n ∙ ap (λ b. cond b (Some key) (get node_eq index n)) e in (
            (λ h. kept_nodes (record { key = k }) n ((agrees n k).0 (sym found ∙ h))),
            (λ h. elim (cases_eq k key) [
              | inl a ↦ absurd (true≢false (sym (eq_from_same x.node n (new_node (record { key = k }) n h a)) ∙ e))
              | inr a ↦ found ∙ (agrees n k).1 (old_node (record { key = k }) n h a)
            ]),
          )

      by_test : (n : PoolNode) (k : ℕ) (b : Bool) → node_eq x.node n ≡ b → (get node_eq next n ≡ Some k) ↔ (node_at new (record { key = k }) ≡ Some n)
      by_test n k true e = at_new n k e
      by_test n k false e = at_old n k e

      pub IsIndexOf-inserted : IsIndexOf new next
      IsIndexOf-inserted n k = by_test n k (node_eq x.node n) refl

-- a node that the index does not find has no number
pub fresh_node : {S : Type 0} (pool : Slots) (index : IndexMap PoolNode ℕ S) (n : PoolNode) → IsIndexOf pool index → get node_eq index n ≡ None → (id : TreeId) → node_at pool id ≡ Some n → ⊥
fresh_node pool index n agrees none id e =
    let found : get node_eq index n ≡ Some id.key = (agrees n id.key).1 e in
    cc (none, found)

-- the second leaf has no number in a pool with the first alone
pub second_leaf : {S : Type 0} (old pool : Slots) (index : IndexMap PoolNode ℕ S) (id : TreeId) → IsIndexOf pool index → ((j : ℕ) → slot_at old j ≡ None)
    → node_at pool id ≡ Some (Leaf false) → AddsOnly old pool id → get node_eq index (Leaf true) ≡ None
second_leaf {S} old pool index id agrees none first only = by (get node_eq index (Leaf true)) refl
  where
    differ : Some (Leaf false) ≡ Some (Leaf true) → ⊥
    differ e = cc

    by : (o : Option ℕ) → get node_eq index (Leaf true) ≡ o → o ≡ None
    by None e = refl
    by (Some k) e =
        let at = (agrees (Leaf true) k).0 e in
        elim (only (record { key = k }) (Leaf true) at) [
          | inl same ↦ absurd (differ (sym first ∙ ap (node_at pool) (sym same) ∙ at))
          | inr before ↦
              let vacant : node_at old (record { key = k }) ≡ None = ap node_by (none k) in
              absurd (cc (vacant, before))
        ]
