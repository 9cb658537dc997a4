-- What a live number stands for.
use Rattle.std.proofs.Common.{◌≡◌, ◌<◌, ℕ, zero, suc, Bool, Option, Some, None, IsSome, max, refl, sym, ap, subst, ◌∙◌, arith}
use Rattle.plane_core.specs.declared.book.PlaneId.{PlaneId}
use Rattle.tree_pool.specs.declared.node.TreeId.{TreeId}
use Rattle.tree_pool.specs.declared.node.Slot.{Slot}
use Rattle.tree_pool.specs.declared.node.PoolNode.{PoolNode}
use Rattle.tree_pool.specs.declared.node.PoolNode.TheVariants.{Leaf, Node}
use Rattle.tree_pool.specs.Trees.{Tree, leaf, node, height_of}
use Rattle.tree_pool.specs.Pools.{Slots, slot_at, node_by, rank_by, node_at, rank_at, IsLive, StandsFor, KeepsTrees, KeepsNodes, IsBuilt, IsPool, AreTrees, live_count}

pub node_slot : (o : Option Slot) (n : PoolNode) → node_by o ≡ Some n → (s : Slot) × (o ≡ Some s) × (s.node ≡ n)
node_slot None n e = absurd (cc)
node_slot (Some s) n e = (s, refl, cc)

pub live_slot : (o : Option Slot) → IsSome o → (s : Slot) × (o ≡ Some s)
live_slot None h = absurd (cc)
live_slot (Some s) h = (s, refl)

pub slot_live : (o : Option Slot) (s : Slot) → o ≡ Some s → IsSome o
slot_live o s e = rw e refl

pub same_leaf : (b c : Bool) → Some (Leaf b) ≡ Some (Leaf c) → b ≡ c
same_leaf b c e = cc

pub leaf_is_no_node : (b : Bool) (p : PlaneId) (i j : TreeId) → Some (Leaf b) ≡ Some (Node p i j) → ⊥
leaf_is_no_node b p i j e = cc

pub same_plane : (p q : PlaneId) (i j k l : TreeId) → Some (Node p i j) ≡ Some (Node q k l) → p ≡ q
same_plane p q i j k l e = cc

pub same_front : (p q : PlaneId) (i j k l : TreeId) → Some (Node p i j) ≡ Some (Node q k l) → i ≡ k
same_front p q i j k l e = cc

pub same_back : (p q : PlaneId) (i j k l : TreeId) → Some (Node p i j) ≡ Some (Node q k l) → j ≡ l
same_back p q i j k l e = cc

below_left : (rank n a b : ℕ) → rank ≡ suc (max a b) → rank < suc n → a < n
below_left rank n a b e h = omega arith

below_right : (rank n a b : ℕ) → rank ≡ suc (max a b) → rank < suc n → b < n
below_right rank n a b e h = omega arith

-- ---- each live number has a tree
build_tree : (pool : Slots) (n rank : ℕ) (id : TreeId) → rank < suc n
    → ((j : TreeId) (u : Slot) → slot_at pool j.key ≡ Some u → u.rank < n → (t : Tree) × StandsFor pool j t)
    → (m : PoolNode) → node_at pool id ≡ Some m → IsBuilt pool rank m → (t : Tree) × StandsFor pool id t
build_tree pool n rank id h below (Leaf b) e built = (leaf b, e)
build_tree pool n rank id h below (Node p i j) e built =
    let u = live_slot (slot_at pool i.key) built.0 in
    let v = live_slot (slot_at pool j.key) built.1 in
    let f = below i u.0 u.1 (subst (λ r. r < n) (ap rank_by u.1) (below_left rank n (rank_at pool i) (rank_at pool j) built.3 h)) in
    let g = below j v.0 v.1 (subst (λ r. r < n) (ap rank_by v.1) (below_right rank n (rank_at pool i) (rank_at pool j) built.3 h)) in
    (node p.k f.0 g.0, (i, j, e, f.1, g.1))

tree_below : (pool : Slots) → IsPool pool → (n : ℕ) (id : TreeId) (s : Slot) → slot_at pool id.key ≡ Some s → s.rank < n → (t : Tree) × StandsFor pool id t
tree_below pool ok zero id s e h = absurd (omega arith)
tree_below pool ok (suc n) id s e h = build_tree pool n s.rank id h (tree_below pool ok n) s.node (ap node_by e) (ok.built id s e)

pub tree_of : (pool : Slots) → IsPool pool → (id : TreeId) → IsLive pool id → (t : Tree) × StandsFor pool id t
tree_of pool ok id live =
    let s = live_slot (slot_at pool id.key) live in
    tree_below pool ok (suc s.0.rank) id s.0 s.1 (omega arith)

-- ---- and one tree only
pub one_tree : (pool : Slots) (t u : Tree) (id : TreeId) → StandsFor pool id t → StandsFor pool id u → t ≡ u
one_tree pool (leaf b) (leaf c) id s w = ap leaf (same_leaf b c (sym s ∙ w))
one_tree pool (leaf b) (node q h k) id s w = absurd (leaf_is_no_node b (record { k = q }) w.0 w.1 (sym s ∙ w.2))
one_tree pool (node p f g) (leaf c) id s w = absurd (leaf_is_no_node c (record { k = p }) s.0 s.1 (sym w ∙ s.2))
one_tree pool (node p f g) (node q h k) id s w =
    let e = sym s.2 ∙ w.2 in
    let ep = ap (λ (x : PlaneId). x.k) (same_plane (record { k = p }) (record { k = q }) s.0 s.1 w.0 w.1 e) in
    let ei = same_front (record { k = p }) (record { k = q }) s.0 s.1 w.0 w.1 e in
    let ej = same_back (record { k = p }) (record { k = q }) s.0 s.1 w.0 w.1 e in
    let ef = one_tree pool f h s.0 s.3 (subst (λ i. StandsFor pool i h) (sym ei) w.3) in
    let eg = one_tree pool g k s.1 s.4 (subst (λ i. StandsFor pool i k) (sym ej) w.4) in
    λ t. node (ep t) (ef t) (eg t)

-- ---- no tree has two numbers
pub one_number : (pool : Slots) → IsPool pool → (t : Tree) (i j : TreeId) → StandsFor pool i t → StandsFor pool j t → i ≡ j
one_number pool ok (leaf b) i j s w = ok.one_number (Leaf b) i j s w
one_number pool ok (node p f g) i j s w =
    let ef = one_number pool ok f s.0 w.0 s.3 w.3 in
    let eg = one_number pool ok g s.1 w.1 s.4 w.4 in
    ok.one_number (Node (record { k = p }) s.0 s.1) i j s.2 (w.2 ∙ (λ t. Some (Node (record { k = p }) (sym ef t) (sym eg t))))

pub live_node : (pool : Slots) (id : TreeId) (n : PoolNode) → node_at pool id ≡ Some n → IsLive pool id
live_node pool id n e = let s = node_slot (slot_at pool id.key) n e in slot_live (slot_at pool id.key) s.0 s.1

pub stands_live : (pool : Slots) (id : TreeId) (t : Tree) → StandsFor pool id t → IsLive pool id
stands_live pool id (leaf b) s = live_node pool id (Leaf b) s
stands_live pool id (node p f g) s = live_node pool id (Node (record { k = p }) s.0 s.1) s.2

-- ---- the rank of a number is the height of its tree
pub built_at : (pool : Slots) → IsPool pool → (id : TreeId) (n : PoolNode) → node_at pool id ≡ Some n → IsBuilt pool (rank_at pool id) n
built_at pool ok id n e =
    let s = node_slot (slot_at pool id.key) n e in
    let here : IsBuilt pool s.0.rank n = subst (IsBuilt pool s.0.rank) s.2 (ok.built id s.0 s.1) in
    subst (λ r. IsBuilt pool r n) (sym (ap rank_by s.1)) here

rank_is : (pool : Slots) → IsPool pool → (t : Tree) (id : TreeId) → StandsFor pool id t → rank_at pool id ≡ height_of t
rank_is pool ok (leaf b) id s = built_at pool ok id (Leaf b) s
rank_is pool ok (node p f g) id s =
    let built = built_at pool ok id (Node (record { k = p }) s.0 s.1) s.2 in
    let left = rank_is pool ok f s.0 s.3 in
    let right = rank_is pool ok g s.1 s.4 in
    built.3 ∙ (λ t. suc (max (left t) (right t)))

rank_low : (pool : Slots) → IsPool pool → (id : TreeId) → IsLive pool id → rank_at pool id < live_count pool
rank_low pool ok id live =
    let s = live_slot (slot_at pool id.key) live in
    subst (λ r. r < live_count pool) (sym (ap rank_by s.1)) (ok.low id s.0 s.1)

pub trees_of_pool : (pool : Slots) → IsPool pool → AreTrees pool
trees_of_pool pool ok = record {
  tree = tree_of pool ok;
  one_tree = λ id t u. one_tree pool t u id;
  one_number = λ i j t. one_number pool ok t i j;
  live = stands_live pool;
  height = λ id t. rank_is pool ok t id;
  low = rank_low pool ok;
}

-- ---- trees are kept with their nodes
pub trees_kept : (old new : Slots) → KeepsNodes old new → KeepsTrees old new
trees_kept old new kept id (leaf b) s = kept id (Leaf b) s
trees_kept old new kept id (node p f g) s = (s.0, s.1, kept id (Node (record { k = p }) s.0 s.1) s.2, trees_kept old new kept s.0 f s.3, trees_kept old new kept s.1 g s.4)

pub live_kept : (old new : Slots) → KeepsNodes old new → (id : TreeId) → IsLive old id → IsLive new id
live_kept old new kept id live =
    let s = live_slot (slot_at old id.key) live in
    live_node new id s.0.node (kept id s.0.node (ap node_by s.1))
