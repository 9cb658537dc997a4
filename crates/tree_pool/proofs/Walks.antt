-- One step of a walk down a tree of a pool.
use Rattle.std.proofs.Common.{◌≡◌, ◌<◌, ℕ, zero, suc, max, Bool, List, Option, Some, None, ℤ, pos, negsuc, slice_get, refl, sym, ap, subst, ◌∙◌, arith}
use Rattle.spec_space.specs.declared.Point.{Point}
use Rattle.spec_space.specs.Points.{value}
use Rattle.plane_core.specs.Views.{plane_of}
use Rattle.plane_core.specs.Planes.{sign_of}
use Rattle.plane_core.specs.declared.numbers.Plane.{Plane}
use Rattle.plane_core.specs.declared.points.Sign.{Sign}
use Rattle.plane_core.specs.declared.points.Sign.TheVariants.{Front, On, Back}
use Rattle.plane_core.specs.declared.book.PlaneId.{PlaneId}
use Rattle.tree_pool.specs.declared.node.TreeId.{TreeId}
use Rattle.tree_pool.specs.declared.node.PoolNode.TheVariants.{Leaf, Node}
use Rattle.tree_pool.specs.Trees.{Tree, leaf, node, level_by, choose, value_of}
use Rattle.tree_pool.specs.Pools.{Slots, node_at, rank_at, IsLive, StandsFor, IsPool}
use Rattle.tree_pool.proofs.Pools.{built_at, leaf_is_no_node, same_plane, same_front, same_back, same_leaf}

abbrev pub by_sign : {X : Type 0} → Sign → Option X → Option X → Option X
by_sign Front a b = a
by_sign On a b = None
by_sign Back a b = b

choose_is : {X : Type 0} (v : ℤ) (a b : Option X) → choose v a b ≡ by_sign (sign_of v) a b
choose_is (pos zero) a b = refl
choose_is (pos (suc n)) a b = refl
choose_is (negsuc n) a b = refl

-- the choice at a plane, by the sign
pub turn_is : {X : Type 0} (planes : List Plane) (k : ℕ) (p : Plane) (s : Sign) (q : Point) (a b : Option X) → slice_get planes k ≡ Some p → s ≡ sign_of (value (plane_of p) q)
    → by_sign s a b ≡ choose (level_by (slice_get planes k) q) a b
turn_is planes k p s q a b at e =
    ap (λ x. by_sign x a b) e ∙ sym (choose_is (value (plane_of p) q) a b) ∙ sym (ap (λ o. choose (level_by o q) a b) at)

some_same : (a b : TreeId) → Some a ≡ Some b → a ≡ b
some_same a b e = cc

nowhere : (a : TreeId) → Some a ≡ None → ⊥
nowhere a e = cc

-- what stands at a node is a tree with its plane over what stands at its children
pub parts : (pool : Slots) (at : TreeId) (p : PlaneId) (i j : TreeId) → node_at pool at ≡ Some (Node p i j) → (t : Tree) → StandsFor pool at t
    → (f : Tree) × (g : Tree) × StandsFor pool i f × StandsFor pool j g × (t ≡ node p.k f g)
parts pool at p i j e (leaf b) s = absurd (leaf_is_no_node b p i j (sym s ∙ e))
parts pool at p i j e (node r f g) s =
    let both = sym s.2 ∙ e in
    let ep = ap (λ (x : PlaneId). x.k) (same_plane (record { k = r }) p s.0 s.1 i j both) in
    let ei = same_front (record { k = r }) p s.0 s.1 i j both in
    let ej = same_back (record { k = r }) p s.0 s.1 i j both in
    (f, g, subst (λ x. StandsFor pool x f) ei s.3, subst (λ x. StandsFor pool x g) ej s.4, ap (λ x. node x f g) ep)

module _ (pool : Slots) (planes : List Plane) (q : Point) where
  pick : (v : ℤ) (i j next : TreeId) (f g : Tree) → StandsFor pool i f → StandsFor pool j g → Some next ≡ choose v (Some i) (Some j)
      → (u : Tree) × StandsFor pool next u × (choose v (value_of planes f q) (value_of planes g q) ≡ value_of planes u q)
  pick (pos zero) i j next f g sf sg e = absurd (nowhere next e)
  pick (pos (suc m)) i j next f g sf sg e = (f, subst (λ x. StandsFor pool x f) (sym (some_same next i e)) sf, refl)
  pick (negsuc m) i j next f g sf sg e = (g, subst (λ x. StandsFor pool x g) (sym (some_same next j e)) sg, refl)

  pub walk_on : (at next : TreeId) (p : PlaneId) (i j : TreeId) → node_at pool at ≡ Some (Node p i j) → Some next ≡ choose (level_by (slice_get planes p.k) q) (Some i) (Some j)
      → (t : Tree) → StandsFor pool at t
      → (u : Tree) × StandsFor pool next u × (value_of planes t q ≡ value_of planes u q)
  walk_on at next p i j e choice t s =
      let m = parts pool at p i j e t s in
      let r = pick (level_by (slice_get planes p.k) q) i j next m.0 m.1 m.2 m.3 choice in
      (r.0, r.1, ap (λ x. value_of planes x q) m.4 ∙ r.2)

  pub walk_ends : (at : TreeId) (p : PlaneId) (i j : TreeId) → node_at pool at ≡ Some (Node p i j) → None ≡ choose (level_by (slice_get planes p.k) q) (Some i) (Some j)
      → (t : Tree) → StandsFor pool at t → None ≡ value_of planes t q
  walk_ends at p i j e choice t s =
      let m = parts pool at p i j e t s in
      no_way (level_by (slice_get planes p.k) q) (value_of planes m.0 q) (value_of planes m.1 q) choice ∙ sym (ap (λ x. value_of planes x q) m.4)
    where
      no_way : (v : ℤ) (a b : Option Bool) → None ≡ choose v (Some i) (Some j) → None ≡ choose v a b
      no_way (pos zero) a b e = refl
      no_way (pos (suc m)) a b e = absurd (nowhere i (sym e))
      no_way (negsuc m) a b e = absurd (nowhere j (sym e))

  -- what stands at a leaf is the leaf
  pub leaf_value : (at : TreeId) (b : Bool) → node_at pool at ≡ Some (Leaf b) → (t : Tree) → StandsFor pool at t → Some b ≡ value_of planes t q
  leaf_value at b e (leaf c) s = ap Some (same_leaf b c (sym e ∙ s))
  leaf_value at b e (node r f g) s = absurd (leaf_is_no_node b (record { k = r }) s.0 s.1 (sym e ∙ s.2))

-- the children of a node are live and lower
module _ (pool : Slots) (ok : IsPool pool) (at : TreeId) (p : PlaneId) (i j : TreeId) (e : node_at pool at ≡ Some (Node p i j)) where
  pub children : IsLive pool i × IsLive pool j × (i ≡ j → ⊥) × (rank_at pool at ≡ suc (max (rank_at pool i) (rank_at pool j)))
  children = built_at pool ok at (Node p i j) e

  on_live : (v : ℤ) (next : TreeId) → Some next ≡ choose v (Some i) (Some j) → IsLive pool next
  on_live (pos zero) next choice = absurd (nowhere next choice)
  on_live (pos (suc m)) next choice = subst (IsLive pool) (sym (some_same next i choice)) children.0
  on_live (negsuc m) next choice = subst (IsLive pool) (sym (some_same next j choice)) children.1

  lower_left : (r a b : ℕ) → r ≡ suc (max a b) → a < r
  lower_left r a b h = omega arith

  lower_right : (r a b : ℕ) → r ≡ suc (max a b) → b < r
  lower_right r a b h = omega arith

  on_lower : (v : ℤ) (next : TreeId) → Some next ≡ choose v (Some i) (Some j) → rank_at pool next < rank_at pool at
  on_lower (pos zero) next choice = absurd (nowhere next choice)
  on_lower (pos (suc m)) next choice = subst (λ x. rank_at pool x < rank_at pool at) (sym (some_same next i choice)) (lower_left (rank_at pool at) (rank_at pool i) (rank_at pool j) children.3)
  on_lower (negsuc m) next choice = subst (λ x. rank_at pool x < rank_at pool at) (sym (some_same next j choice)) (lower_right (rank_at pool at) (rank_at pool i) (rank_at pool j) children.3)

  pub next_live : (o : Option Plane) (q : Point) (next : TreeId) → Some next ≡ choose (level_by o q) (Some i) (Some j) → IsLive pool next
  next_live o q = on_live (level_by o q)

  pub next_lower : (o : Option Plane) (q : Point) (next : TreeId) → Some next ≡ choose (level_by o q) (Some i) (Some j) → rank_at pool next < rank_at pool at
  next_lower o q = on_lower (level_by o q)
