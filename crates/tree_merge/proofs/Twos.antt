-- How the merge of two trees begins, by their tops.
use Rattle.std.proofs.Common.{◌≡◌, ◌+◌, ◌<◌, ℕ, Bool, true, false, Some, List, refl, sym, ap, subst, ◌∙◌, inl, inr, arith}
use Rattle.plane_core.specs.declared.numbers.Plane.{Plane}
use Rattle.plane_core.specs.declared.book.PlaneId.{PlaneId}
use Rattle.tree_pool.specs.declared.node.TreeId.{TreeId}
use Rattle.tree_pool.specs.declared.node.PoolNode.TheVariants.{Leaf, Node}
use Rattle.tree_pool.specs.Trees.{Tree, leaf, node, value_of}
use Rattle.tree_pool.specs.Pools.{Slots, node_at, rank_at, AreTrees}
use Rattle.tree_pool.proofs.Overs.{over_node}
use Rattle.tree_pool.proofs.Laws.{has_value, opened}
use Rattle.tree_merge.specs.declared.table.Table4.{Table4}
use Rattle.tree_merge.specs.declared.work.Pair.{Pair}
use Rattle.tree_merge.specs.declared.work.Next.TheVariants.{Settled}
use Rattle.tree_merge.specs.Tables.{entry, entry_of}
use Rattle.tree_merge.specs.Works.{Two, IsPlaneOfTwo, StandForTwo, IsTwoOn, IsFront, IsBack, IsDivided, IsNext}

abbrev two : Tree → Tree → Two
two f g = record { first = f; second = g }

-- ---- walking down the first tree
module _ (table : Table4) (k : ℕ) (f g s : Tree) (planes : List Plane) where
  first_front : IsTwoOn planes table (IsFront planes k) (two (node k f g) s) (two f s)
  first_front = record {
    value = λ q off side. ap (λ o. entry_of table o (value_of planes s q)) ((over_node k f g (node k f g) refl).in_front planes q side);
    among = λ h is. elim is [ inl i ↦ inl (inr (inl i)) | inr i ↦ inr i ];
  }

  first_back : IsTwoOn planes table (IsBack planes k) (two (node k f g) s) (two g s)
  first_back = record {
    value = λ q off side. ap (λ o. entry_of table o (value_of planes s q)) ((over_node k f g (node k f g) refl).behind planes q side);
    among = λ h is. elim is [ inl i ↦ inl (inr (inr i)) | inr i ↦ inr i ];
  }

  second_front : IsTwoOn planes table (IsFront planes k) (two s (node k f g)) (two s f)
  second_front = record {
    value = λ q off side. ap (λ o. entry_of table (value_of planes s q) o) ((over_node k f g (node k f g) refl).in_front planes q side);
    among = λ h is. elim is [ inl i ↦ inl i | inr i ↦ inr (inr (inl i)) ];
  }

  second_back : IsTwoOn planes table (IsBack planes k) (two s (node k f g)) (two s g)
  second_back = record {
    value = λ q off side. ap (λ o. entry_of table (value_of planes s q) o) ((over_node k f g (node k f g) refl).behind planes q side);
    among = λ h is. elim is [ inl i ↦ inl i | inr i ↦ inr (inr (inr i)) ];
  }

lower_first : (a n c : ℕ) → a < n → a + c < n + c
lower_first a n c h = omega arith

lower_second : (a n c : ℕ) → a < n → c + a < c + n
lower_second a n c h = omega arith

module _ (pool : Slots) (ok : AreTrees pool) (table : Table4) (pair : Pair) (p : PlaneId) (i j : TreeId) (w : Two) (stand : StandForTwo pool pair w) where
  pub divided_first : node_at pool pair.first ≡ Some (Node p i j)
      → IsDivided pool table pair w p.k (record { first = i; second = pair.second }) (record { first = j; second = pair.second })
  divided_first e =
      let o = opened pool ok pair.first p i j e w.first stand.0 in
      let back : two (node p.k o.front o.back) w.second ≡ w = ap (λ t. two t w.second) (sym o.whole) in
      record {
        in_front = two o.front w.second;
        behind = two o.back w.second;
        front_stand = (o.front_stands, stand.1);
        back_stand = (o.back_stands, stand.1);
        front_part = λ planes. subst (λ x. IsTwoOn planes table (IsFront planes p.k) x (two o.front w.second)) back (first_front table p.k o.front o.back w.second planes);
        back_part = λ planes. subst (λ x. IsTwoOn planes table (IsBack planes p.k) x (two o.back w.second)) back (first_back table p.k o.front o.back w.second planes);
        is_plane = subst (IsPlaneOfTwo p.k) back (inl (inl refl));
        front_lower = lower_first (rank_at pool i) (rank_at pool pair.first) (rank_at pool pair.second) o.front_lower;
        back_lower = lower_first (rank_at pool j) (rank_at pool pair.first) (rank_at pool pair.second) o.back_lower;
      }

  pub divided_second : node_at pool pair.second ≡ Some (Node p i j)
      → IsDivided pool table pair w p.k (record { first = pair.first; second = i }) (record { first = pair.first; second = j })
  divided_second e =
      let o = opened pool ok pair.second p i j e w.second stand.1 in
      let back : two w.first (node p.k o.front o.back) ≡ w = ap (λ t. two w.first t) (sym o.whole) in
      record {
        in_front = two w.first o.front;
        behind = two w.first o.back;
        front_stand = (stand.0, o.front_stands);
        back_stand = (stand.0, o.back_stands);
        front_part = λ planes. subst (λ x. IsTwoOn planes table (IsFront planes p.k) x (two w.first o.front)) back (second_front table p.k o.front o.back w.first planes);
        back_part = λ planes. subst (λ x. IsTwoOn planes table (IsBack planes p.k) x (two w.first o.back)) back (second_back table p.k o.front o.back w.first planes);
        is_plane = subst (IsPlaneOfTwo p.k) back (inr (inl refl));
        front_lower = lower_second (rank_at pool i) (rank_at pool pair.second) (rank_at pool pair.first) o.front_lower;
        back_lower = lower_second (rank_at pool j) (rank_at pool pair.second) (rank_at pool pair.first) o.back_lower;
      }

-- ---- where the other tree changes nothing
row_same : (table : Table4) (x y : Bool) → entry table x true ≡ entry table x false → entry table x y ≡ entry table x true
row_same table x true e = refl
row_same table x false e = sym e

column_same : (table : Table4) (x y : Bool) → entry table true y ≡ entry table false y → entry table x y ≡ entry table true y
column_same table true y e = refl
column_same table false y e = sym e

module _ (pool : Slots) (table : Table4) (pair : Pair) (w : Two) where
  pub settled_row : (x : Bool) → w.first ≡ leaf x → entry table x true ≡ entry table x false → (v : Bool) → v ≡ entry table x true → IsNext pool table pair w (Settled v)
  settled_row x e settled v is planes q off =
      let y = has_value planes w.second q off.1 in
      (λ i. entry_of table (value_of planes (e i) q) (y.1 i)) ∙ ap Some (row_same table x y.0 settled ∙ sym is)

  pub settled_column : (y : Bool) → w.second ≡ leaf y → entry table true y ≡ entry table false y → (v : Bool) → v ≡ entry table true y → IsNext pool table pair w (Settled v)
  settled_column y e settled v is planes q off =
      let x = has_value planes w.first q off.0 in
      (λ i. entry_of table (x.1 i) (value_of planes (e i) q)) ∙ ap Some (column_same table x.0 y settled ∙ sym is)

  pub settled_both : (x y : Bool) → w.first ≡ leaf x → w.second ≡ leaf y → (v : Bool) → v ≡ entry table x y → IsNext pool table pair w (Settled v)
  settled_both x y e f v is planes q off = (λ i. entry_of table (value_of planes (e i) q) (value_of planes (f i) q)) ∙ ap Some (sym is)

-- ---- leaves
module _ (pool : Slots) (ok : AreTrees pool) (pair : Pair) (w : Two) (stand : StandForTwo pool pair w) where
  pub leaf_first : (x : Bool) → node_at pool pair.first ≡ Some (Leaf x) → w.first ≡ leaf x
  leaf_first x e = ok.one_tree pair.first w.first (leaf x) stand.0 e

  pub leaf_second : (y : Bool) → node_at pool pair.second ≡ Some (Leaf y) → w.second ≡ leaf y
  leaf_second y e = ok.one_tree pair.second w.second (leaf y) stand.1 e
