-- Trees that tell meanings: in a pool and a book that have grown, and merged.
use Rattle.std.proofs.Common.{◌≡◌, ℕ, Bool, true, false, List, Some, refl, ap, ◌∙◌, inl, inr}
use Rattle.std.specs.Prelude.{Result, Ok, Err, IfOk}
use Rattle.std.specs.List.{Contains}
use Rattle.std.specs.declared.alloc.AllocError.{AllocError}
use Rattle.spec_space.specs.declared.Point.{Point}
use Rattle.spec_space.specs.declared.Plane.{Plane}
use Rattle.spec_solid.specs.declared.BoolOp.{BoolOp}
use Rattle.spec_solid.specs.declared.BoolOp.TheVariants.{Union, Intersection, Difference}
use Rattle.spec_solid.specs.Solids.{truth}
use Rattle.plane_core.specs.declared.numbers.Plane.{Plane as BookPlane}
use Rattle.tree_pool.specs.declared.node.TreeId.{TreeId}
use Rattle.tree_pool.specs.Trees.{Tree, IsOff}
use Rattle.tree_pool.specs.Pools.{Slots, StandsFor, IsLive, KeepsTrees, AreTrees}
use Rattle.tree_pool.proofs.Laws.{value_kept}
use Rattle.tree_merge.specs.declared.table.Table4.{Table4}
use Rattle.tree_merge.specs.Tables.{entry, entry_of, IsMergeOf}
use Rattle.triangle_trees.specs.Forms.{IsGrown, IsOffAll, IsTreeOf}
use Rattle.triangle_trees.proofs.Grown.{form_kept, form_same}
use Rattle.triangle_trees.proofs.Wholes.{off_level}
use Rattle.solid_tree.specs.Unions.{HasTree}

pub tree_kept : (n : ℕ) (old new : List BookPlane) → IsGrown n old new → (ks : List Plane) (told : Point → Bool) (t : Tree) → IsTreeOf old ks told t → IsTreeOf new ks told t
tree_kept n old new grown ks told t is = record {
  value = λ q point cube off. value_kept old new t q (λ k i. form_same n old new grown ks k (is.among k i)) ∙ is.value q point cube off;
  among = λ k i. form_kept n old new grown ks k (is.among k i);
}

pub tree_wider : (planes : List BookPlane) (ks ls : List Plane) → ((k : Plane) → Contains ks k → Contains ls k) → (told : Point → Bool) (t : Tree) → IsTreeOf planes ks told t → IsTreeOf planes ls told t
tree_wider planes ks ls more told t is = record {
  value = λ q point cube off. is.value q point cube (λ k c. off k (more k c));
  among = λ k i. let f = is.among k i in (f.0, f.1, f.2, more f.1 f.3, f.4);
}

pub tree_same : (planes : List BookPlane) (ks : List Plane) (told said : Point → Bool) → ((q : Point) → told q ≡ said q) → (t : Tree) → IsTreeOf planes ks told t → IsTreeOf planes ks said t
tree_same planes ks told said same t is = record {
  value = λ q point cube off. is.value q point cube off ∙ ap Some (same q);
  among = is.among;
}

off_tree : (planes : List BookPlane) (ks : List Plane) (told : Point → Bool) (t : Tree) → IsTreeOf planes ks told t → (q : Point) → IsOffAll ks q → IsOff planes t q
off_tree planes ks told t is q off k i = off_level planes ks k q (is.among k i) off

pub merge_tells : (planes : List BookPlane) (ks : List Plane) (p q : Point → Bool) (operator : BoolOp) (table : Table4) → ((x y : Bool) → entry table x y ≡ truth operator x y)
    → (f g t : Tree) → IsTreeOf planes ks p f → IsTreeOf planes ks q g → IsMergeOf planes table f g t → IsTreeOf planes ks (λ x. truth operator (p x) (q x)) t
merge_tells planes ks p q operator table is_table f g t first second merged = record {
  value = λ x point cube off.
      merged.value x point cube (off_tree planes ks p f first x off) (off_tree planes ks q g second x off)
      ∙ (λ i. entry_of table (first.value x point cube off i) (second.value x point cube off i))
      ∙ ap Some (is_table (p x) (q x));
  among = λ k i. elim (merged.among k i) [ inl j ↦ first.among k j | inr j ↦ second.among k j ];
}

-- a number keeps its tree
pub has_kept : (n : ℕ) (old new : List BookPlane) (before after : Slots) → IsGrown n old new → KeepsTrees before after → (ks : List Plane) (told : Point → Bool) (id : TreeId) → HasTree before old ks told id → HasTree after new ks told id
has_kept n old new before after grown kept ks told id h = (h.0, kept id h.0 h.1, tree_kept n old new grown ks told h.0 h.2)

-- the number of the tree that a call made
pub has_made : (pool : Slots) (planes : List BookPlane) (ks : List Plane) (told : Point → Bool) (id : TreeId) → AreTrees pool → IsLive pool id → ((t : Tree) → StandsFor pool id t → IsTreeOf planes ks told t) → HasTree pool planes ks told id
has_made pool planes ks told id ok live is = let t = ok.tree id live in (t.0, t.1, is t.0 t.1)

-- the number of a merge tells what the operator makes
pub merged_has : (planes : List BookPlane) (old new : Slots) (a b : TreeId) (operator : BoolOp) (table : Table4) (r : Result TreeId AllocError) → ((x y : Bool) → entry table x y ≡ truth operator x y) → AreTrees new
    → IfOk r (IsLive new) → IfOk r (λ id. (f g t : Tree) → StandsFor old a f → StandsFor old b g → StandsFor new id t → IsMergeOf planes table f g t)
    → IfOk r (λ id. (ks : List Plane) (p q : Point → Bool) → HasTree old planes ks p a → HasTree old planes ks q b → HasTree new planes ks (λ x. truth operator (p x) (q x)) id)
merged_has planes old new a b operator table (Ok id) is_table ok live merged = λ ks p q first second.
    let t = ok.tree id live in
    (t.0, t.1, merge_tells planes ks p q operator table is_table first.0 second.0 t.0 first.2 second.2 (merged first.0 second.0 t.0 first.1 second.1 t.1))
merged_has planes old new a b operator table (Err e) is_table ok live merged = tt

-- ---- the tables of the operators
pub union_table : (p q : Bool) → entry (record { both = true; first_only = true; second_only = true; neither = false }) p q ≡ truth Union p q
union_table true true = refl
union_table true false = refl
union_table false true = refl
union_table false false = refl

pub intersection_table : (p q : Bool) → entry (record { both = true; first_only = false; second_only = false; neither = false }) p q ≡ truth Intersection p q
intersection_table true true = refl
intersection_table true false = refl
intersection_table false true = refl
intersection_table false false = refl

pub difference_table : (p q : Bool) → entry (record { both = false; first_only = true; second_only = false; neither = false }) p q ≡ truth Difference p q
difference_table true true = refl
difference_table true false = refl
difference_table false true = refl
difference_table false false = refl
