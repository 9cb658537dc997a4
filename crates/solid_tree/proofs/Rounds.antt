-- The trees of some solids, one after another, in a book and a pool that grow.
use Rattle.std.proofs.Common.{◌≡◌, ℕ, zero, suc, ◌+◌, ◌<◌, ◌≤◌, List, [], ◌∷◌, ◌++◌, map, length, get_or, take, refl, sym, ap, subst, ◌∙◌, arith, add-one}
use Rattle.std.specs.List.{Contains, flat_map}
use Rattle.std.proofs.lemmas.List.Elements.{Contains-append_left, Contains-append_right}
use Rattle.spec_space.specs.declared.Plane.{Plane}
use Rattle.spec_solid.specs.Solids.{is_inside}
use Rattle.spec_solid.specs.Planes.{solid_planes}
use Rattle.plane_core.specs.declared.numbers.Plane.{Plane as BookPlane}
use Rattle.grid_solid.specs.declared.nodes.GridNode.{GridNode}
use Rattle.grid_solid.specs.Views.{solid_of}
use Rattle.tree_pool.specs.declared.node.TreeId.{TreeId}
use Rattle.tree_pool.specs.Pools.{Slots, KeepsTrees}
use Rattle.triangle_trees.specs.Forms.{IsGrown}
use Rattle.grid_solid.specs.Counts.{plane_count}
use Rattle.triangle_trees.proofs.Grown.{grown_further}
use Rattle.solid_tree.specs.Unions.{HasTree, HaveTrees}
use Rattle.grid_solid.specs.Counts.{all_planes_count}
use Rattle.solid_tree.proofs.Trees.{tree_wider}
use Rattle.solid_tree.proofs.Lists.{have_kept, have_push}
use Rattle.solid_tree.proofs.UnionLaws.{insides}

abbrev pub planes_in : List GridNode → List Plane
planes_in ns = flat_map solid_planes (map solid_of ns)

abbrev pub count_in : List GridNode → ℕ
count_in ns = all_planes_count (map solid_of ns)

-- ---- one solid more
taken_one : (ns : List GridNode) (i : ℕ) (n : GridNode) → i < length ns → n ≡ get_or ns i n → take (suc i) ns ≡ take i ns ++ n ∷ []
taken_one [] i n h e = absurd (omega arith)
taken_one (x ∷ xs) zero n h e = ap (λ y. y ∷ []) (sym e)
taken_one (x ∷ xs) (suc i) n h e = ap (λ ys. x ∷ ys) (taken_one xs i n (omega arith) e)

pub taken : (ns : List GridNode) (i : ℕ) (n : GridNode) → i < length ns → n ≡ get_or ns i n → take (i + 1) ns ≡ take i ns ++ n ∷ []
taken ns i n h e = rw add-one (taken_one ns i n h e)

insides_push : (ns : List GridNode) (n : GridNode) → insides (ns ++ n ∷ []) ≡ insides ns ++ is_inside (solid_of n) ∷ []
insides_push [] n = refl
insides_push (x ∷ xs) n = ap (λ ys. is_inside (solid_of x) ∷ ys) (insides_push xs n)

count_push : (ns : List GridNode) (n : GridNode) → count_in (ns ++ n ∷ []) ≡ count_in ns + plane_count (solid_of n)
count_push [] n = omega arith
count_push (x ∷ xs) n = let h = count_push xs n in omega arith

pub count_most : (ns : List GridNode) (i : ℕ) → count_in (take i ns) ≤ count_in ns
count_most [] zero = omega arith
count_most [] (suc i) = omega arith
count_most (x ∷ xs) zero = omega arith
count_most (x ∷ xs) (suc i) = let h = count_most xs i in omega arith

pub count_next : (ns : List GridNode) (i : ℕ) (n : GridNode) → i < length ns → n ≡ get_or ns i n → count_in (take (i + 1) ns) ≡ count_in (take i ns) + plane_count (solid_of n)
count_next ns i n h e = ap count_in (taken ns i n h e) ∙ count_push (take i ns) n

pub room_for : (ns : List GridNode) (i : ℕ) (n : GridNode) → i < length ns → n ≡ get_or ns i n → count_in (take i ns) + plane_count (solid_of n) ≤ count_in ns
room_for ns i n h e = let k = count_next ns i n h e in let m = count_most ns (i + 1) in omega arith

pub all_taken : (ns : List GridNode) (i : ℕ) → length ns ≤ i → take i ns ≡ ns
all_taken [] zero h = refl
all_taken [] (suc i) h = refl
all_taken (x ∷ xs) zero h = absurd (omega arith)
all_taken (x ∷ xs) (suc i) h = ap (λ ys. x ∷ ys) (all_taken xs i (omega arith))

-- ---- its planes are among those of all
planes_of_one : (ns : List GridNode) (i : ℕ) (n : GridNode) → i < length ns → n ≡ get_or ns i n → (k : Plane) → Contains (solid_planes (solid_of n)) k → Contains (planes_in ns) k
planes_of_one [] i n h e k c = absurd (omega arith)
planes_of_one (x ∷ xs) zero n h e k c = Contains-append_left (solid_planes (solid_of x)) (planes_in xs) k (subst (λ y. Contains (solid_planes (solid_of y)) k) e c)
planes_of_one (x ∷ xs) (suc i) n h e k c = Contains-append_right (solid_planes (solid_of x)) (planes_in xs) k (planes_of_one xs i n (omega arith) e k c)

-- ---- a round
pub trees_next : (m : ℕ) (ns : List GridNode) (i : ℕ) (n : GridNode) → i < length ns → n ≡ get_or ns i n
    → (old new : List BookPlane) (before after : Slots) → IsGrown m old new → KeepsTrees before after → (ids : List TreeId) (id : TreeId)
    → HaveTrees before old (planes_in ns) (insides (take i ns)) ids → HasTree after new (solid_planes (solid_of n)) (is_inside (solid_of n)) id
    → HaveTrees after new (planes_in ns) (insides (take (i + 1) ns)) (ids ++ id ∷ [])
trees_next m ns i n h e old new before after grown kept ids id have has =
    subst (λ fs. HaveTrees after new (planes_in ns) fs (ids ++ id ∷ [])) (sym (ap insides (taken ns i n h e) ∙ insides_push (take i ns) n))
    (have_push after new (planes_in ns) (insides (take i ns)) ids (is_inside (solid_of n)) id
    (have_kept m old new before after grown kept (planes_in ns) (insides (take i ns)) ids have)
    (has.0, has.1, tree_wider new (solid_planes (solid_of n)) (planes_in ns) (planes_of_one ns i n h e) (is_inside (solid_of n)) has.0 has.2))

pub grown_next : (ns : List GridNode) (i : ℕ) (n : GridNode) → i < length ns → n ≡ get_or ns i n → (a b c : List BookPlane) → IsGrown (count_in (take i ns)) a b → IsGrown (plane_count (solid_of n)) b c → IsGrown (count_in (take (i + 1) ns)) a c
grown_next ns i n h e a b c p q = let k = count_next ns i n h e in grown_further (count_in (take i ns)) (plane_count (solid_of n)) (count_in (take (i + 1) ns)) a b c (omega arith) p q
