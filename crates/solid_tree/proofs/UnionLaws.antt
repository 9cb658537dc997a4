-- Unions of solids, their planes and their meanings; nodes by their variants.
use Rattle.std.proofs.Common.{◌≡◌, ◌+◌, Bool, List, [], ◌∷◌, ◌++◌, map, refl, sym, ap, ap₂, subst, ◌∙◌, arith}
use Rattle.std.specs.Prelude.{◌||◌, Result, Ok, Err, IfOk}
use Rattle.std.specs.declared.alloc.AllocError.{AllocError}
use Rattle.std.proofs.lemmas.List.Elements.{Contains-append_left, Contains-append_right}
use Rattle.std.specs.List.{flat_map}
use Rattle.spec_space.specs.declared.Point.{Point}
use Rattle.spec_space.specs.declared.Plane.{Plane}
use Rattle.spec_solid.specs.declared.BoolOp.{BoolOp}
use Rattle.spec_solid.specs.Solids.{Solid, truth, is_inside, is_inside_some}
use Rattle.spec_solid.specs.Solids as solids
use Rattle.spec_solid.specs.Planes.{solid_planes}
use Rattle.grid_solid.specs.declared.nodes.GridNode.{GridNode}
use Rattle.grid_solid.specs.declared.nodes.GridNode.TheVariants.{Combined, Union}
use Rattle.grid_solid.specs.Shapes.{union_of, shape_solid}
use Rattle.grid_solid.specs.Views.{shape_of, solid_of}
use Rattle.grid_solid.proofs.Folds.{shape-Combined, shape-Union}
use Rattle.grid_solid.specs.Counts.{plane_count}
use Rattle.plane_core.specs.declared.numbers.Plane.{Plane as BookPlane}
use Rattle.tree_pool.specs.declared.node.TreeId.{TreeId}
use Rattle.tree_pool.specs.Pools.{Slots}
use Rattle.triangle_trees.specs.Forms.{IsTreeOf}
use Rattle.solid_tree.proofs.Trees.{tree_same, tree_wider}
use Rattle.solid_tree.specs.Unions.{HasTree, HaveTrees, AreUnited, some_told}
use Rattle.grid_solid.specs.Counts.{all_planes_count}

-- ---- the union of some shapes
abbrev pub union_solid : List GridNode → Solid
union_solid ns = shape_solid (union_of (map shape_of ns))

pub union_inside : (ns : List GridNode) (q : Point) → is_inside (union_solid ns) q ≡ is_inside_some (map solid_of ns) q
union_inside [] q = refl
union_inside (n ∷ ns) q = ap (λ b. is_inside (solid_of n) q || b) (union_inside ns q)

pub union_planes : (ns : List GridNode) → solid_planes (union_solid ns) ≡ flat_map solid_planes (map solid_of ns)
union_planes [] = refl
union_planes (n ∷ ns) = ap (λ ks. solid_planes (solid_of n) ++ ks) (union_planes ns)

pub union_count : (ns : List GridNode) → plane_count (union_solid ns) ≡ all_planes_count (map solid_of ns)
union_count [] = omega arith
union_count (n ∷ ns) = ap (λ k. plane_count (solid_of n) + k) (union_count ns)

abbrev pub insides : List GridNode → List (Point → Bool)
insides ns = map (λ n. is_inside (solid_of n)) ns

pub some_inside : (ns : List GridNode) (q : Point) → some_told (insides ns) q ≡ is_inside_some (map solid_of ns) q
some_inside [] q = refl
some_inside (n ∷ ns) q = ap (λ b. is_inside (solid_of n) q || b) (some_inside ns q)

-- ---- nodes by their variants
pub solid_union : (node : GridNode) (parts : List GridNode) → node ≡ Union parts → solid_of node ≡ union_solid parts
solid_union node parts e = ap solid_of e ∙ ap shape_solid (shape-Union parts)

pub solid_combined : (node : GridNode) (operator : BoolOp) (first second f s : GridNode) → node ≡ Combined operator first second → f ≡ first → s ≡ second → solid_of node ≡ solids.Combined operator (solid_of f) (solid_of s)
solid_combined node operator first second f s e p q =
    ap solid_of e ∙ ap shape_solid (shape-Combined operator first second) ∙ ap₂ (λ x y. solids.Combined operator (solid_of x) (solid_of y)) (sym p) (sym q)

-- ---- the trees of nodes
pub node_combined : (pool : Slots) (planes : List BookPlane) (node f s : GridNode) (operator : BoolOp) (id : TreeId) → solid_of node ≡ solids.Combined operator (solid_of f) (solid_of s)
    → HasTree pool planes (solid_planes (solid_of f) ++ solid_planes (solid_of s)) (λ x. truth operator (is_inside (solid_of f) x) (is_inside (solid_of s) x)) id
    → HasTree pool planes (solid_planes (solid_of node)) (is_inside (solid_of node)) id
node_combined pool planes node f s operator id e h = subst (λ w. HasTree pool planes (solid_planes w) (is_inside w) id) (sym e) h

pub node_union : (pool : Slots) (planes : List BookPlane) (node : GridNode) (parts : List GridNode) (id : TreeId) → solid_of node ≡ union_solid parts
    → HasTree pool planes (flat_map solid_planes (map solid_of parts)) (is_inside_some (map solid_of parts)) id
    → HasTree pool planes (solid_planes (solid_of node)) (is_inside (solid_of node)) id
node_union pool planes node parts id e h =
    subst (λ w. HasTree pool planes (solid_planes w) (is_inside w) id) (sym e)
    (h.0, h.1, subst (λ ks. IsTreeOf planes ks (is_inside (union_solid parts)) h.0) (sym (union_planes parts)) (tree_same planes (flat_map solid_planes (map solid_of parts)) (is_inside_some (map solid_of parts)) (is_inside (union_solid parts)) (λ q. sym (union_inside parts q)) h.0 h.2))

-- all the trees of some solids, united
pub all_united : (pool : Slots) (planes : List BookPlane) (ns : List GridNode) (ids : List TreeId) → HaveTrees pool planes (flat_map solid_planes (map solid_of ns)) (insides ns) ids
    → AreUnited pool planes (flat_map solid_planes (map solid_of ns)) (is_inside_some (map solid_of ns)) ids
all_united pool planes ns ids h = (insides ns, h, some_inside ns)

-- the number of what an operator makes of the solids of two nodes
pub combined_node : (old new : Slots) (planes : List BookPlane) (node f s : GridNode) (operator : BoolOp) (first second : TreeId) (r : Result TreeId AllocError) → solid_of node ≡ solids.Combined operator (solid_of f) (solid_of s)
    → HasTree old planes (solid_planes (solid_of f)) (is_inside (solid_of f)) first → HasTree old planes (solid_planes (solid_of s)) (is_inside (solid_of s)) second
    → IfOk r (λ id. (ks : List Plane) (p q : Point → Bool) → HasTree old planes ks p first → HasTree old planes ks q second → HasTree new planes ks (λ x. truth operator (p x) (q x)) id)
    → IfOk r (HasTree new planes (solid_planes (solid_of node)) (is_inside (solid_of node)))
combined_node old new planes node f s operator first second (Err x) e a b made = tt
combined_node old new planes node f s operator first second (Ok id) e a b made =
    let fs = solid_planes (solid_of f) in
    let ss = solid_planes (solid_of s) in
    node_combined new planes node f s operator id e
    (made (fs ++ ss) (is_inside (solid_of f)) (is_inside (solid_of s))
    (a.0, a.1, tree_wider planes fs (fs ++ ss) (λ k c. Contains-append_left fs ss k c) (is_inside (solid_of f)) a.0 a.2)
    (b.0, b.1, tree_wider planes ss (fs ++ ss) (λ k c. Contains-append_right fs ss k c) (is_inside (solid_of s)) b.0 b.2))
