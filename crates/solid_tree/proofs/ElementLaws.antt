-- The tree of an element.
use Rattle.std.proofs.Common.{◌≡◌, ◌≢◌, pos, Bool, true, false, ◌&&◌, List, [], ◌++◌, map, refl, sym, subst, ◌∙◌}
use Rattle.std.specs.List.{flat_map, Contains}
use Rattle.std.proofs.lemmas.List.Elements.{Contains-append_left, Contains-append_right}
use Rattle.std.proofs.Math.Logic.{∥∥₁_elim}
use Rattle.spec_space.specs.declared.Point.{Point}
use Rattle.spec_space.specs.declared.Plane.{Plane}
use Rattle.spec_space.specs.Points.{value}
use Rattle.spec_solid.specs.Solids.{Body, is_meant}
use Rattle.spec_solid.specs.Planes.{solid_planes, body_planes, IsPlaneOf}
use Rattle.integer_laws.proofs.Products.{cancel_zero}
use Rattle.plane_core.specs.declared.numbers.Plane.{Plane as BookPlane}
use Rattle.plane_core.specs.Planes.{IsReductionOf}
use Rattle.plane_core.specs.Views.{plane_of}
use Rattle.plane_core.proofs.Laws.{reduced_is_reduced}
use Rattle.grid_solid.specs.Triangles.{HasForm}
use Rattle.grid_solid.specs.Bodies.{body_of}
use Rattle.grid_solid.specs.Views.{solid_of}
use Rattle.grid_solid.specs.declared.nodes.GridNode.{GridNode}
use Rattle.grid_solid.specs.declared.solids.GridSolid.{GridSolid}
use Rattle.grid_solid.proofs.Laws.{body_formed}
use Rattle.tree_pool.specs.declared.node.TreeId.{TreeId}
use Rattle.tree_pool.specs.Trees.{Tree}
use Rattle.tree_pool.specs.Pools.{Slots, StandsFor, AreTrees}
use Rattle.triangle_trees.specs.Forms.{IsTreeOf}
use Rattle.triangle_trees.proofs.Covers.{value_of_times}
use Rattle.solid_tree.specs.Unions.{HasTree, less}
use Rattle.solid_tree.specs.Elements.{IsElementTree}
use Rattle.solid_tree.proofs.Trees.{tree_same, tree_wider}

-- ---- the planes of an element
pub plane_is : (body : Body) (k : Plane) (p : BookPlane) → Contains (body_planes body) k → IsReductionOf p k.a k.b k.c k.d → IsPlaneOf body (plane_of p)
plane_is body k p there r = (reduced_is_reduced p, (k, r.factor, there, r.some, r.times))

pub off_plane : (body : Body) (q : Point) → ((h : Plane) → IsPlaneOf body h → value h q ≢ pos 0) → (k : Plane) → Contains (body_planes body) k → HasForm k → value k q ≢ pos 0
off_plane body q off k there form z = ∥∥₁_elim form (λ a b. absurd a) (λ f. by f.0 f.1)
  where
    by : (p : BookPlane) → IsReductionOf p k.a k.b k.c k.d → ⊥
    by p r = off (plane_of p) (plane_is body k p there r) (cancel_zero r.factor (value (plane_of p) q) r.some (sym (value_of_times r.factor (plane_of p) k q r.times) ∙ z))

-- a tree that tells the meaning off the planes of an element is the tree of the element
pub element_is : (planes : List BookPlane) (s : GridSolid) (t : Tree) → IsTreeOf planes (body_planes (body_of s)) (is_meant (body_of s)) t → IsElementTree planes (body_of s) t
element_is planes s t is = record {
  value = λ q point cube off. is.value q point cube (λ k c. off_plane (body_of s) q off k c (body_formed s k c));
  among = λ n i. let f = is.among n i in (f.0, f.2, plane_is (body_of s) f.1 f.0 f.3 f.4);
}

-- ---- where a number keeps its tree
pub has_stood : (before after : Slots) (planes : List BookPlane) (ks : List Plane) (told : Point → Bool) (id : TreeId) → ((t : Tree) → StandsFor before id t → StandsFor after id t) → HasTree before planes ks told id → HasTree after planes ks told id
has_stood before after planes ks told id stands h = (h.0, stands h.0 h.1, h.2)

-- ---- more planes, and openings
pub left_has : (pool : Slots) (planes : List BookPlane) (ks ls : List Plane) (told : Point → Bool) (id : TreeId) → HasTree pool planes ks told id → HasTree pool planes (ks ++ ls) told id
left_has pool planes ks ls told id h = (h.0, h.1, tree_wider planes ks (ks ++ ls) (λ k c. Contains-append_left ks ls k c) told h.0 h.2)

pub right_has : (pool : Slots) (planes : List BookPlane) (ks ls : List Plane) (told : Point → Bool) (id : TreeId) → HasTree pool planes ls told id → HasTree pool planes (ks ++ ls) told id
right_has pool planes ks ls told id h = (h.0, h.1, tree_wider planes ls (ks ++ ls) (λ k c. Contains-append_right ks ls k c) told h.0 h.2)

pub less_nothing : (pool : Slots) (planes : List BookPlane) (ks : List Plane) (told : Point → Bool) (id : TreeId) (openings : List GridNode) → openings ≡ [] → HasTree pool planes ks told id
    → HasTree pool planes (ks ++ flat_map solid_planes (map solid_of openings)) (less told (map solid_of openings)) id
less_nothing pool planes ks told id openings e h =
    subst (λ ns. HasTree pool planes (ks ++ flat_map solid_planes (map solid_of ns)) (less told (map solid_of ns)) id) (sym e)
    (left_has pool planes ks [] (less told []) id (h.0, h.1, tree_same planes ks told (less told []) (λ q. all (told q)) h.0 h.2))
  where
    all : (s : Bool) → s ≡ (s && true)
    all true = refl
    all false = refl

-- the tree of a number that has it
pub tree_has : (pool : Slots) (planes : List BookPlane) (ks : List Plane) (told : Point → Bool) (id : TreeId) → AreTrees pool → HasTree pool planes ks told id → (t : Tree) → StandsFor pool id t → IsTreeOf planes ks told t
tree_has pool planes ks told id ok h t stands = subst (IsTreeOf planes ks told) (ok.one_tree id h.0 t h.1 stands) h.2
