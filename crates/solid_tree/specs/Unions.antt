-- Trees in a pool that tell meanings, and what some of them tell together.
use Rattle.std.specs.Prelude.{◌≡◌, Bool, false, not, ◌&&◌, ◌||◌, List, [], ◌∷◌}
use Rattle.spec_space.specs.declared.Point.{Point}
use Rattle.spec_space.specs.declared.Plane.{Plane}
use Rattle.spec_solid.specs.Solids.{Solid, is_inside_some}
use Rattle.plane_core.specs.declared.numbers.Plane.{Plane as BookPlane}
use Rattle.tree_pool.specs.declared.node.TreeId.{TreeId}
use Rattle.tree_pool.specs.Trees.{Tree}
use Rattle.tree_pool.specs.Pools.{Slots, StandsFor}
use Rattle.triangle_trees.specs.Forms.{IsTreeOf}

-- the number stands for a tree that tells the meaning
abbrev pub HasTree : Slots → List BookPlane → List Plane → (Point → Bool) → TreeId → Type 0
HasTree pool planes ks told id = (t : Tree) × StandsFor pool id t × IsTreeOf planes ks told t

-- each number stands for a tree that tells the meaning at its place
abbrev pub HaveTrees : Slots → List BookPlane → List Plane → List (Point → Bool) → List TreeId → Type 0
HaveTrees pool planes ks [] [] = Unit {0}
HaveTrees pool planes ks [] (id ∷ ids) = ⊥
HaveTrees pool planes ks (told ∷ rest) [] = ⊥
HaveTrees pool planes ks (told ∷ rest) (id ∷ ids) = HasTree pool planes ks told id × HaveTrees pool planes ks rest ids

-- some of the meanings is true at the point
abbrev pub some_told : List (Point → Bool) → Point → Bool
some_told [] q = false
some_told (told ∷ rest) q = told q || some_told rest q

-- the numbers stand for trees of which some is true where the meaning is
abbrev pub AreUnited : Slots → List BookPlane → List Plane → (Point → Bool) → List TreeId → Type 0
AreUnited pool planes ks told ids = (parts : List (Point → Bool)) × HaveTrees pool planes ks parts ids × ((q : Point) → some_told parts q ≡ told q)

-- the meaning is true at the point, and no opening has it
abbrev pub less : (Point → Bool) → List Solid → Point → Bool
less told openings q = told q && not (is_inside_some openings q)
