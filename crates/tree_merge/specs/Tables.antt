-- When a tree is the merge of two trees under a table.
use Rattle.std.specs.Prelude.{◌≡◌, ◌⊎◌, ℕ, Bool, true, false, List, Option, Some, None}
use Rattle.spec_space.specs.declared.Point.{Point}
use Rattle.spec_space.specs.Points.{IsPoint}
use Rattle.plane_core.specs.declared.numbers.Plane.{Plane}
use Rattle.poly_frag.specs.Cubes.{IsInsideCube}
use Rattle.tree_pool.specs.Trees.{Tree, value_of, IsPlaneOf, IsOff}
use Rattle.tree_merge.specs.declared.table.Table4.{Table4}

-- what the table has for two values
abbrev pub entry : Table4 → Bool → Bool → Bool
entry table true true = table.both
entry table true false = table.first_only
entry table false true = table.second_only
entry table false false = table.neither

-- and for the values of two trees at a point; nothing where one of them has none
abbrev pub entry_of : Table4 → Option Bool → Option Bool → Option Bool
entry_of table (Some x) (Some y) = Some (entry table x y)
entry_of table (Some x) None = None
entry_of table None y = None

-- at every point strictly inside the enclosing cube and off the planes of f and g the tree has the table's value, and its
-- planes are among theirs
pub record IsMergeOf (planes : List Plane) (table : Table4) (f g t : Tree) : Type 0 where
  pub value : (q : Point) → IsPoint q → IsInsideCube q → IsOff planes f q → IsOff planes g q → value_of planes t q ≡ entry_of table (value_of planes f q) (value_of planes g q)
  pub among : (k : ℕ) → IsPlaneOf k t → IsPlaneOf k f ⊎ IsPlaneOf k g
