-- When the directed edges of faces are balanced, and the least pair of places at which they are not.
use Rattle.std.specs.Prelude.{◌≡◌, ◌≢◌, ℕ, List}
use Rattle.spec_page.specs.Element.{Face}
use Rattle.spec_page.specs.Faces.{edge_count}
use Rattle.spec_check.specs.Verdicts.{IsPairUpTo}

-- each directed edge stands in the faces as often as its reverse
abbrev pub AreBalanced : List Face → Type 0
AreBalanced faces = (i j : ℕ) → edge_count faces i j ≡ edge_count faces j i

-- the least pair of places, by the first and then by the second, whose edge stands a different number of times than its reverse
pub record IsLeastUnbalanced (faces : List Face) (u v : ℕ) : Type 0 where
  pub fails : edge_count faces u v ≢ edge_count faces v u
  pub least : (i j : ℕ) → edge_count faces i j ≢ edge_count faces j i → IsPairUpTo u v i j
