-- Loops that stand before those of voids.
use Rattle.std.specs.Prelude.{ℕ, List, ◌++◌, Ok}
use Rattle.spec_space.specs.declared.Vector.{Vector}
use Rattle.spec_step.specs.declared.tree.Param.{Param}
use Rattle.spec_refusal.specs.Reads.{next}
use Rattle.spec_geometry.specs.Files.{File}
use Rattle.spec_geometry.specs.Profiles.{inner_curves, Counted}

-- loops, and then those of the voids that the members of a list name
abbrev pub with_inner : File → ℕ → List (List Vector) → List Param → ℕ → Counted (List (List Vector))
with_inner file n before ps count = next (inner_curves file n ps count) (λ inner. Ok (before ++ inner.0, inner.1))
