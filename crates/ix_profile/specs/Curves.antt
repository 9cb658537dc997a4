-- Curves that make loops.
use Rattle.std.specs.Prelude.{◌≡◌, ℕ, ◌<◌, Bool, true, false, List, take, length, slice_index_or, [], All}
use Rattle.spec_space.specs.declared.Vector.{Vector}
use Rattle.spec_shape.specs.Loops.{open_loop, has_three}
use Rattle.ix_profile.specs.declared.fault.LoopFault.{LoopFault}
use Rattle.ix_profile.specs.declared.fault.LoopFault.TheVariants.{DegenerateLoop, NoMemory}

-- three points of the curve are different
abbrev pub makes_loop : List Vector → Bool
makes_loop curve = has_three (open_loop curve)

abbrev pub MakesLoop : List Vector → Type 0
MakesLoop curve = makes_loop curve ≡ true

-- the first curve that makes no loop
pub record IsFirstDegenerate (curves : List (List Vector)) (which : ℕ) : Type 0 where
  pub within : which < length curves
  pub degenerate : makes_loop (slice_index_or curves which []) ≡ false
  pub first : All MakesLoop (take which curves)

-- why curves make no loops; want of memory says nothing of them
abbrev pub HasCause : List (List Vector) → LoopFault → Type 0
HasCause curves (DegenerateLoop which) = IsFirstDegenerate curves which
HasCause curves NoMemory = Unit {0}
