-- What loops keep: how many there are, how many points each has, and how large their coordinates are.
use Rattle.std.specs.Prelude.{ℕ, ℤ, pos, neg_ℤ, ◌≤◌, ◌^◌, ◌≤ℤ◌, List, length, All}
use Rattle.spec_space.specs.declared.Vector.{Vector}
use Rattle.spec_place.specs.Vectors.{IsWithin}

-- no coordinate has a size above n
abbrev pub AreWithin : ℕ → List (List Vector) → Type 0
AreWithin n loops = All (All (IsWithin n)) loops

-- each loop has at least three points
abbrev pub AreLong : List (List Vector) → Type 0
AreLong loops = All (λ l. 3 ≤ length l) loops

-- a loop of at least three points, with no coordinate above n
pub record IsLoop (n : ℕ) (points : List Vector) : Type 0 where
  pub long : 3 ≤ length points
  pub within : All (IsWithin n) points

-- the outline of a profile or of a face: at least one loop, each of at least three points, no coordinate above n
pub record IsOutline (n : ℕ) (loops : List (List Vector)) : Type 0 where
  pub some : 1 ≤ length loops
  pub long : AreLong loops
  pub within : AreWithin n loops

-- an extent or a thickness: from 0 to 10^16 nanometres
pub record IsExtent (n : ℤ) : Type 0 where
  pub low : pos 0 ≤ℤ n
  pub high : n ≤ℤ pos (10 ^ 16)

-- the lower end of an extent that is centred on 0, and its upper one
pub record IsLowerEnd (n : ℤ) : Type 0 where
  pub low : neg_ℤ (pos (10 ^ 16)) ≤ℤ n
  pub high : n ≤ℤ pos 0
