-- One triangle more of a fan.
use Rattle.std.proofs.Common.{◌≡◌, ℕ, ◌+◌, ◌*◌, ◌^◌, ◌<◌, ◌≤◌, ℤ, ◌+ℤ◌, List, ◌∷◌, length, drop, get_or, add-one, drop-cons, arith, unsigned_abs, FitsSigned, to_z, of_z}
use Rattle.std.proofs.lemmas.Int.{ints, to_z-of_z}
use mir.Syntax.{w128}
use Rattle.exact_mesh.specs.Meshes.{tetrahedron, fan_of}

-- where one more triangle was added, what was added with what is still to come is the same sum
pub fan_step : (corners : List (List ℤ)) (first from : ℕ) (rest : List ℕ) (i : ℕ) (before now total : ℤ) → i < length rest
    → now ≡ before +ℤ tetrahedron corners first from (get_or rest i 0)
    → before +ℤ fan_of corners first from (drop i rest) ≡ total
    → now +ℤ fan_of corners first (get_or rest i 0) (drop (i + 1) rest) ≡ total
fan_step corners first from rest i before now total h added all =
    let split : before +ℤ fan_of corners first from (get_or rest i 0 ∷ drop (i + 1) rest) ≡ total =
    rw (list_step rest i h) at all in
    step before (tetrahedron corners first from (get_or rest i 0)) (fan_of corners first (get_or rest i 0) (drop (i + 1) rest)) now total added split
  where
    list_step : (rest : List ℕ) (i : ℕ) → i < length rest → drop i rest ≡ get_or rest i 0 ∷ drop (i + 1) rest
    list_step rest i h = rw add-one (drop-cons rest i 0 h)

    step : (before one more now total : ℤ) → now ≡ before +ℤ one → before +ℤ (one +ℤ more) ≡ total → now +ℤ more ≡ total
    step before one more now total added all = omega (arith, ints)

-- a number of 128 bits was added
pub added : (before one now : ℤ) → FitsSigned w128 one → now ≡ before +ℤ to_z w128 (of_z w128 one) → now ≡ before +ℤ one
added before one now fits is = rw (to_z-of_z w128 one fits) at is

-- a number of 128 bits adds at most 2^127 to a size
pub added_size : (before one now : ℤ) (m i : ℕ) → FitsSigned w128 one → now ≡ before +ℤ one → unsigned_abs before ≤ m + i * 2 ^ 127 → unsigned_abs now ≤ m + (i + 1) * 2 ^ 127
added_size before one now m i fits is size = let small = fits.sfits in omega (arith, ints)
