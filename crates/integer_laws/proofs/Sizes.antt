-- Sizes of sums, differences and products, and the numbers that fit in 128 bits.
use Rattle.std.proofs.Common.{ℕ, ◌+◌, ◌*◌, ◌<◌, ◌≤◌, ◌^◌, ℤ, ◌+ℤ◌, ◌-ℤ◌, ◌*ℤ◌, unsigned_abs, FitsSigned, arith, mul-le-mul}
use Rattle.std.proofs.lemmas.Int.{ints, unsigned_abs-mul, fits_signed_from_abs}
use mir.Syntax.{w128}

pub size_add : (a b : ℤ) (m n : ℕ) → unsigned_abs a ≤ m → unsigned_abs b ≤ n → unsigned_abs (a +ℤ b) ≤ m + n
size_add a b m n p q = omega (arith, ints)

pub size_sub : (a b : ℤ) (m n : ℕ) → unsigned_abs a ≤ m → unsigned_abs b ≤ n → unsigned_abs (a -ℤ b) ≤ m + n
size_sub a b m n p q = omega (arith, ints)

pub size_mul : (a b : ℤ) (m n : ℕ) → unsigned_abs a ≤ m → unsigned_abs b ≤ n → unsigned_abs (a *ℤ b) ≤ m * n
size_mul a b m n p q = rw (unsigned_abs-mul a b) (mul-le-mul p q)

pub fits_by_size : (v : ℤ) (n : ℕ) → unsigned_abs v ≤ n → n < 2 ^ 127 → FitsSigned w128 v
fits_by_size v n p q = fits_signed_from_abs w128 v (omega arith)
