-- Square roots in whole numbers. A rule of this project.
use Rattle.std.specs.Prelude.{ℕ, zero, suc, ◌*◌, nat_le, if◌then◌else◌}

-- the greatest whole number up to m whose square is at most n
unfoldable pub root_up_to : ℕ → ℕ → ℕ
root_up_to n zero = 0
root_up_to n (suc m) = if nat_le (suc m * suc m) n then suc m else root_up_to n m

-- the greatest whole number whose square is at most n
unfoldable pub whole_root : ℕ → ℕ
whole_root n = root_up_to n n
