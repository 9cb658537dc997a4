-- Vectors of whole numbers: sizes, sums, and rounding part by part.
use Rattle.std.specs.Prelude.{ℕ, ℤ, pos, neg_ℤ, ◌+ℤ◌, ◌*ℤ◌, ◌^◌, ◌≤◌, Bool, ◌&&◌, nat_le, unsigned_abs, List, slice_index_or}
use Rattle.std.specs.Int.{int_max, int_min}
use Rattle.spec_num.specs.Rounding.{round_of}
use Rattle.spec_space.specs.declared.Vector.{Vector}

-- the number of a list at a place, from 0
abbrev pub number_at : List ℤ → ℕ → ℤ
number_at ns i = slice_index_or ns i (pos 0)

-- the vector of three numbers
abbrev pub vector_of : List ℤ → Vector
vector_of ns = record { x = number_at ns 0; y = number_at ns 1; z = number_at ns 2 }

-- each part of a vector by itself
abbrev pub each : (ℤ → ℤ) → Vector → Vector
each f v = record { x = f v.x; y = f v.y; z = f v.z }

abbrev pub plus : Vector → Vector → Vector
plus u v = record { x = u.x +ℤ v.x; y = u.y +ℤ v.y; z = u.z +ℤ v.z }

-- a vector times a number
abbrev pub times : ℤ → Vector → Vector
times k v = each (λ n. k *ℤ n) v

abbrev pub reversed : Vector → Vector
reversed v = each neg_ℤ v

-- a vector divided by a number above 0, each part rounded
abbrev pub divided : Vector → ℤ → Vector
divided v d = each (λ n. round_of n d) v

-- 1, for what is counted in units of 10^-9
abbrev pub one : ℤ
one = pos (10 ^ 9)

-- the nearest number from -1 to 1, for what is counted in units of 10^-9 (a rule of this project)
abbrev pub clamped : ℤ → ℤ
clamped n = int_max (neg_ℤ one) (int_min n one)

-- no part has a size above n
abbrev pub is_within : ℕ → Vector → Bool
is_within n v = nat_le (unsigned_abs v.x) n && nat_le (unsigned_abs v.y) n && nat_le (unsigned_abs v.z) n

pub record IsWithin (n : ℕ) (v : Vector) : Type 0 where
  pub x : unsigned_abs v.x ≤ n
  pub y : unsigned_abs v.y ≤ n
  pub z : unsigned_abs v.z ≤ n

-- all parts are 0
abbrev pub is_zero : Vector → Bool
is_zero v = is_within 0 v

abbrev pub origin : Vector
origin = record { x = pos 0; y = pos 0; z = pos 0 }

-- the directions of the axes of the world, in units of 10^-9
abbrev pub along_x : Vector
along_x = record { x = one; y = pos 0; z = pos 0 }

abbrev pub along_y : Vector
along_y = record { x = pos 0; y = one; z = pos 0 }

abbrev pub along_z : Vector
along_z = record { x = pos 0; y = pos 0; z = one }
