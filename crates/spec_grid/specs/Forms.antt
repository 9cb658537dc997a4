-- The reduced form of a plane, and whether it is within the sizes of planes (rules of this project).
use Rattle.std.specs.Prelude.{ℕ, ℤ, zero, suc, pos, negsuc, neg_ℤ, ◌*◌, ◌/◌, ◌%◌, ◌^◌, Bool, true, false, not, ◌&&◌, nat_le, unsigned_abs, if◌then◌else◌}
use Rattle.spec_space.specs.declared.Plane.{Plane}
use Rattle.spec_space.specs.Points.{opposite}
use Rattle.spec_solid.specs.Solids.{Solid, HalfSpace}

-- the greatest common divisor of two numbers, by so many steps of remainders (Euclid)
unfoldable pub gcd_by : ℕ → ℕ → ℕ → ℕ
gcd_by zero a b = a
gcd_by (suc n) a zero = a
gcd_by (suc n) a (suc b) = gcd_by n (suc b) (a % suc b)

abbrev pub gcd : ℕ → ℕ → ℕ
gcd a b = gcd_by (suc b) a b

abbrev pub plane_gcd : Plane → ℕ
plane_gcd h = gcd (gcd (gcd (unsigned_abs h.a) (unsigned_abs h.b)) (unsigned_abs h.c)) (unsigned_abs h.d)

-- the size is at most so many times g
abbrev pub is_within_times : ℕ → ℕ → ℤ → Bool
is_within_times g most n = nat_le (unsigned_abs n) (g * most)

-- divided by their greatest common divisor, the coefficients have sizes of at most 2^26, and the last number of at most 2^44
abbrev pub is_fitting_over : ℕ → Plane → Bool
is_fitting_over g h =
    is_within_times g (2 ^ 26) h.a && is_within_times g (2 ^ 26) h.b && is_within_times g (2 ^ 26) h.c && is_within_times g (2 ^ 44) h.d

abbrev pub is_fitting : Plane → Bool
is_fitting h = is_fitting_over (plane_gcd h) h

-- a number of which g is a divisor, divided by it
abbrev pub over : ℕ → ℤ → ℤ
over g (pos n) = pos (n / g)
over g (negsuc n) = neg_ℤ (pos (suc n / g))

abbrev pub plane_over : ℕ → Plane → Plane
plane_over g h = record { a = over g h.a; b = over g h.b; c = over g h.c; d = over g h.d }

-- the first of a, b, c that is not 0 is positive
abbrev pub leads_positive : Plane → Bool
leads_positive h = leads h.a (leads h.b (leads h.c false))
  where
    leads : ℤ → Bool → Bool
    leads (pos zero) rest = rest
    leads (pos (suc n)) rest = true
    leads (negsuc n) rest = false

-- the half-space of a plane, by the reduced form of the plane
abbrev pub reduced_half : Plane → Bool → Solid
reduced_half h in_front =
    if leads_positive h then HalfSpace (plane_over (plane_gcd h) h) in_front
    else HalfSpace (plane_over (plane_gcd h) (opposite h)) (not in_front)
