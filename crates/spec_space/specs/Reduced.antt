-- Reduced planes (a rule of this project), and a plane whose four numbers are a multiple of another's.
use Rattle.std.specs.Prelude.{◌≡◌, ◌⊎◌, ℤ, pos, ◌*ℤ◌, ◌<ℤ◌, unsigned_abs}
use Rattle.spec_space.specs.declared.Plane.{Plane}

-- the first of a, b, c that is not 0 is positive
abbrev pub LeadsPositive : Plane → Type 0
LeadsPositive h = (pos 0 <ℤ h.a) ⊎ ((h.a ≡ pos 0) × ((pos 0 <ℤ h.b) ⊎ ((h.b ≡ pos 0) × (pos 0 <ℤ h.c))))

-- the number divides all four numbers of a plane, and these are the quotients
abbrev pub IsTimes : ℤ → Plane → Plane → Type 0
IsTimes m quotient h = (h.a ≡ m *ℤ quotient.a) × (h.b ≡ m *ℤ quotient.b) × (h.c ≡ m *ℤ quotient.c) × (h.d ≡ m *ℤ quotient.d)

-- no number but 1 and -1 divides all four, and the first coefficient that is not 0 is positive
pub record IsReduced (h : Plane) : Type 0 where
  pub lead : LeadsPositive h
  pub divisors : (m : ℤ) (quotient : Plane) → IsTimes m quotient h → unsigned_abs m ≡ 1
