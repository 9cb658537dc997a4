-- Whether a plane keeps a point, as a flag.
use Rattle.std.proofs.Common.{◌≡◌, Bool, true, false, ℤ, pos, ◌<ℤ◌, ◌≤ℤ◌, refl, arith}
use Rattle.std.specs.Prelude.{int_lt}
use Rattle.std.proofs.lemmas.Int.{ints}
use Rattle.spec_space.specs.declared.Point.{Point}
use Rattle.spec_space.specs.declared.Plane.{Plane}
use Rattle.spec_space.specs.Points.{value}
use Rattle.convex_cycles.specs.Sides.{is_in_front}
use Rattle.convex_cycles.proofs.Orders.{not_both}

-- the flag says whether the number is above 0
abbrev pub Tells : Bool → ℤ → Type 0
Tells true x = pos 0 <ℤ x
Tells false x = x ≤ℤ pos 0

tells : (x : ℤ) (b : Bool) → int_lt (pos 0) x ≡ b → Tells b x
tells x true e = omega (arith, ints)
tells x false e = omega (arith, ints)

pub front_tells : (k : Plane) (p : Point) → Tells (is_in_front k p) (value k p)
front_tells k p = tells (value k p) (is_in_front k p) refl

-- a number has one flag
pub one_flag : (b c : Bool) (x : ℤ) → Tells b x → Tells c x → b ≡ c
one_flag true true x p q = refl
one_flag true false x p q = absurd (not_both x p q)
one_flag false true x p q = absurd (not_both x q p)
one_flag false false x p q = refl

pub front_flag : (k : Plane) (p : Point) (b : Bool) → Tells b (value k p) → is_in_front k p ≡ b
front_flag k p b t = one_flag (is_in_front k p) b (value k p) (front_tells k p) t
