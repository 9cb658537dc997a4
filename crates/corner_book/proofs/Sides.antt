-- The sign of a value, and whether it is 0.
use Rattle.std.proofs.Common.{◌≡◌, zero, suc, Bool, true, false, ℤ, pos, negsuc, refl}
use Rattle.std.specs.Ordering.{int_eq}
use Rattle.plane_core.specs.Planes.{sign_of}
use Rattle.plane_core.specs.declared.points.Sign.TheVariants.{Front, On, Back}
use Rattle.std.proofs.lemmas.Bool.Decides.{Decides-int_eq}

pub zero_on : (v : ℤ) → On ≡ sign_of v → true ≡ int_eq v (pos 0)
zero_on (pos zero) e = refl
zero_on (pos (suc n)) e = cc
zero_on (negsuc n) e = cc

not_zero : (v : ℤ) → (v ≡ pos 0 → ⊥) → false ≡ int_eq v (pos 0)
not_zero v other = told (int_eq v (pos 0)) refl
  where
    told : (b : Bool) → int_eq v (pos 0) ≡ b → false ≡ b
    told true e = absurd (other ((Decides-int_eq v (pos 0)).0 e))
    told false e = refl

pub not_zero_front : (v : ℤ) → Front ≡ sign_of v → false ≡ int_eq v (pos 0)
not_zero_front (pos zero) e = cc
not_zero_front (pos (suc n)) e = not_zero (pos (suc n)) (λ z. cc)
not_zero_front (negsuc n) e = cc

pub not_zero_back : (v : ℤ) → Back ≡ sign_of v → false ≡ int_eq v (pos 0)
not_zero_back (pos zero) e = cc
not_zero_back (pos (suc n)) e = cc
not_zero_back (negsuc n) e = not_zero (negsuc n) (λ z. cc)
