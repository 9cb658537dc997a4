-- The solid of an instance, one step in.
use Rattle.std.proofs.Common.{◌≡◌, ℕ, zero, suc, ◌-◌, Err, refl, sym, subst, arith}
use Rattle.spec_place.specs.declared.transform.Transform.{Transform}
use Rattle.spec_refusal.specs.declared.Refusal.TheVariants.{TooDeep}
use Rattle.spec_geometry.specs.Files.{File}
use Rattle.spec_geometry.specs.Solids.{solid, solid_by}

pub too_deep : (d : ℕ) (file : File) (n : ℕ) (map : Transform) (count : ℕ) → d ≡ 0 → solid d file n map count ≡ Err (TooDeep n)
unfolding solid
too_deep zero file n map count e = refl
too_deep (suc d) file n map count e = absurd (omega (arith, e))

one_in : (d : ℕ) (file : File) (n : ℕ) (map : Transform) (count : ℕ) → solid (suc d) file n map count ≡ solid_by file (solid d file) n map count
unfolding solid
one_in d file n map count = refl

pub goes_in : (d : ℕ) (file : File) (n : ℕ) (map : Transform) (count : ℕ) → (d ≡ 0 → ⊥) → solid d file n map count ≡ solid_by file (solid (d - 1) file) n map count
goes_in zero file n map count some = absurd (some refl)
goes_in (suc d) file n map count some =
    let e : suc d - 1 ≡ d = omega arith in
    subst (λ k. solid (suc d) file n map count ≡ solid_by file (solid k file) n map count) (sym e) (one_in d file n map count)
