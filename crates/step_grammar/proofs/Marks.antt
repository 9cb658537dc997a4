-- The marks, one by one.
use Rattle.std.proofs.Common.{◌≡◌, ℕ, Bool, true, false, ◌||◌, ◌==◌, refl, sym, subst}
use Rattle.std.proofs.lemmas.Bool.{eqb-true}
use Rattle.spec_step.specs.Spelling.{is_mark}

mark_or : (P : ℕ → Type 0) (m : ℕ) (b : ℕ) (others : Bool) → P m → (others ≡ true → P b) → (others || (b == m)) ≡ true → P b
mark_or P m b true here more h = more refl
mark_or P m b false here more h = subst P (sym (eqb-true b m h)) here

-- what holds of each mark holds of a byte that is one
pub each_mark : (P : ℕ → Type 0) → P 59 → P 61 → P 40 → P 41 → P 44 → P 36 → P 42 → (b : ℕ) → is_mark b ≡ true → P b
each_mark P semicolon equals opening closing comma dollar star b =
    mark_or P 42 b _ star (mark_or P 36 b _ dollar (mark_or P 44 b _ comma (mark_or P 41 b _ closing (mark_or P 40 b _ opening
    (mark_or P 61 b (b == 59) equals (λ h. subst P (sym (eqb-true b 59 h)) semicolon))))))
