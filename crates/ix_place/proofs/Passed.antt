-- Numbers as code passes them on: each stands in a goal as `to_z w128 (of_z w128 a)`.
use Rattle.std.proofs.Common.{◌≡◌, ℕ, ◌≤◌, ◌^◌, ℤ, pos, ◌-ℤ◌, ◌*ℤ◌, ◌<ℤ◌, ◌≤ℤ◌, unsigned_abs, FitsSigned, to_z, of_z, T, ltb, leb, subst, sym, ap, ◌∙◌}
use Rattle.std.proofs.lemmas.Int.{to_z-of_z}
use mir.Syntax.{w128}
use Rattle.spec_space.specs.declared.Vector.{Vector}
use Rattle.integer_laws.proofs.Computed.{arg, again, difference, product}
use Rattle.ix_place.proofs.Sizes.{wider_number}

abbrev pub passed : ℤ → ℤ
passed a = to_z w128 (of_z w128 a)

-- a number within a bound is within it where code passes it
pub passed_within : (a : ℤ) {m n : ℕ} → unsigned_abs a ≤ m → T (ltb m (2 ^ 127)) → T (leb m n) → unsigned_abs (passed a) ≤ n
passed_within a {m} {n} h small le = subst (λ x. unsigned_abs x ≤ n) (sym (arg a h small).is) (wider_number a h le)

pub passed_is : (a b : ℤ) → FitsSigned w128 a → a ≡ b → passed a ≡ b
passed_is a b fits is = to_z-of_z w128 a fits ∙ is

pub passed_positive : (a : ℤ) → FitsSigned w128 a → pos 0 <ℤ a → pos 0 <ℤ passed a
passed_positive a fits h = subst (λ x. pos 0 <ℤ x) (sym (to_z-of_z w128 a fits)) h

pub passed_at_most : (a n : ℤ) → FitsSigned w128 a → a ≤ℤ n → passed a ≤ℤ n
passed_at_most a n fits h = subst (λ x. x ≤ℤ n) (sym (to_z-of_z w128 a fits)) h

pub difference_is : (a b r : ℤ) → unsigned_abs a ≤ 2 ^ 125 → unsigned_abs b ≤ 2 ^ 125 → r ≡ passed a -ℤ passed b → passed r ≡ a -ℤ b
difference_is a b r h k is = ap (λ x. passed x) is ∙ (again (difference (arg a h tt) (arg b k tt)) tt).is

pub minor_is : (a b c d r : ℤ) → unsigned_abs a ≤ 2 ^ 62 → unsigned_abs b ≤ 2 ^ 62 → unsigned_abs c ≤ 2 ^ 62 → unsigned_abs d ≤ 2 ^ 62
    → r ≡ passed a *ℤ passed b -ℤ passed c *ℤ passed d → passed r ≡ a *ℤ b -ℤ c *ℤ d
minor_is a b c d r p q s t is =
    ap (λ x. passed x) is ∙ (again (difference (product (arg a p tt) (arg b q tt)) (product (arg c s tt) (arg d t tt))) tt).is

abbrev pub parts : ℤ → ℤ → ℤ → Vector
parts x y z = record { x = x; y = y; z = z }

pub same_parts : (x y z : ℤ) (v : Vector) → x ≡ v.x → y ≡ v.y → z ≡ v.z → parts x y z ≡ v
same_parts x y z v p q r = λ i. record { x = p i; y = q i; z = r i }
