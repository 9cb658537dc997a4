-- Sizes of what is placed.
use Rattle.std.proofs.Common.{◌≡◌, ℕ, ◌*◌, ◌≤◌, ◌^◌, ℤ, pos, unsigned_abs, T, leb, leb→le, to_z, of_z, ap, ◌∙◌, subst, sym, refl, ◌+ℤ◌, ◌*ℤ◌}
use Rattle.spec_num.specs.Rounding.{round_of}
use Rattle.spec_space.specs.declared.Vector.{Vector}
use Rattle.spec_place.specs.Vectors.{one, IsWithin}
use Rattle.ix_place.proofs.Sizes.{wider_number, divided_within}
use Rattle.integer_laws.proofs.Computed.{Is}

-- a computed number is small
pub small : {z v : ℤ} {n : ℕ} → Is z v n → (m : ℕ) → T (leb n m) → unsigned_abs z ≤ m
small {z} {v} {n} h m t = subst (λ w. unsigned_abs w ≤ m) (sym h.is) (wider_number v {m = n} {n = m} h.size t)

-- a number that a call has answered
pub told : {r v : ℤ} {n : ℕ} → r ≡ v → unsigned_abs r ≤ n → Is r v n
told {r} {v} {n} e h = record { is = e; size = subst (λ w. unsigned_abs w ≤ n) e h }

pub told_round : {r f x s y : ℤ} {f' x' s' y' : ℤ} {n : ℕ} → r ≡ round_of (f' *ℤ x' +ℤ s' *ℤ y') one → unsigned_abs r ≤ n → f' ≡ f → x' ≡ x → s' ≡ s → y' ≡ y
    → Is r (round_of (f *ℤ x +ℤ s *ℤ y) one) n
told_round {r} {f} {x} {s} {y} {n = n} e h ef ex es ey = told (e ∙ rw (ef, ex, es, ey) refl) h

-- what is rounded to units is small
rounded : (n : ℕ) (v : ℤ) → unsigned_abs v ≤ n * 10 ^ 9 → unsigned_abs (round_of v one) ≤ n
rounded n v h = let all : Vector = record { x = v; y = v; z = v } in let bound : IsWithin (n * 10 ^ 9) all = record { x = h; y = h; z = h } in (divided_within all (10 ^ 9) {n = n} tt bound).x

-- a computed number that is rounded to units
pub rounded_is : {r z v : ℤ} {m : ℕ} (n : ℕ) → r ≡ round_of z one → Is z v m → T (leb m (n * 10 ^ 9)) → Is r (round_of v one) n
rounded_is {r} {z} {v} {m} n e h t = record { is = e ∙ ap (λ w. round_of w one) h.is; size = rounded n v (wider_number v {m = m} {n = n * 10 ^ 9} h.size t) }
