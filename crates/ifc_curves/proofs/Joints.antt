-- The last index of a segment.
use Rattle.std.proofs.Common.{◌≡◌, ℕ, ◌-◌, ◌==◌, false, List, [], ◌∷◌, length, slice_index_or, refl, subst, arith}
use Rattle.spec_geometry.specs.Curves.{last_index}

at_end : (x : ℕ) (xs : List ℕ) → slice_index_or (x ∷ xs) (length xs) 0 ≡ last_index (x ∷ xs)
at_end x [] = refl
at_end x (y ∷ ys) = at_end y ys

pub last_found : (xs : List ℕ) → (length xs == 0) ≡ false → slice_index_or xs (length xs - 1) 0 ≡ last_index xs
last_found [] e = absurd (cc)
last_found (x ∷ xs) e =
    let k : length xs ≡ length (x ∷ xs) - 1 = omega arith in
    subst (λ i. slice_index_or (x ∷ xs) i 0 ≡ last_index (x ∷ xs)) k (at_end x xs)
