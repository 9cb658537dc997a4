-- The corners of a line between two others, by two searches.
use Rattle.std.proofs.Common.{◌≡◌, inl, inr, ℕ, zero, suc, ◌<◌, ◌≤◌, Bool, true, false, true≢false, not, cond, List, [], ◌∷◌, length, take, drop, filter, get_or, AllPairs, refl, sym, ap, ◌∙◌, subst, arith}
use Rattle.std.specs.List.{AllWithin}
use Rattle.std.specs.List.Sorted.{IsPartitionedBy, IsPartitionPoint}
use Rattle.std.proofs.lemmas.Bool.{cases_lt}
use Rattle.std.proofs.lemmas.List.Kept.{AllPairs-filter}
use Rattle.plane_core.specs.declared.numbers.Corner.{Corner}
use Rattle.plane_core.specs.Views.{point_of}
use Rattle.edge_cut.specs.Stretches.{comes_before, is_among}
use Rattle.edge_cut.proofs.Found.{both_filters}
use Rattle.edge_cut.proofs.Orders.{before_trans, before_from, from_before}

-- ---- where a test holds up to a place, and not from there on
pub filter_front : {X : Type 0} (p : X → Bool) (xs : List X) (i : ℕ) → AllWithin (λ y. p y ≡ true) xs 0 i → AllWithin (λ y. p y ≡ false) xs i (length xs) → filter p xs ≡ take i xs
filter_front p [] zero h k = refl
filter_front p [] (suc i) h k = refl
filter_front {X = X} p (x ∷ xs) zero h k = step (p x) (k 0 x (omega arith) (omega arith)) (filter_front p xs zero (λ n d a b. absurd (omega (arith, b))) (λ n d a b. k (suc n) d (omega arith) (omega (arith, b))))
  where
    step : (b : Bool) → b ≡ false → filter p xs ≡ [] → cond b (x ∷ filter p xs) (filter p xs) ≡ []
    step true e r = absurd (true≢false e)
    step false e r = r
filter_front p (x ∷ xs) (suc i) h k = step (p x) (h 0 x (omega arith) (omega arith)) (filter_front p xs i (λ n d a b. h (suc n) d (omega arith) (omega (arith, b))) (λ n d a b. k (suc n) d (omega (arith, a)) (omega (arith, b))))
  where
    step : (b : Bool) → b ≡ true → filter p xs ≡ take i xs → cond b (x ∷ filter p xs) (filter p xs) ≡ x ∷ take i xs
    step true e r = ap (λ ys. x ∷ ys) r
    step false e r = absurd (true≢false (sym e))

pub filter_back : {X : Type 0} (p : X → Bool) (xs : List X) (i : ℕ) → AllWithin (λ y. not (p y) ≡ true) xs 0 i → AllWithin (λ y. not (p y) ≡ false) xs i (length xs) → filter p xs ≡ drop i xs
filter_back p [] zero h k = refl
filter_back p [] (suc i) h k = refl
filter_back p (x ∷ xs) zero h k = step (p x) (k 0 x (omega arith) (omega arith)) (filter_back p xs zero (λ n d a b. absurd (omega (arith, b))) (λ n d a b. k (suc n) d (omega arith) (omega (arith, b))))
  where
    step : (b : Bool) → not b ≡ false → filter p xs ≡ xs → cond b (x ∷ filter p xs) (filter p xs) ≡ x ∷ xs
    step true e r = ap (λ ys. x ∷ ys) r
    step false e r = absurd (true≢false e)
filter_back p (x ∷ xs) (suc i) h k = step (p x) (h 0 x (omega arith) (omega arith)) (filter_back p xs i (λ n d a b. h (suc n) d (omega arith) (omega (arith, b))) (λ n d a b. k (suc n) d (omega (arith, a)) (omega (arith, b))))
  where
    step : (b : Bool) → not b ≡ true → filter p xs ≡ drop i xs → cond b (x ∷ filter p xs) (filter p xs) ≡ drop i xs
    step true e r = absurd (true≢false (sym e))
    step false e r = r

-- ---- along a line
before_chain : (a b c : Corner) → comes_before a b ≡ true → comes_before b c ≡ true → comes_before a c ≡ true
before_chain a b c s t = from_before a c (before_trans (point_of a) (point_of b) (point_of c) a.positive b.positive c.positive (before_from a b s) (before_from b c t))

abbrev AreRising : List Corner → Type 0
AreRising cs = AllPairs (λ c d. comes_before c d ≡ true) cs

not_before : (a b : Bool) → (a ≡ true → b ≡ true) → not b ≡ true → not a ≡ true
not_before true true h e = absurd (true≢false (sym e))
not_before true false h e = absurd (true≢false (sym (h refl)))
not_before false b h e = refl

-- what holds of a later item holds of an earlier one, or of the same
up_to : (i j : ℕ) (P : ℕ → Type 0) → i ≤ j → P j → (i < j → P i) → P i
up_to i j P h p earlier = elim (cases_lt i j) [
  | inl below ↦ earlier below
  | inr above ↦ subst P (same i j h above) p
]
  where
    same : (i j : ℕ) → i ≤ j → j ≤ i → j ≡ i
    same i j h k = omega arith

pub parted_above : (low : Corner) (cs : List Corner) → AreRising cs → IsPartitionedBy (λ c. not (comes_before low c)) cs
parted_above low cs up i j d h within e = up_to i j (λ n. not (comes_before low (get_or cs n d)) ≡ true) h e
    (λ below. not_before (comes_before low (get_or cs i d)) (comes_before low (get_or cs j d)) (λ first. before_chain low (get_or cs i d) (get_or cs j d) first (up i j d below within)) e)

pub parted_below : (high : Corner) (cs : List Corner) → AreRising cs → IsPartitionedBy (λ c. comes_before c high) cs
parted_below high cs up i j d h within e = up_to i j (λ n. comes_before (get_or cs n d) high ≡ true) h e
    (λ below. before_chain (get_or cs i d) (get_or cs j d) high (up i j d below within) e)

-- ---- between two corners
module _ (low high : Corner) (line : List Corner) (first : ℕ) (up : AreRising line) (point : IsPartitionPoint (λ c. not (comes_before low c) ≡ true) (λ c. not (comes_before low c) ≡ false) line first) where
  above : filter (comes_before low) line ≡ drop first line
  above = filter_back (comes_before low) line first point.0 point.1

  pub above_rises : AreRising (drop first line)
  above_rises = subst AreRising above (AllPairs-filter (λ c d. comes_before c d ≡ true) (comes_before low) line up)

  pub among_found : (count : ℕ) → IsPartitionPoint (λ c. comes_before c high ≡ true) (λ c. comes_before c high ≡ false) (drop first line) count → take count (drop first line) ≡ filter (is_among low high) line
  among_found count last = sym (filter_front (λ c. comes_before c high) (drop first line) count last.0 last.1)
      ∙ ap (filter (λ c. comes_before c high)) (sym above)
      ∙ both_filters (comes_before low) (λ c. comes_before c high) line
