-- A pair of places whose edges are not balanced is one of corners of faces.
use Rattle.std.proofs.Common.{◌≡◌, ◌≢◌, ℕ, zero, suc, ◌+◌, ◌<◌, Bool, true, false, cond, ◌&&◌, ◌==◌, List, [], ◌∷◌, All, refl, sym, ap, subst, ◌∙◌, arith}
use Rattle.std.specs.List.{count_by, zip}
use Rattle.std.proofs.lemmas.Bool.Decides.{nat_tests}
use Rattle.std.proofs.lemmas.List.Sums.{sum_by-cons}
use Rattle.std.proofs.lemmas.List.Elements.{All-nil, All-head, All-tail, All-push}
use Rattle.spec_page.specs.Element.{Face}
use Rattle.spec_page.specs.Faces.{rotated, edge_ends, edge_count, goes_between}

zero_more : (n : ℕ) → 0 + n ≡ n
zero_more n = omega arith

module _ (n : ℕ) where
  both_true : (s t : Bool) → (s && t) ≡ true → (s ≡ true) × (t ≡ true)
  both_true true t e = (refl, e)
  both_true false t e = cc

  same_number : (a b : ℕ) → (a == b) ≡ true → a ≡ b
  same_number a b e = grind (arith, nat_tests)

  -- edges between places below n, one of which goes from u to v
  ends_below : (u v : ℕ) (is js : List ℕ) → All (λ i. i < n) is → All (λ i. i < n) js → count_by (goes_between u v) (zip is js) ≢ 0 → (u < n) × (v < n)
  ends_below u v [] js h k some = absurd (some refl)
  ends_below u v (i ∷ is) [] h k some = absurd (some refl)
  ends_below u v (i ∷ is) (j ∷ js) h k some = one (goes_between u v (i, j)) refl
      (λ rest. ends_below u v is js (All-tail (λ i. i < n) i is h) (All-tail (λ i. i < n) j js k) rest)
    where
      one : (t : Bool) → goes_between u v (i, j) ≡ t → (count_by (goes_between u v) (zip is js) ≢ 0 → (u < n) × (v < n)) → (u < n) × (v < n)
      one true e more =
          let two = both_true (i == u) (j == v) e in
          (subst (λ x. x < n) (same_number i u two.0) (All-head (λ i. i < n) i is h), subst (λ x. x < n) (same_number j v two.1) (All-head (λ i. i < n) j js k))
      one false e more = more (λ none. some (sum_by-cons (λ ends. cond (goes_between u v ends) 1 0) (i, j) (zip is js) ∙ ap (λ b. cond b 1 0 + count_by (goes_between u v) (zip is js)) e ∙ zero_more (count_by (goes_between u v) (zip is js)) ∙ none))

  rotated_below : (is : List ℕ) → All (λ i. i < n) is → All (λ i. i < n) (rotated is)
  rotated_below [] h = All-nil (λ i. i < n)
  rotated_below (i ∷ is) h = All-push (λ i. i < n) is i (All-tail (λ i. i < n) i is h) (All-head (λ i. i < n) i is h)

  counted_below : (u v : ℕ) (faces : List Face) → All (λ f. All (λ i. i < n) f.corners) faces → edge_count faces u v ≢ 0 → (u < n) × (v < n)
  counted_below u v [] h some = absurd (some refl)
  counted_below u v (f ∷ fs) h some = one (count_by (goes_between u v) (edge_ends f)) refl
      (λ rest. counted_below u v fs (All-tail (λ f. All (λ i. i < n) f.corners) f fs h) rest)
    where
      one : (m : ℕ) → count_by (goes_between u v) (edge_ends f) ≡ m → (edge_count fs u v ≢ 0 → (u < n) × (v < n)) → (u < n) × (v < n)
      one zero e more = more (λ none. some (sum_by-cons (λ f. count_by (goes_between u v) (edge_ends f)) f fs ∙ ap (λ m. m + edge_count fs u v) e ∙ zero_more (edge_count fs u v) ∙ none))
      one (suc m) e more =
          let places = All-head (λ f. All (λ i. i < n) f.corners) f fs h in
          ends_below u v f.corners (rotated f.corners) places (rotated_below f.corners places) (λ none. apart m (sym e ∙ none))
        where
          apart : (m : ℕ) → suc m ≡ 0 → ⊥
          apart m e = omega arith

  pub pair_below : (faces : List Face) (u v : ℕ) → All (λ f. All (λ i. i < n) f.corners) faces → edge_count faces u v ≢ edge_count faces v u → (u < n) × (v < n)
  pair_below faces u v h apart = by (edge_count faces u v) refl
    where
      some : (k : ℕ) (m : ℕ) → k ≡ suc m → k ≡ 0 → ⊥
      some k m e f = omega arith

      by : (m : ℕ) → edge_count faces u v ≡ m → (u < n) × (v < n)
      by zero e = let two = counted_below v u faces h (λ none. apart (e ∙ sym none)) in (two.1, two.0)
      by (suc m) e = counted_below u v faces h (some (edge_count faces u v) m e)
