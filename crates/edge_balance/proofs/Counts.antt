-- How often edges stand in faces, by sorted lists of the edges and of their reverses.
use Rattle.std.proofs.Common.{◌≡◌, ℕ, suc, ◌+◌, ◌<◌, ◌≤◌, Bool, true, false, cond, ◌&&◌, ◌==◌, List, [], ◌∷◌, ◌++◌, map, length, get_or, Option, Some, None, refl, sym, ap, ap₂, subst, ◌∙◌, arith}
use Rattle.std.specs.Option.{MatchOption}
use Rattle.std.specs.List.{flat_map, count_by}
use Rattle.std.specs.List.Sorted.{IsSorted, IsPermutation}
use Rattle.std.specs.Ordering.{is_lt}
use Rattle.std.specs.declared.cmp.Ordering.{Ordering}
use Rattle.std.specs.declared.cmp.Ordering.TheVariants.{Less, Equal, Greater}
use Rattle.std.proofs.lemmas.List.Sorted.{sorted_far, ranks_by, sum_by-IsPermutation}
use Rattle.std.proofs.lemmas.List.Sums.{sum_by-cons}
use Rattle.spec_page.specs.Element.{Face}
use Rattle.spec_page.specs.Faces.{edge_ends, edge_count, goes_between}
use Rattle.edge_balance.specs.Pairs.{turned, pair_cmp, first_difference}
use Rattle.edge_balance.specs.Balance.{AreBalanced, IsLeastUnbalanced}
use Rattle.edge_balance.proofs.Orders.{pairs_total, up_to}
use Rattle.edge_balance.proofs.Tallies.{is_pair, tally, tally_is, AreUp, Ascends}
use Rattle.edge_balance.proofs.Firsts.{same_tallies, IsLeast, is_least}

-- ---- sorted lists ascend
ascends : (xs : List (ℕ × ℕ)) → IsSorted pair_cmp xs → Ascends xs
ascends [] h = tt
ascends (x ∷ xs) h =
    (up xs (λ j below. sorted_far (λ p q. is_lt (pair_cmp p q)) (ranks_by pairs_total (λ p. p)) (x ∷ xs) h 0 (suc j) x (least (suc j)) below), ascends xs (λ k d low high. later k d (h (suc k) d (least (suc k)) (more k high))))
  where
    least : (j : ℕ) → 0 ≤ j
    least j = omega arith

    more : (k : ℕ) → k + 1 < length xs → suc k + 1 < suc (length xs)
    more k h = omega arith

    later : (k : ℕ) (d : ℕ × ℕ) → is_lt (pair_cmp (get_or (x ∷ xs) (suc k + 1) d) (get_or xs k d)) ≡ false → is_lt (pair_cmp (get_or xs (k + 1) d) (get_or xs k d)) ≡ false
    later k d e = subst (λ j. is_lt (pair_cmp (get_or (x ∷ xs) j d) (get_or xs k d)) ≡ false) (next k) e
      where
        next : (k : ℕ) → suc k + 1 ≡ suc (k + 1)
        next k = omega arith

    up : (ys : List (ℕ × ℕ)) → ((j : ℕ) → suc j < suc (length ys) → is_lt (pair_cmp (get_or ys j x) x) ≡ false) → AreUp x ys
    up [] h = tt
    up (y ∷ ys) h = (h 0 (omega arith), up ys (λ j below. h (suc j) (omega arith)))

-- ---- edges of faces
tally_sum : (q : ℕ × ℕ) (xs ys : List (ℕ × ℕ)) → tally q (xs ++ ys) ≡ tally q xs + tally q ys
tally_sum q [] ys = omega arith
tally_sum q (x ∷ xs) ys = ap (λ n. cond (is_pair q x) 1 0 + n) (tally_sum q xs ys) ∙ omega arith

pub edges_tally : (q : ℕ × ℕ) (faces : List Face) → edge_count faces q.0 q.1 ≡ tally q (flat_map edge_ends faces)
edges_tally q [] = refl
edges_tally q (f ∷ fs) =
    sum_by-cons (λ f. count_by (goes_between q.0 q.1) (edge_ends f)) f fs
    ∙ ap₂ (λ m n. m + n) (tally_is q (edge_ends f)) (edges_tally q fs)
    ∙ sym (tally_sum q (edge_ends f) (flat_map edge_ends fs))

turned_tally : (q : ℕ × ℕ) (xs : List (ℕ × ℕ)) → tally q (map turned xs) ≡ tally (turned q) xs
turned_tally q [] = refl
turned_tally q (x ∷ xs) = ap₂ (λ b n. cond b 1 0 + n) (swap (x.1 == q.0) (x.0 == q.1)) (turned_tally q xs)
  where
    swap : (s t : Bool) → (s && t) ≡ (t && s)
    swap true true = refl
    swap true false = refl
    swap false true = refl
    swap false false = refl

sorted_tally : (q : ℕ × ℕ) (xs ys : List (ℕ × ℕ)) → IsPermutation xs ys → tally q ys ≡ tally q xs
sorted_tally q xs ys h = sym (tally_is q ys) ∙ sum_by-IsPermutation (λ x. cond (is_pair q x) 1 0) xs ys h ∙ tally_is q xs

-- ---- what is found
module _ (faces : List Face) (edges sorted back : List (ℕ × ℕ)) (all : edges ≡ flat_map edge_ends faces) (one : IsPermutation edges sorted) (other : IsPermutation (map turned edges) back) where
  forward : (u v : ℕ) → edge_count faces u v ≡ tally (u, v) sorted
  forward u v = edges_tally (u, v) faces ∙ ap (tally (u, v)) (sym all) ∙ sym (sorted_tally (u, v) edges sorted one)

  backward : (u v : ℕ) → edge_count faces v u ≡ tally (u, v) back
  backward u v = edges_tally (v, u) faces ∙ ap (tally (v, u)) (sym all) ∙ sym (turned_tally (u, v) edges) ∙ sym (sorted_tally (u, v) (map turned edges) back other)

  are_balanced : length back ≡ length sorted → first_difference sorted back ≡ None → AreBalanced faces
  are_balanced level e = λ i j. forward i j ∙ same_tallies sorted back level e (i, j) ∙ sym (backward i j)

  least_unbalanced : (p : ℕ × ℕ) → IsLeast sorted back p → IsLeastUnbalanced faces p.0 p.1
  least_unbalanced p h = record {
    fails = λ e. h.differs (sym (forward p.0 p.1) ∙ e ∙ backward p.0 p.1);
    least = λ i j apart. up_to p (i, j) (by (i, j) (pair_cmp (i, j) p) refl apart);
  }
    where
      by : (q : ℕ × ℕ) (o : Ordering) → pair_cmp q p ≡ o → (edge_count faces q.0 q.1 ≡ edge_count faces q.1 q.0 → ⊥) → is_lt (pair_cmp q p) ≡ false
      by q Less e apart = absurd (apart (forward q.0 q.1 ∙ h.alike q e ∙ sym (backward q.0 q.1)))
      by q Equal e apart = ap is_lt e
      by q Greater e apart = ap is_lt e

  pub pair_found : IsSorted pair_cmp sorted → IsSorted pair_cmp back → length back ≡ length sorted → (found : Option (ℕ × ℕ)) → found ≡ first_difference sorted back
      → MatchOption found (AreBalanced faces) (λ ends. IsLeastUnbalanced faces ends.0 ends.1)
  pair_found up high level None e = are_balanced level (sym e)
  pair_found up high level (Some p) e = least_unbalanced p (is_least sorted back p (ascends sorted up) (ascends back high) (sym e))
