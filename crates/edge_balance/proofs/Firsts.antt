-- What the first difference of two ascending lists says of how often pairs stand in them.
use Rattle.std.proofs.Common.{◌≡◌, ◌≢◌, ℕ, ◌+◌, cond, List, [], ◌∷◌, length, Some, None, refl, sym, ap, ap₂, subst, ◌∙◌, arith}
use Rattle.std.specs.declared.cmp.Ordering.{Ordering}
use Rattle.std.specs.declared.cmp.Ordering.TheVariants.{Less, Equal, Greater}
use Rattle.edge_balance.specs.Pairs.{pair_cmp, lesser_or, first_difference}
use Rattle.edge_balance.proofs.Orders.{pairs_total, back, same_pair}
use Rattle.edge_balance.proofs.Tallies.{is_pair, tally, Ascends, none_before, one_first}

same_more : (x y : ℕ × ℕ) (xs ys : List (ℕ × ℕ)) (q : ℕ × ℕ) (o : Ordering) → pair_cmp x y ≡ o → lesser_or o x y (first_difference xs ys) ≡ None
    → (first_difference xs ys ≡ None → tally q xs ≡ tally q ys) → tally q (x ∷ xs) ≡ tally q (y ∷ ys)
same_more x y xs ys q Less o e more = cc
same_more x y xs ys q Equal o e more = ap₂ (λ z n. cond (is_pair q z) 1 0 + n) (same_pair x y o) (more e)
same_more x y xs ys q Greater o e more = cc

pub same_tallies : (xs ys : List (ℕ × ℕ)) → length ys ≡ length xs → first_difference xs ys ≡ None → (q : ℕ × ℕ) → tally q xs ≡ tally q ys
same_tallies [] [] level e q = refl
same_tallies [] (y ∷ ys) level e q = cc
same_tallies (x ∷ xs) [] level e q = cc
same_tallies (x ∷ xs) (y ∷ ys) level e q = same_more x y xs ys q (pair_cmp x y) refl e (λ rest. same_tallies xs ys (omega arith) rest q)

-- the pair stands a different number of times in the lists, and each pair before it equally often
pub record IsLeast (xs ys : List (ℕ × ℕ)) (p : ℕ × ℕ) : Type 0 where
  pub differs : tally p xs ≢ tally p ys
  pub alike : (q : ℕ × ℕ) → pair_cmp q p ≡ Less → tally q xs ≡ tally q ys

-- the lists begin with different pairs
lesser_first : (x y : ℕ × ℕ) (xs ys : List (ℕ × ℕ)) → pair_cmp x y ≡ Less → Ascends (x ∷ xs) → Ascends (y ∷ ys) → IsLeast (x ∷ xs) (y ∷ ys) x
lesser_first x y xs ys less up high = record {
  differs = λ e. apart (tally x xs) (sym (one_first x xs) ∙ e ∙ none_before x y ys less high);
  alike = λ q before. none_before q x xs before up ∙ sym (none_before q y ys (pairs_total.trans q x y before less) high);
}
  where
    apart : (n : ℕ) → 1 + n ≡ 0 → ⊥
    apart n e = omega arith

turned_least : (xs ys : List (ℕ × ℕ)) (p : ℕ × ℕ) → IsLeast xs ys p → IsLeast ys xs p
turned_least xs ys p h = record { differs = λ e. h.differs (sym e); alike = λ q before. sym (h.alike q before) }

more_least : (x y p : ℕ × ℕ) (xs ys : List (ℕ × ℕ)) → x ≡ y → IsLeast xs ys p → IsLeast (x ∷ xs) (y ∷ ys) p
more_least x y p xs ys e h = record {
  differs = λ k. h.differs (same (cond (is_pair p x) 1 0) (cond (is_pair p y) 1 0) (tally p xs) (tally p ys) (ap (λ z. cond (is_pair p z) 1 0) e) k);
  alike = λ q before. ap₂ (λ z n. cond (is_pair q z) 1 0 + n) e (h.alike q before);
}
  where
    same : (a b m n : ℕ) → a ≡ b → a + m ≡ b + n → m ≡ n
    same a b m n e k = omega arith

some : (z p : ℕ × ℕ) → Some z ≡ Some p → z ≡ p
some z p e = cc

least_more : (x y p : ℕ × ℕ) (xs ys : List (ℕ × ℕ)) → Ascends (x ∷ xs) → Ascends (y ∷ ys) → (o : Ordering) → pair_cmp x y ≡ o
    → lesser_or o x y (first_difference xs ys) ≡ Some p → (first_difference xs ys ≡ Some p → IsLeast xs ys p) → IsLeast (x ∷ xs) (y ∷ ys) p
least_more x y p xs ys up high Less o e more = subst (IsLeast (x ∷ xs) (y ∷ ys)) (some x p e) (lesser_first x y xs ys o up high)
least_more x y p xs ys up high Equal o e more = more_least x y p xs ys (same_pair x y o) (more e)
least_more x y p xs ys up high Greater o e more =
    subst (IsLeast (x ∷ xs) (y ∷ ys)) (some y p e) (turned_least (y ∷ ys) (x ∷ xs) y (lesser_first y x ys xs (back x y Greater o) high up))

pub is_least : (xs ys : List (ℕ × ℕ)) (p : ℕ × ℕ) → Ascends xs → Ascends ys → first_difference xs ys ≡ Some p → IsLeast xs ys p
is_least [] ys p up high e = cc
is_least (x ∷ xs) [] p up high e = cc
is_least (x ∷ xs) (y ∷ ys) p up high e = least_more x y p xs ys up high (pair_cmp x y) refl e (λ rest. is_least xs ys p up.1 high.1 rest)
