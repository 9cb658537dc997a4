-- How often a pair stands in a list of pairs that ascends.
use Rattle.std.proofs.Common.{◌≡◌, ℕ, ◌+◌, ◌==◌, Bool, true, false, cond, ◌&&◌, List, [], ◌∷◌, refl, ap, ap₂, subst, ◌∙◌, arith}
use Rattle.std.specs.Ordering.{is_lt}
use Rattle.std.specs.List.{count_by}
use Rattle.std.specs.declared.cmp.Ordering.TheVariants.{Less}
use Rattle.std.proofs.lemmas.Bool.Decides.{nat_tests}
use Rattle.std.proofs.lemmas.List.Sums.{sum_by-cons}
use Rattle.spec_page.specs.Faces.{goes_between}
use Rattle.edge_balance.specs.Pairs.{pair_cmp}
use Rattle.edge_balance.proofs.Orders.{itself}

-- the pair is this one
abbrev pub is_pair : ℕ × ℕ → ℕ × ℕ → Bool
is_pair q ends = goes_between q.0 q.1 ends

abbrev pub tally : ℕ × ℕ → List (ℕ × ℕ) → ℕ
tally q [] = 0
tally q (x ∷ xs) = cond (is_pair q x) 1 0 + tally q xs

pub tally_is : (q : ℕ × ℕ) (xs : List (ℕ × ℕ)) → count_by (is_pair q) xs ≡ tally q xs
tally_is q [] = refl
tally_is q (x ∷ xs) = sum_by-cons (λ y. cond (is_pair q y) 1 0) x xs ∙ ap (λ n. cond (is_pair q x) 1 0 + n) (tally_is q xs)

no : (s : Bool) → s ≡ true → s ≡ false → ⊥
no true a b = cc
no false a b = cc

both_true : (s t : Bool) → (s && t) ≡ true → (s ≡ true) × (t ≡ true)
both_true true t e = (refl, e)
both_true false t e = cc

pub is_same : (q x : ℕ × ℕ) → is_pair q x ≡ true → x ≡ q
is_same q x h =
    let both = both_true (x.0 == q.0) (x.1 == q.1) h in
    let first = number x.0 q.0 both.0 in
    let second = number x.1 q.1 both.1 in
    λ i. (first i, second i)
  where
    number : (a b : ℕ) → (a == b) ≡ true → a ≡ b
    number a b e = grind (arith, nat_tests)

pub own : (q : ℕ × ℕ) → is_pair q q ≡ true
own q = λ i. number q.0 i && number q.1 i
  where
    number : (a : ℕ) → (a == a) ≡ true
    number a = grind (arith, nat_tests)

-- a pair before another is not it
pub not_pair : (q x : ℕ × ℕ) → pair_cmp q x ≡ Less → is_pair q x ≡ false
not_pair q x less = by (is_pair q x) refl
  where
    by : (s : Bool) → is_pair q x ≡ s → s ≡ false
    by false e = refl
    by true e = absurd (apart (subst (λ y. pair_cmp q y ≡ Less) (is_same q x e) less))
      where
        apart : pair_cmp q q ≡ Less → ⊥
        apart h = let level = itself q in cc

-- all of the pairs come behind this one or are the same
abbrev pub AreUp : ℕ × ℕ → List (ℕ × ℕ) → Type 0
AreUp x [] = Unit {0}
AreUp x (y ∷ ys) = (is_lt (pair_cmp y x) ≡ false) × AreUp x ys

abbrev pub Ascends : List (ℕ × ℕ) → Type 0
Ascends [] = Unit {0}
Ascends (x ∷ xs) = AreUp x xs × Ascends xs

-- no pair before the first of a list that ascends stands in it
none_up : (q x : ℕ × ℕ) (ys : List (ℕ × ℕ)) → pair_cmp q x ≡ Less → AreUp x ys → tally q ys ≡ 0
none_up q x [] less up = refl
none_up q x (y ∷ ys) less up = ap₂ (λ b n. cond b 1 0 + n) (by (is_pair q y) refl) (none_up q x ys less up.1)
  where
    by : (s : Bool) → is_pair q y ≡ s → s ≡ false
    by false e = refl
    by true e = absurd (no (is_lt (pair_cmp q x)) (ap is_lt less) (subst (λ z. is_lt (pair_cmp z x) ≡ false) (is_same q y e) up.0))

pub none_before : (q x : ℕ × ℕ) (xs : List (ℕ × ℕ)) → pair_cmp q x ≡ Less → Ascends (x ∷ xs) → tally q (x ∷ xs) ≡ 0
none_before q x xs less up = ap₂ (λ b n. cond b 1 0 + n) (not_pair q x less) (none_up q x xs less up.0)

-- the first of a list stands in it
pub one_first : (x : ℕ × ℕ) (xs : List (ℕ × ℕ)) → tally x (x ∷ xs) ≡ 1 + tally x xs
one_first x xs = ap (λ b. cond b 1 0 + tally x xs) (own x)
