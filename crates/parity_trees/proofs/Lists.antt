-- Lists of sides: tests of all, counts of those of another plane, and one round of a loop over a list.
use Rattle.std.proofs.Common.{◌≡◌, ℕ, zero, suc, ◌+◌, ◌<◌, ◌≤◌, Bool, true, false, ◌&&◌, nat_eq, if◌then◌else◌, List, [], ◌∷◌, ◌++◌, length, get_or, drop, drop-cons, add-one, refl, sym, ap, subst, ◌∙◌, arith, eqb→eq, eq-eqb, T, inl, inr}
use Rattle.std.specs.List.{list_all, Contains, flat_map}
use Rattle.std.proofs.lemmas.List.Elements.{Contains-append_left, Contains-append_right, Contains-append_cases}
use Rattle.plane_cells.specs.declared.steps.Step.{Step}
use Rattle.parity_trees.specs.Works.{others}

-- what is left of a list from a place on
pub left_here : {X : Type 0} (xs : List X) (x : X) (i : ℕ) → i < length xs → x ≡ get_or xs i x → drop i xs ≡ x ∷ drop (i + 1) xs
left_here xs x i h e = drop-cons xs i x h ∙ rw (← e, add-one) refl

pub none_left : {X : Type 0} (xs : List X) (i : ℕ) → length xs ≤ i → drop i xs ≡ []
none_left [] zero h = refl
none_left [] (suc i) h = refl
none_left (x ∷ xs) zero h = absurd (omega arith)
none_left (x ∷ xs) (suc i) h = none_left xs i (omega arith)

-- ---- tests of all
and_assoc : (p q r : Bool) → (p && (q && r)) ≡ ((p && q) && r)
and_assoc true q r = refl
and_assoc false q r = refl

and_true : (p : Bool) → (p && true) ≡ p
and_true true = refl
and_true false = refl

pub all_push : {X : Type 0} (test : X → Bool) (xs : List X) (x : X) (p : Bool) → (list_all test xs && (test x && p)) ≡ (list_all test (xs ++ x ∷ []) && p)
all_push test [] x p = ap (λ b. b && p) (sym (and_true (test x)))
all_push test (y ∷ ys) x p = sym (and_assoc (test y) (list_all test ys) (test x && p)) ∙ ap (λ b. test y && b) (all_push test ys x p) ∙ and_assoc (test y) (list_all test (ys ++ x ∷ [])) p

pub all_end : (p : Bool) → (p && true) ≡ p
all_end p = and_true p

pub all_none : (p q : Bool) → q ≡ false → (p && q) ≡ false
all_none true q e = e
all_none false q e = refl

-- ---- the sides of another plane
abbrev is_same : Step → Step → Bool
is_same taken s = nat_eq s.plane.k taken.plane.k

skip : (b : Bool) (n : ℕ) → (if b then n else suc n) ≤ suc n
skip true n = omega arith
skip false n = omega arith

keep : (b : Bool) (n : ℕ) → n ≤ (if b then n else suc n)
keep true n = omega arith
keep false n = omega arith

added : (b : Bool) (m n : ℕ) → (if b then m + n else suc (m + n)) ≡ (if b then m else suc m) + n
added true m n = refl
added false m n = omega arith

pub others_append : (taken : Step) (xs ys : List Step) → others taken (xs ++ ys) ≡ others taken xs + others taken ys
others_append taken [] ys = omega arith
others_append taken (x ∷ xs) ys = ap (λ n. if is_same taken x then n else suc n) (others_append taken xs ys) ∙ added (is_same taken x) (others taken xs) (others taken ys)

pub others_most : (taken : Step) (xs : List Step) → others taken xs ≤ length xs
others_most taken [] = omega arith
others_most taken (x ∷ xs) =
    let h = others_most taken xs in
    let k = skip (is_same taken x) (others taken xs) in
    omega arith

-- a side of the plane itself is not counted
pub others_here : (taken x : Step) (xs : List Step) → x.plane.k ≡ taken.plane.k → others taken (x ∷ xs) ≡ others taken xs
others_here taken x xs e = ap (λ k. if nat_eq k taken.plane.k then others taken xs else suc (others taken xs)) e ∙ same taken.plane.k
  where
    same : (k : ℕ) → (if nat_eq k k then others taken xs else suc (others taken xs)) ≡ others taken xs
    same k = by (nat_eq k k) (eq-eqb k k refl)
      where
        by : (b : Bool) → b ≡ true → (if b then others taken xs else suc (others taken xs)) ≡ others taken xs
        by true e = refl
        by false e = cc

pub others_other : (taken x : Step) (xs : List Step) → (x.plane.k ≡ taken.plane.k → ⊥) → others taken (x ∷ xs) ≡ suc (others taken xs)
others_other taken x xs apart = by (is_same taken x) refl
  where
    by : (b : Bool) → is_same taken x ≡ b → (if b then others taken xs else suc (others taken xs)) ≡ suc (others taken xs)
    by true e = absurd (apart (eqb→eq x.plane.k taken.plane.k (subst T (sym e) tt)))
    by false e = refl

pub others_next : (taken x : Step) (xs : List Step) → others taken xs ≤ others taken (x ∷ xs)
others_next taken x xs = keep (is_same taken x) (others taken xs)

-- a list that has a side of the plane has more sides than those of other planes
pub others_fewer : (taken s : Step) (xs : List Step) → s.plane.k ≡ taken.plane.k → Contains xs s → others taken xs < length xs
others_fewer taken s xs e (i, h, at) = by taken xs i h (ap (λ x. x.plane.k) at ∙ e)
  where
    by : (taken : Step) (xs : List Step) (i : ℕ) → i < length xs → (get_or xs i s).plane.k ≡ taken.plane.k → others taken xs < length xs
    by taken [] i h e = absurd (omega arith)
    by taken (x ∷ xs) zero h e = let k = others_here taken x xs e in let m = others_most taken xs in omega arith
    by taken (x ∷ xs) (suc i) h e = let k = by taken xs i (omega arith) e in let m = skip (is_same taken x) (others taken xs) in omega arith

-- ---- parts of lists
pub contains_push : {X : Type 0} (xs ys : List X) (x : X) → ((z : X) → Contains xs z → Contains ys z) → Contains ys x → (z : X) → Contains (xs ++ x ∷ []) z → Contains ys z
contains_push xs ys x all here z c = elim (Contains-append_cases xs (x ∷ []) z c) [ inl i ↦ all z i | inr i ↦ subst (Contains ys) (single x z i) here ]
  where
    single : {X : Type 0} (x z : X) → Contains (x ∷ []) z → x ≡ z
    single x z (zero, h, e) = e
    single x z (suc i, h, e) = absurd (omega arith)

pub contains_flat : {X A : Type 0} (f : X → List A) (xs : List X) (x : X) (a : A) → Contains xs x → Contains (f x) a → Contains (flat_map f xs) a
contains_flat f [] x a (i, h, e) k = absurd (omega arith)
contains_flat f (y ∷ ys) x a (zero, h, e) k = Contains-append_left (f y) (flat_map f ys) a (subst (λ z. Contains (f z) a) (sym e) k)
contains_flat f (y ∷ ys) x a (suc i, h, e) k = Contains-append_right (f y) (flat_map f ys) a (contains_flat f ys x a (i, omega arith, e) k)

-- ---- the item at a place, whatever stands for one beyond the end
item_at : {X : Type 0} (xs : List X) (i : ℕ) (d e : X) → i < length xs → get_or xs i d ≡ get_or xs i e
item_at [] i d e h = absurd (omega arith)
item_at (x ∷ xs) zero d e h = refl
item_at (x ∷ xs) (suc i) d e h = item_at xs i d e (omega arith)

pub has_item : {X : Type 0} (xs : List X) (i : ℕ) (d : X) → i < length xs → Contains xs (get_or xs i d)
has_item xs i d h = (i, h, item_at xs i (get_or xs i d) d h)

pub left_at : {X : Type 0} (xs : List X) (i : ℕ) (d : X) → i < length xs → drop i xs ≡ get_or xs i d ∷ drop (i + 1) xs
left_at xs i d h = drop-cons xs i d h ∙ rw add-one refl
