-- Tests of each element of a list, and lists that are made of each element.
use Rattle.std.proofs.Common.{◌≡◌, ℕ, ◌+◌, ◌<◌, ◌≤◌, Bool, true, false, ◌&&◌, List, [], ◌∷◌, ◌++◌, length, map, drop, get_or, refl, sym, ap, ◌∙◌, true≢false}
use Rattle.std.specs.List.{flat_map, list_all, All}
use Rattle.std.proofs.lemmas.List.{drop_more, drop_all, append_assoc, append-nil}
use Rattle.std.proofs.lemmas.List.Elements.{All-nil, All-cons, All-head, All-tail, All-get_or}

-- both parts of a test
pub first_true : (p q : Bool) → (p && q) ≡ true → p ≡ true
first_true true q e = refl
first_true false q e = e

pub second_true : (p q : Bool) → (p && q) ≡ true → q ≡ true
second_true true q e = e
second_true false q e = absurd (true≢false (sym e))

pub passed : {X : Type 0} (p : X → Bool) (P : X → Type 0) (each : (x : X) → p x ≡ true → P x) (xs : List X) → list_all p xs ≡ true → All P xs
passed p P each [] e = All-nil P
passed p P each (x ∷ xs) e = All-cons P x xs (each x (first_true (p x) (list_all p xs) e)) (passed p P each xs (second_true (p x) (list_all p xs) e))

all_mapped : {X Y : Type 0} (P : Y → Type 0) (f : X → Y) (xs : List X) → All P (map f xs) → All (λ x. P (f x)) xs
all_mapped P f [] h = All-nil (λ x. P (f x))
all_mapped P f (x ∷ xs) h = All-cons (λ x. P (f x)) x xs (All-head P (f x) (map f xs) h) (all_mapped P f xs (All-tail P (f x) (map f xs) h))

pub mapped_at : {X Y : Type 0} (P : Y → Type 0) (f : X → Y) (xs : List X) (i : ℕ) (d : X) → i < length xs → All P (map f xs) → P (f (get_or xs i d))
mapped_at P f xs i d l h = All-get_or (λ x. P (f x)) xs i d l (all_mapped P f xs h)

-- lists that are made of each element, one after another
pub lists_step : {X Y : Type 0} (f : X → List Y) (xs : List X) (i : ℕ) (d : X) (ys more all : List Y) → i < length xs → more ≡ ys ++ f (get_or xs i d)
    → ys ++ flat_map f (drop i xs) ≡ all → more ++ flat_map f (drop (i + 1) xs) ≡ all
lists_step f xs i d ys more all l e h =
    ap (λ zs. zs ++ flat_map f (drop (i + 1) xs)) e
    ∙ append_assoc ys (f (get_or xs i d)) (flat_map f (drop (i + 1) xs))
    ∙ ap (λ zs. ys ++ flat_map f zs) (sym (drop_more xs i d l))
    ∙ h

pub lists_end : {X Y : Type 0} (f : X → List Y) (xs : List X) (i : ℕ) (ys all : List Y) → length xs ≤ i → ys ++ flat_map f (drop i xs) ≡ all → ys ≡ all
lists_end f xs i ys all l h = sym (append-nil ys) ∙ ap (λ zs. ys ++ flat_map f zs) (sym (drop_all i xs l)) ∙ h
