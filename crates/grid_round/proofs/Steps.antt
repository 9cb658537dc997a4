-- One step of a loop over a list, and its end: what is made of each element, and a test of each.
use Rattle.std.proofs.Common.{◌≡◌, ℕ, ◌+◌, ◌<◌, ◌≤◌, Bool, true, false, ◌&&◌, List, [], ◌∷◌, ◌++◌, length, map, drop, get_or, sym, ap, ◌∙◌}
use Rattle.std.specs.List.{list_all}
use Rattle.std.proofs.lemmas.List.{drop_more, drop_all, append_assoc, append-nil}

-- lists of what is made of each element
pub map_step : {X Y : Type 0} (f : X → Y) (xs : List X) (i : ℕ) (d : X) (ys more all : List Y) → i < length xs → more ≡ ys ++ f (get_or xs i d) ∷ []
    → ys ++ map f (drop i xs) ≡ all → more ++ map f (drop (i + 1) xs) ≡ all
map_step f xs i d ys more all l e h =
    ap (λ zs. zs ++ map f (drop (i + 1) xs)) e
    ∙ append_assoc ys (f (get_or xs i d) ∷ []) (map f (drop (i + 1) xs))
    ∙ ap (λ zs. ys ++ map f zs) (sym (drop_more xs i d l))
    ∙ h

pub map_end : {X Y : Type 0} (f : X → Y) (xs : List X) (i : ℕ) (ys all : List Y) → length xs ≤ i → ys ++ map f (drop i xs) ≡ all → ys ≡ all
map_end f xs i ys all l h = sym (append-nil ys) ∙ ap (λ zs. ys ++ map f zs) (sym (drop_all i xs l)) ∙ h

-- tests of each element
first_test : {X Y : Type 0} (p : Y → Bool) (f : X → Y) (xs : List X) (i : ℕ) (d : X) (b whole : Bool) → i < length xs → p (f (get_or xs i d)) ≡ b
    → list_all p (map f (drop i xs)) ≡ whole → (b && list_all p (map f (drop (i + 1) xs))) ≡ whole
first_test p f xs i d b whole l e h =
    sym (ap (λ c. c && list_all p (map f (drop (i + 1) xs))) e) ∙ sym (ap (λ zs. list_all p (map f zs)) (drop_more xs i d l)) ∙ h

pub test_step : {X Y : Type 0} (p : Y → Bool) (f : X → Y) (xs : List X) (i : ℕ) (d : X) (whole : Bool) → i < length xs → p (f (get_or xs i d)) ≡ true
    → list_all p (map f (drop i xs)) ≡ whole → list_all p (map f (drop (i + 1) xs)) ≡ whole
test_step p f xs i d whole l e h = first_test p f xs i d true whole l e h

pub test_fails : {X Y : Type 0} (p : Y → Bool) (f : X → Y) (xs : List X) (i : ℕ) (d : X) (whole : Bool) → i < length xs → p (f (get_or xs i d)) ≡ false
    → list_all p (map f (drop i xs)) ≡ whole → false ≡ whole
test_fails p f xs i d whole l e h = first_test p f xs i d false whole l e h

pub test_end : {X Y : Type 0} (p : Y → Bool) (f : X → Y) (xs : List X) (i : ℕ) (whole : Bool) → length xs ≤ i → list_all p (map f (drop i xs)) ≡ whole → true ≡ whole
test_end p f xs i whole l h = sym (ap (λ zs. list_all p (map f zs)) (drop_all i xs l)) ∙ h
