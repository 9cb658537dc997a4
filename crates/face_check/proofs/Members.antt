-- What holds of each member of a mapped list.
use Rattle.std.proofs.Common.{◌≡◌, ℕ, zero, suc, ◌<◌, List, [], ◌∷◌, map, length, take, drop, get_or, ◌-◌, All, sym, subst, arith}
use Rattle.std.proofs.lemmas.List.Elements.{All-head, All-tail, All-take, All-drop}

-- what holds of each image holds of the image of each
pub at_image : {X Y : Type 0} (P : Y → Type 0) (f : X → Y) (xs : List X) (i : ℕ) (d : X) → All P (map f xs) → i < length xs → P (f (get_or xs i d))
at_image P f [] i d h below = absurd (omega arith)
at_image P f (x ∷ xs) zero d h below = All-head P (f x) (map f xs) h
at_image P f (x ∷ xs) (suc i) d h below = at_image P f xs i d (All-tail P (f x) (map f xs) h) (omega arith)

pub each_image : {X Y : Type 0} (P : Y → Type 0) (f : X → Y) (xs : List X) → All P (map f xs) → All (λ x. P (f x)) xs
each_image P f xs h k d below = at_image P f xs k d h below

pub image_of : {X Y : Type 0} (P : Y → Type 0) (f : X → Y) (xs : List X) (i : ℕ) (x : X) → All P (map f xs) → i < length xs → x ≡ get_or xs i x → P (f x)
image_of P f xs i x h below is = subst (λ y. P (f y)) (sym is) (at_image P f xs i x h below)

-- what holds of each member holds of each behind the first
pub behind_first : {X : Type 0} (P : X → Type 0) (xs : List X) → All P xs → All P (take (length xs - 1) (drop 1 xs))
behind_first P xs h = All-take P (length xs - 1) (drop 1 xs) (All-drop P 1 xs h)
