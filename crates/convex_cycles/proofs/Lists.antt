-- Lists in proofs: facts of each item and of each pair, by recursion, and members.
use Rattle.std.proofs.Common.{◌≡◌, ◌⊎◌, inl, inr, List, [], ◌∷◌, ◌++◌, map, suc, All, refl, sym, subst, arith}
use Rattle.std.specs.List.{AllPairs}
use Rattle.std.proofs.lemmas.List.Elements.{All-nil, All-cons, All-head, All-tail}
use Rattle.std.proofs.lemmas.List.Kept.{AllPairs-cons}

-- P holds of each item
abbrev pub Each : {X : Type 0} → (X → Type 0) → List X → Type 0
Each P [] = Unit {0}
Each P (x ∷ xs) = P x × Each P xs

-- R holds of each item and each later one
abbrev pub EachPair : {X : Type 0} → (X → X → Type 0) → List X → Type 0
EachPair R [] = Unit {0}
EachPair R (x ∷ xs) = Each (R x) xs × EachPair R xs

-- x is in the list
abbrev pub Member : {X : Type 0} → X → List X → Type 0
Member x [] = ⊥
Member x (y ∷ ys) = (x ≡ y) ⊎ Member x ys

-- each item of a list of lists, in order
abbrev pub joined : {X Y : Type 0} → (X → List Y) → List X → List Y
joined f [] = []
joined f (x ∷ xs) = f x ++ joined f xs

-- ---- each item
pub each_member : {X : Type 0} (P : X → Type 0) (x : X) (xs : List X) → Member x xs → Each P xs → P x
each_member P x [] m e = absurd m
each_member P x (y ∷ ys) (inl same) e = subst P (sym same) e.0
each_member P x (y ∷ ys) (inr m) e = each_member P x ys m e.1

pub each_from_members : {X : Type 0} (P : X → Type 0) (xs : List X) → ((x : X) → Member x xs → P x) → Each P xs
each_from_members P [] h = tt
each_from_members P (x ∷ xs) h = (h x (inl refl), each_from_members P xs (λ y m. h y (inr m)))

pub each_weaker : {X : Type 0} (P Q : X → Type 0) → ((x : X) → P x → Q x) → (xs : List X) → Each P xs → Each Q xs
each_weaker P Q h [] e = tt
each_weaker P Q h (x ∷ xs) e = (h x e.0, each_weaker P Q h xs e.1)

pub each_both : {X : Type 0} (P Q : X → Type 0) (xs : List X) → Each P xs → Each Q xs → Each (λ x. P x × Q x) xs
each_both P Q [] p q = tt
each_both P Q (x ∷ xs) p q = ((p.0, q.0), each_both P Q xs p.1 q.1)

pub each_append : {X : Type 0} (P : X → Type 0) (xs ys : List X) → Each P xs → Each P ys → Each P (xs ++ ys)
each_append P [] ys p q = q
each_append P (x ∷ xs) ys p q = (p.0, each_append P xs ys p.1 q)

pub each_split : {X : Type 0} (P : X → Type 0) (xs ys : List X) → Each P (xs ++ ys) → Each P xs × Each P ys
each_split P [] ys p = (tt, p)
each_split P (x ∷ xs) ys p = let r = each_split P xs ys p.1 in ((p.0, r.0), r.1)

pub each_map : {X Y : Type 0} (P : Y → Type 0) (f : X → Y) (xs : List X) → Each (λ x. P (f x)) xs → Each P (map f xs)
each_map P f [] e = tt
each_map P f (x ∷ xs) e = (e.0, each_map P f xs e.1)

pub each_from_map : {X Y : Type 0} (P : Y → Type 0) (f : X → Y) (xs : List X) → Each P (map f xs) → Each (λ x. P (f x)) xs
each_from_map P f [] e = tt
each_from_map P f (x ∷ xs) e = (e.0, each_from_map P f xs e.1)

pub member_map : {X Y : Type 0} (f : X → Y) (x : X) (xs : List X) → Member x xs → Member (f x) (map f xs)
member_map f x [] m = absurd m
member_map f x (y ∷ ys) (inl same) = inl (λ i. f (same i))
member_map f x (y ∷ ys) (inr m) = inr (member_map f x ys m)

pub member_left : {X : Type 0} (x : X) (xs ys : List X) → Member x xs → Member x (xs ++ ys)
member_left x [] ys m = absurd m
member_left x (y ∷ xs) ys (inl same) = inl same
member_left x (y ∷ xs) ys (inr m) = inr (member_left x xs ys m)

pub member_right : {X : Type 0} (x : X) (xs ys : List X) → Member x ys → Member x (xs ++ ys)
member_right x [] ys m = m
member_right x (y ∷ xs) ys m = inr (member_right x xs ys m)

pub member_joined : {X Y : Type 0} (f : X → List Y) (y : Y) (x : X) (xs : List X) → Member x xs → Member y (f x) → Member y (joined f xs)
member_joined f y x [] m n = absurd m
member_joined f y x (z ∷ zs) (inl same) n = member_left y (f z) (joined f zs) (subst (λ t. Member y (f t)) same n)
member_joined f y x (z ∷ zs) (inr m) n = member_right y (f z) (joined f zs) (member_joined f y x zs m n)

pub each_joined : {X Y : Type 0} (P : Y → Type 0) (f : X → List Y) (xs : List X) → Each (λ x. Each P (f x)) xs → Each P (joined f xs)
each_joined P f [] e = tt
each_joined P f (x ∷ xs) e = each_append P (f x) (joined f xs) e.0 (each_joined P f xs e.1)

pub each_from_joined : {X Y : Type 0} (P : Y → Type 0) (f : X → List Y) (xs : List X) → Each P (joined f xs) → Each (λ x. Each P (f x)) xs
each_from_joined P f [] e = tt
each_from_joined P f (x ∷ xs) e = let r = each_split P (f x) (joined f xs) e in (r.0, each_from_joined P f xs r.1)

-- ---- each pair
-- two members are one, or the fact holds of them in the order in which they stand
pub pair_member : {X : Type 0} (R : X → X → Type 0) → ((x y : X) → R x y → R y x) → (x y : X) (xs : List X) → EachPair R xs → Member x xs → Member y xs → (x ≡ y) ⊎ R x y
pair_member R turned x y [] e m n = absurd m
pair_member R turned x y (z ∷ zs) e (inl same) (inl too) = inl (subst (λ t. x ≡ t) (sym too) same)
pair_member R turned x y (z ∷ zs) e (inl same) (inr n) = inr (subst (λ t. R t y) (sym same) (each_member (R z) y zs n e.0))
pair_member R turned x y (z ∷ zs) e (inr m) (inl too) = inr (turned y x (subst (λ t. R t x) (sym too) (each_member (R z) x zs m e.0)))
pair_member R turned x y (z ∷ zs) e (inr m) (inr n) = pair_member R turned x y zs e.1 m n

pub pair_weaker : {X : Type 0} (R Q : X → X → Type 0) → ((x y : X) → R x y → Q x y) → (xs : List X) → EachPair R xs → EachPair Q xs
pair_weaker R Q h [] e = tt
pair_weaker R Q h (x ∷ xs) e = (each_weaker (R x) (Q x) (h x) xs e.0, pair_weaker R Q h xs e.1)

-- a fact of pairs of which each item has a fact of its own
pub pair_with : {X : Type 0} (P : X → Type 0) (R Q : X → X → Type 0) → ((x y : X) → P x → P y → R x y → Q x y) → (xs : List X) → Each P xs → EachPair R xs → EachPair Q xs
pair_with P R Q h [] p e = tt
pair_with P R Q h (x ∷ xs) p e = (each_weaker (λ y. P y × R x y) (Q x) (λ y b. h x y p.0 b.0 b.1) xs (each_both P (R x) xs p.1 e.0), pair_with P R Q h xs p.1 e.1)

-- each item of one list with each of another
abbrev pub Across : {X : Type 0} → (X → X → Type 0) → List X → List X → Type 0
Across R xs ys = Each (λ x. Each (R x) ys) xs

pub pair_append : {X : Type 0} (R : X → X → Type 0) (xs ys : List X) → EachPair R xs → Across R xs ys → EachPair R ys → EachPair R (xs ++ ys)
pair_append R [] ys p c q = q
pair_append R (x ∷ xs) ys p c q = (each_append (R x) xs ys p.0 c.0, pair_append R xs ys p.1 c.1 q)

across_joined : {X Y : Type 0} (R : Y → Y → Type 0) (ys : List Y) (f : X → List Y) (xs : List X) → Each (λ x. Across R ys (f x)) xs → Across R ys (joined f xs)
across_joined R [] f xs e = tt
across_joined R (y ∷ ys) f xs e = (
  each_joined (R y) f xs (each_weaker (λ x. Across R (y ∷ ys) (f x)) (λ x. Each (R y) (f x)) (λ x h. h.0) xs e),
  across_joined R ys f xs (each_weaker (λ x. Across R (y ∷ ys) (f x)) (λ x. Across R ys (f x)) (λ x h. h.1) xs e),
)

pub pair_joined : {X Y : Type 0} (R : Y → Y → Type 0) (f : X → List Y) (xs : List X) → Each (λ x. EachPair R (f x)) xs → EachPair (λ x y. Across R (f x) (f y)) xs → EachPair R (joined f xs)
pair_joined R f [] e p = tt
pair_joined R f (x ∷ xs) e p = pair_append R (f x) (joined f xs) e.0 (across_joined R (f x) f xs p.0) (pair_joined R f xs e.1 p.1)

-- ---- from and to the words of std
pub each_from_all : {X : Type 0} (P : X → Type 0) (xs : List X) → All P xs → Each P xs
each_from_all P [] a = tt
each_from_all P (x ∷ xs) a = (All-head P x xs a, each_from_all P xs (All-tail P x xs a))

pub all_from_each : {X : Type 0} (P : X → Type 0) (xs : List X) → Each P xs → All P xs
all_from_each P [] e = All-nil P
all_from_each P (x ∷ xs) e = All-cons P x xs e.0 (all_from_each P xs e.1)

pub pairs_head : {X : Type 0} (R : X → X → Type 0) (x : X) (xs : List X) → AllPairs R (x ∷ xs) → All (R x) xs
pairs_head R x xs a = λ k d h. a 0 (suc k) d (omega arith) (omega arith)

pub pairs_tail : {X : Type 0} (R : X → X → Type 0) (x : X) (xs : List X) → AllPairs R (x ∷ xs) → AllPairs R xs
pairs_tail R x xs a = λ i j d h k. a (suc i) (suc j) d (omega arith) (omega arith)

pub pair_from_all : {X : Type 0} (R : X → X → Type 0) (xs : List X) → AllPairs R xs → EachPair R xs
pair_from_all R [] a = tt
pair_from_all R (x ∷ xs) a = (each_from_all (R x) xs (pairs_head R x xs a), pair_from_all R xs (pairs_tail R x xs a))

pub all_from_pair : {X : Type 0} (R : X → X → Type 0) (xs : List X) → EachPair R xs → AllPairs R xs
all_from_pair R [] e = λ i j d h k. absurd (omega arith)
all_from_pair R (x ∷ xs) e = AllPairs-cons R x xs (all_from_each (R x) xs e.0) (all_from_pair R xs e.1)
