-- Lists the other way round and begun one later.
use Rattle.std.proofs.Common.{◌≡◌, inl, inr, Bool, true, false, List, [], ◌∷◌, ◌++◌, map, reverse, refl, sym, ap, ◌∙◌, subst}
use Rattle.std.proofs.lemmas.List.{reverse-append, reverse-reverse}
use Rattle.spec_page.specs.Faces.{rotated}
use Rattle.convex_cycles.proofs.Lists.{Each, EachPair, Member, each_append, each_split, each_weaker, member_left, member_right, pair_append}
use Rattle.poly_frag.specs.declared.frag.Edge.{Edge}
use Rattle.edge_cut.specs.Seen.{edges_seen}

pub reverse-cons : {X : Type 0} (x : X) (xs : List X) → reverse (x ∷ xs) ≡ reverse xs ++ x ∷ []
reverse-cons x xs = reverse-append (x ∷ []) xs

pub rotated-reverse-rotated : {X : Type 0} (xs : List X) → rotated (reverse (rotated xs)) ≡ reverse xs
rotated-reverse-rotated [] = refl
rotated-reverse-rotated (x ∷ xs) = ap rotated (reverse-append xs (x ∷ [])) ∙ sym (reverse-cons x xs)

pub map-append : {X Y : Type 0} (f : X → Y) (xs ys : List X) → map f (xs ++ ys) ≡ map f xs ++ map f ys
map-append f [] ys = refl
map-append f (x ∷ xs) ys = ap (λ zs. f x ∷ zs) (map-append f xs ys)

pub map-reverse : {X Y : Type 0} (f : X → Y) (xs : List X) → map f (reverse xs) ≡ reverse (map f xs)
map-reverse f [] = refl
map-reverse f (x ∷ xs) = ap (map f) (reverse-cons x xs) ∙ map-append f (reverse xs) (x ∷ []) ∙ ap (λ ys. ys ++ f x ∷ []) (map-reverse f xs) ∙ sym (reverse-cons (f x) (map f xs))

pub map-rotated : {X Y : Type 0} (f : X → Y) (xs : List X) → map f (rotated xs) ≡ rotated (map f xs)
map-rotated f [] = refl
map-rotated f (x ∷ xs) = map-append f xs (x ∷ [])

pub each_reverse : {X : Type 0} (P : X → Type 0) (xs : List X) → Each P xs → Each P (reverse xs)
each_reverse P [] e = tt
each_reverse P (x ∷ xs) e = subst (Each P) (sym (reverse-cons x xs)) (each_append P (reverse xs) (x ∷ []) (each_reverse P xs e.1) (e.0, tt))

pub each_from_reverse : {X : Type 0} (P : X → Type 0) (xs : List X) → Each P (reverse xs) → Each P xs
each_from_reverse P xs e = subst (Each P) (reverse-reverse xs) (each_reverse P (reverse xs) e)

pub each_rotated : {X : Type 0} (P : X → Type 0) (xs : List X) → Each P xs → Each P (rotated xs)
each_rotated P [] e = tt
each_rotated P (x ∷ xs) e = each_append P xs (x ∷ []) e.1 (e.0, tt)

pub each_from_rotated : {X : Type 0} (P : X → Type 0) (xs : List X) → Each P (rotated xs) → Each P xs
each_from_rotated P [] e = tt
each_from_rotated P (x ∷ xs) e = let parts = each_split P xs (x ∷ []) e in (parts.1.0, parts.0)

pub member_reverse : {X : Type 0} (x : X) (xs : List X) → Member x xs → Member x (reverse xs)
member_reverse x [] m = absurd m
member_reverse x (y ∷ ys) (inl same) = subst (Member x) (sym (reverse-cons y ys)) (member_right x (reverse ys) (y ∷ []) (inl same))
member_reverse x (y ∷ ys) (inr m) = subst (Member x) (sym (reverse-cons y ys)) (member_left x (reverse ys) (y ∷ []) (member_reverse x ys m))

pub pair_reverse : {X : Type 0} (R : X → X → Type 0) → ((x y : X) → R x y → R y x) → (xs : List X) → EachPair R xs → EachPair R (reverse xs)
pair_reverse R turned [] e = tt
pair_reverse R turned (x ∷ xs) e = subst (EachPair R) (sym (reverse-cons x xs))
    (pair_append R (reverse xs) (x ∷ []) (pair_reverse R turned xs e.1)
    (each_reverse (λ y. Each (R y) (x ∷ [])) xs (each_weaker (R x) (λ y. Each (R y) (x ∷ [])) (λ y r. (turned x y r, tt)) xs e.0)) (tt, tt))

-- what holds of all edges holds of them in the order in which they are seen
pub each_seen : (P : Edge → Type 0) (front_out : Bool) (edges : List Edge) → Each P edges → Each P (edges_seen front_out edges)
each_seen P true edges e = e
each_seen P false edges e = each_rotated P (reverse edges) (each_reverse P edges e)
