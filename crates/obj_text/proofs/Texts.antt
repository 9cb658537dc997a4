-- One piece more of a text that is made of pieces.
use Rattle.std.proofs.Common.{◌≡◌, ℕ, suc, ◌+◌, ◌-◌, ◌<◌, ◌≤◌, ◌^◌, List, All, [], ◌∷◌, ◌++◌, length, take, drop, get_or, map, refl, sym, ap, ap₂, subst, ◌∙◌, append_assoc, append-nil, add-one, ℤ, min, arith, Result, Ok, Err, OnOk}
use Rattle.std.proofs.Math.Seq.{drop-cons, take-length}
use Rattle.std.specs.List.{flat_map}
use Rattle.spec_page.specs.declared.Corner.{Corner as PageCorner}
use Rattle.spec_page.specs.Lines.{corner_lines}
use Rattle.plane_core.specs.declared.numbers.Corner.{Corner}
use Rattle.plane_core.specs.Views.{point_of}
use Rattle.exact_mesh.specs.Meshes.{vector_of}
use Rattle.world_print.specs.Appended.{IsAppendedInPart}
use Rattle.world_print.proofs.Appended.{IsBegun, one_more, stopped_in}
use Rattle.exact_mesh.specs.declared.mesh.MeshFace.{MeshFace}
use Rattle.world_print.specs.Elements.{page_corners}

pub piece_more : {X : Type 0} (f : X → List ℕ) (xs : List X) (i : ℕ) (d : X) (text grown all : List ℕ) → i < length xs
    → grown ≡ text ++ f (get_or xs i d) → text ++ flat_map f (drop i xs) ≡ all → grown ++ flat_map f (drop (i + 1) xs) ≡ all
piece_more f xs i d text grown all lt e h =
    let x = get_or xs i d in
    let split : drop i xs ≡ x ∷ drop (suc i) xs = drop-cons xs i d lt in
    ap (λ k. grown ++ flat_map f (drop k xs)) (add-one i) ∙ ap (λ l. l ++ flat_map f (drop (suc i) xs)) e
    ∙ append_assoc text (f x) (flat_map f (drop (suc i) xs)) ∙ ap (λ l. text ++ flat_map f l) (sym split) ∙ h

-- texts that grew piece by piece
pub joined_two : (old p q a b : List ℕ) → p ≡ old ++ a → q ≡ p ++ b → q ≡ old ++ (a ++ b)
joined_two old p q a b first second = second ∙ ap (λ l. l ++ b) first ∙ append_assoc old a b

pub joined_three : (old p q r a b c : List ℕ) → p ≡ old ++ a → q ≡ p ++ b → r ≡ q ++ c → r ≡ old ++ (a ++ b ++ c)
joined_three old p q r a b c first second third = joined_two old q r (a ++ b) c (joined_two old p q a b first second) third

pub joined_four : (old p q r s a b c d : List ℕ) → p ≡ old ++ a → q ≡ p ++ b → r ≡ q ++ c → s ≡ r ++ d → s ≡ old ++ (a ++ b ++ c ++ d)
joined_four old p q r s a b c d first second third fourth =
    joined_two old r s (a ++ b ++ c) d (joined_three old p q r a b c first second third) fourth

pub joined_five : (old p q r s t a b c d e : List ℕ) → p ≡ old ++ a → q ≡ p ++ b → r ≡ q ++ c → s ≡ r ++ d → t ≡ s ++ e → t ≡ old ++ (a ++ b ++ c ++ d ++ e)
joined_five old p q r s t a b c d e first second third fourth fifth =
    joined_two old s t (a ++ b ++ c ++ d) e (joined_four old p q r s a b c d first second third fourth) fifth

-- a page of one element, of its four parts
pub page_joined : (old p q r s head top body end : List ℕ) → p ≡ old ++ head → q ≡ p ++ top → r ≡ q ++ body → s ≡ r ++ end → s ≡ old ++ (head ++ ((top ++ body) ++ []) ++ end)
page_joined old p q r s head top body end first second third fourth =
    let block = joined_two p q r top body second third in
    joined_three old p r s head ((top ++ body) ++ []) end first (block ∙ ap (λ l. p ++ l) (sym (append-nil (top ++ body)))) fourth

pub flat_map-map : {X Y : Type 0} (f : Y → List ℕ) (g : X → Y) (xs : List X) → flat_map f (map g xs) ≡ flat_map (λ x. f (g x)) xs
flat_map-map f g [] = refl
flat_map-map f g (x ∷ xs) = ap (λ l. f (g x) ++ l) (flat_map-map f g xs)

-- as many corners of a page as there are exact and printed ones
pub length-page_corners : (cs : List Corner) (vs : List (List ℤ)) → length (page_corners cs vs) ≡ min (length cs) (length vs)
length-page_corners [] vs = sym (omega arith)
length-page_corners (c ∷ cs) [] = sym (omega arith)
length-page_corners (c ∷ cs) (v ∷ vs) = let rest = length-page_corners cs vs in omega (arith, rest)

-- what follows from a fact for the answer `Ok`
pub on_ok : {A E : Type 0} (r : Result A E) {P Q : Type 0} → (P → Q) → OnOk r P → OnOk r Q
on_ok (Ok x) f p = f p
on_ok (Err e) f p = tt

-- ---- the first of some corners
left_over : {X : Type 0} (x : X) (xs : List X) → take (length (x ∷ xs) - 1) (drop 1 (x ∷ xs)) ≡ xs
left_over x xs = let e : length (x ∷ xs) - 1 ≡ length xs = omega arith in ap (λ n. take n xs) e ∙ take-length xs

none : 1 ≤ 0 → ⊥
none h = omega arith

first_lines : (x c : Corner) (v : List ℤ) (first : PageCorner) → c ≡ x → first ≡ record { exact = point_of c; printed = vector_of v } → corner_lines first ≡ corner_lines (record { exact = point_of x; printed = vector_of v })
first_lines x c v first e f = ap corner_lines (f ∙ ap (λ y. record { exact = point_of y; printed = vector_of v }) e)

-- its lines were put
pub first_corner_put : {old p q text : List ℕ} (cs : List Corner) (vs : List (List ℤ)) (c : Corner) (first : PageCorner) → 1 ≤ length cs → 1 ≤ length vs
    → c ≡ get_or cs 0 c → first ≡ record { exact = point_of c; printed = vector_of (get_or vs 0 []) }
    → IsBegun old p (flat_map corner_lines (page_corners cs vs)) text → q ≡ p ++ corner_lines first
    → IsBegun old q (flat_map corner_lines (page_corners (take (length cs - 1) (drop 1 cs)) (take (length vs - 1) (drop 1 vs)))) text
first_corner_put [] vs c first some other e f so_far g = absurd (none some)
first_corner_put (x ∷ cs) [] c first some other e f so_far g = absurd (none other)
first_corner_put {old = old} {p} {q} {text} (x ∷ cs) (v ∷ vs) c first some other e f so_far g =
    subst (λ l. IsBegun old q (flat_map corner_lines l) text) (ap₂ page_corners (sym (left_over x cs)) (sym (left_over v vs)))
    (one_more (corner_lines (record { exact = point_of x; printed = vector_of v })) so_far (g ∙ ap (λ l. p ++ l) (first_lines x c v first e f)))

-- its lines were put in part
pub first_corner_stopped : {old p q text : List ℕ} (cs : List Corner) (vs : List (List ℤ)) (c : Corner) (first : PageCorner) → 1 ≤ length cs → 1 ≤ length vs
    → c ≡ get_or cs 0 c → first ≡ record { exact = point_of c; printed = vector_of (get_or vs 0 []) }
    → IsBegun old p (flat_map corner_lines (page_corners cs vs)) text → IsAppendedInPart p q (corner_lines first) → IsAppendedInPart old q text
first_corner_stopped [] vs c first some other e f so_far part = absurd (none some)
first_corner_stopped (x ∷ cs) [] c first some other e f so_far part = absurd (none other)
first_corner_stopped {p = p} {q} (x ∷ cs) (v ∷ vs) c first some other e f so_far part =
    stopped_in (corner_lines (record { exact = point_of x; printed = vector_of v })) (flat_map corner_lines (page_corners cs vs)) so_far
    (subst (λ l. IsAppendedInPart p q l) (first_lines x c v first e f) part)

-- where each corner of each face is one of a mesh's, its number over the page is below a bound on that of the mesh's last corner
pub places_fit : (before : ℕ) (corners : List Corner) (faces : List MeshFace) → before + length corners < 2 ^ 128 → All (λ f. All (λ i. i < length corners) f.corners.items) faces
    → All (λ f. All (λ i. before + i + 1 < 2 ^ 128) f.corners.items) faces
places_fit before corners faces small places k d lt i e below = room before _ (length corners) (2 ^ 128) (places k d lt i e below) small
  where
    room : (b i n bound : ℕ) → i < n → b + n < bound → b + i + 1 < bound
    room b i n bound below small = omega arith
