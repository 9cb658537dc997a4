-- Lists that grow by a member, and numbers that become places.
use Rattle.std.proofs.Common.{◌≡◌, ℕ, zero, suc, ◌+◌, ◌<◌, ℤ, None, List, [], ◌∷◌, ◌++◌, length, map, take, drop, get_or, refl, sym, ap, ◌∙◌, subst, zero-add, add-zero, add-one, arith}
use Rattle.std.proofs.Math.ListN.{set}
use Rattle.std.specs.List.{sum_by}
use Rattle.std.proofs.lemmas.List.{map-append}
use Rattle.std.proofs.lemmas.List.Sums.{sum_by_push, sum_by-cons}
use Rattle.spec_page.specs.declared.Corner.{Corner as PageCorner}
use Rattle.spec_page.specs.Items.{corner_count}
use Rattle.plane_core.specs.declared.numbers.Corner.{Corner}
use Rattle.plane_core.specs.Views.{point_of}
use Rattle.exact_mesh.specs.Meshes.{vector_of}
use Rattle.world_print.specs.Elements.{page_corners}
use Rattle.exact_mesh.specs.Meshes.{face_of}
use Rattle.spec_page.specs.Element.{Element}
use Rattle.obj_file.specs.Elements.{element_with}
use Rattle.obj_file.specs.Items.{item_of}
use Rattle.obj_file.specs.Files.{AreCounted}
use Rattle.obj_file.specs.declared.item.ObjItem.{ObjItem}
use Rattle.obj_file.specs.declared.item.ObjItem.TheVariants as read
use Rattle.obj_read.specs.States.{with_corner}
use Rattle.obj_read.specs.Readers.{element_in}
use Rattle.obj_read.specs.declared.parts.Block.{Block}

pub length-page_corners : (cs : List Corner) (vs : List (List ℤ)) → length vs ≡ length cs → length (page_corners cs vs) ≡ length cs
length-page_corners [] vs e = refl
length-page_corners (c ∷ cs) [] e = e
length-page_corners (c ∷ cs) (v ∷ vs) e = ap suc (length-page_corners cs vs (omega (arith, e)))

pub page_corners_push : (cs : List Corner) (vs : List (List ℤ)) (c : Corner) (v : List ℤ) → length vs ≡ length cs
    → page_corners (cs ++ c ∷ []) (vs ++ v ∷ []) ≡ page_corners cs vs ++ record { exact = point_of c; printed = vector_of v } ∷ []
page_corners_push [] [] c v e = refl
page_corners_push [] (w ∷ ws) c v e = cc
page_corners_push (b ∷ bs) [] c v e = cc
page_corners_push (b ∷ bs) (w ∷ ws) c v e = ap (λ l. record { exact = point_of b; printed = vector_of w } ∷ l) (page_corners_push bs ws c v (omega (arith, e)))

-- so many corners stand before the list
counted_more : (before : ℕ) (is : List ObjItem) (i : ObjItem) → AreCounted before is
    → AreCounted (before + sum_by corner_count (map item_of is)) (i ∷ []) → AreCounted before (is ++ i ∷ [])
counted_more before [] i h here = let P : ℕ → Type 0 = λ n. AreCounted n (i ∷ []) in subst P (add-zero before) here
counted_more before (read.Printed e ∷ is) i h here =
    let n = length e.corners.items in
    let same : length (page_corners e.corners.items e.printed.items) ≡ n = length-page_corners e.corners.items e.printed.items e.paired in
    let moved : before + sum_by corner_count (map item_of (read.Printed e ∷ is)) ≡ before + n + sum_by corner_count (map item_of is) =
    omega (arith, same, sum_by-cons corner_count (item_of (read.Printed e)) (map item_of is)) in
    let P : ℕ → Type 0 = λ k. AreCounted k (i ∷ []) in
    (h.0, counted_more (before + n) is i h.1 (subst P moved here))
counted_more before (read.Skipped n ∷ is) i h here =
    let moved : before + sum_by corner_count (map item_of (read.Skipped n ∷ is)) ≡ before + sum_by corner_count (map item_of is) =
    omega (arith, sum_by-cons corner_count (item_of (read.Skipped n)) (map item_of is)) in
    let P : ℕ → Type 0 = λ k. AreCounted k (i ∷ []) in
    counted_more before is i h (subst P moved here)
counted_more before (read.Refused n why ∷ is) i h here =
    let moved : before + sum_by corner_count (map item_of (read.Refused n why ∷ is)) ≡ before + sum_by corner_count (map item_of is) =
    omega (arith, sum_by-cons corner_count (item_of (read.Refused n why)) (map item_of is)) in
    let P : ℕ → Type 0 = λ k. AreCounted k (i ∷ []) in
    counted_more before is i h (subst P moved here)

pub counted_push : (is all : List ObjItem) (i : ObjItem) → all ≡ is ++ i ∷ [] → AreCounted 0 is → AreCounted (sum_by corner_count (map item_of is)) (i ∷ []) → AreCounted 0 all
counted_push is all i e h here =
    let P : ℕ → Type 0 = λ n. AreCounted n (i ∷ []) in
    let Q : List ObjItem → Type 0 = λ l. AreCounted 0 l in
    subst Q (sym e) (counted_more 0 is i h (subst P (sym (zero-add (sum_by corner_count (map item_of is)))) here))

pub summed_push : (is all : List ObjItem) (i : ObjItem) → all ≡ is ++ i ∷ [] → sum_by corner_count (map item_of all) ≡ sum_by corner_count (map item_of is) + corner_count (item_of i)
summed_push is all i e = ap (λ l. sum_by corner_count (map item_of l)) e ∙ ap (λ l. sum_by corner_count l) (map-append item_of is (i ∷ [])) ∙ sum_by_push corner_count (map item_of is) (item_of i)

-- one number more becomes a place
pub get_seam : (f : ℕ → ℕ) (xs : List ℕ) (i d : ℕ) → get_or (map f (take i xs) ++ drop i xs) i d ≡ get_or xs i d
get_seam f [] zero d = refl
get_seam f [] (suc i) d = refl
get_seam f (x ∷ xs) zero d = refl
get_seam f (x ∷ xs) (suc i) d = get_seam f xs i d

set_seam : (f : ℕ → ℕ) (xs : List ℕ) (i d : ℕ) → i < length xs
    → set (map f (take i xs) ++ drop i xs) i (f (get_or xs i d)) ≡ map f (take (suc i) xs) ++ drop (suc i) xs
set_seam f [] i d h = absurd (omega (arith, h))
set_seam f (x ∷ xs) zero d h = refl
set_seam f (x ∷ xs) (suc i) d h = ap (λ l. f x ∷ l) (set_seam f xs i d (omega (arith, h)))

pub placed_more : (f : ℕ → ℕ) (xs ys : List ℕ) (i : ℕ) → i < length xs → ys ≡ map f (take i xs) ++ drop i xs
    → set ys i (f (get_or ys i 0)) ≡ map f (take (i + 1) xs) ++ drop (i + 1) xs
placed_more f xs ys i h e =
    ap (λ l. set l i (f (get_or l i 0))) e ∙ ap (λ n. set (map f (take i xs) ++ drop i xs) i (f n)) (get_seam f xs i 0)
    ∙ set_seam f xs i 0 h ∙ ap (λ n. map f (take n xs) ++ drop n xs) (sym (add-one i))

pub corner_pushed : (b : Block) (cs : List Corner) (vs : List (List ℤ)) (c : Corner) (v : List ℤ) → cs ≡ b.corners.items ++ c ∷ [] → vs ≡ b.printed.items ++ v ∷ []
    → element_with b.number b.frame cs vs b.faces.items None ≡ with_corner (element_in b) (point_of c) (vector_of v)
corner_pushed b cs vs c v first second =
    let with_all : List PageCorner → Element = λ all. record { number = b.number; frame = b.frame; corners = all; faces = map face_of b.faces.items; six = None } in
    ap (λ l. element_with b.number b.frame l vs b.faces.items None) first
    ∙ ap (λ l. element_with b.number b.frame (b.corners.items ++ c ∷ []) l b.faces.items None) second
    ∙ ap with_all (page_corners_push b.corners.items b.printed.items c v b.paired)
