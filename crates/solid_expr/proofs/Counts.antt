-- Solids united, one after another.
use Rattle.std.proofs.Common.{◌≡◌, ℕ, ◌+◌, ◌<◌, ◌≤◌, Bool, true, false, ◌&&◌, List, [], ◌∷◌, length, map, drop, get_or, refl, sym, ap, subst, ◌∙◌, arith}
use Rattle.std.proofs.lemmas.List.{drop_more, drop_all}
use Rattle.spec_shape.specs.Shapes.{united, is_bounded, count_triangles}
use Rattle.solid_expr.specs.declared.solid.Solid.{Solid}
use Rattle.solid_expr.specs.Views.{shape_of}

-- all of the solids are bounded; how many triangles they have
abbrev pub are_bounded : List Solid → Bool
are_bounded solids = is_bounded (united (map shape_of solids))

abbrev pub count_all : List Solid → ℕ
count_all solids = count_triangles (united (map shape_of solids))

pub bounded_here : (solids : List Solid) (i : ℕ) (d : Solid) → i < length solids → are_bounded (drop i solids) ≡ (is_bounded (shape_of (get_or solids i d)) && are_bounded (drop (i + 1) solids))
bounded_here solids i d l = ap are_bounded (drop_more solids i d l)

pub bounded_more : (solids : List Solid) (i : ℕ) (d : Solid) (whole b : Bool) → i < length solids → b ≡ is_bounded (shape_of (get_or solids i d)) → b ≡ true
    → are_bounded (drop i solids) ≡ whole → are_bounded (drop (i + 1) solids) ≡ whole
bounded_more solids i d whole b l e t h =
    sym (ap (λ p. p && are_bounded (drop (i + 1) solids)) (sym e ∙ t)) ∙ sym (bounded_here solids i d l) ∙ h

pub bounded_stop : (solids : List Solid) (i : ℕ) (d : Solid) (whole b : Bool) → i < length solids → b ≡ is_bounded (shape_of (get_or solids i d)) → b ≡ false
    → are_bounded (drop i solids) ≡ whole → false ≡ whole
bounded_stop solids i d whole b l e t h =
    sym (ap (λ p. p && are_bounded (drop (i + 1) solids)) (sym e ∙ t)) ∙ sym (bounded_here solids i d l) ∙ h

pub bounded_end : (solids : List Solid) (i : ℕ) (whole : Bool) → length solids ≤ i → are_bounded (drop i solids) ≡ whole → true ≡ whole
bounded_end solids i whole l h = sym (ap are_bounded (drop_all i solids l)) ∙ h

pub count_here : (solids : List Solid) (i : ℕ) (d : Solid) → i < length solids → count_all (drop i solids) ≡ count_triangles (shape_of (get_or solids i d)) + count_all (drop (i + 1) solids)
count_here solids i d l = ap count_all (drop_more solids i d l)

pub count_end : (solids : List Solid) (i : ℕ) → length solids ≤ i → count_all (drop i solids) ≡ 0
count_end solids i l = ap count_all (drop_all i solids l)

-- a count so far and what is here make the whole; what is here is the next number and the rest
part_fits : (count v here rest whole n : ℕ) → here ≡ v + rest → count + here ≡ whole → whole < n → v < n
part_fits count v here rest whole n e h l = omega arith

pub part_small : (solids : List Solid) (i count n : ℕ) (s : Solid) → count + count_all (drop i solids) ≡ count_all solids → i < length solids → s ≡ get_or solids i s
    → count_all solids < n → count_triangles (shape_of s) < n
part_small solids i count n s h l e small =
    subst (λ w. count_triangles (shape_of w) < n) (sym e)
    (part_fits count (count_triangles (shape_of (get_or solids i s))) (count_all (drop i solids)) (count_all (drop (i + 1) solids)) (count_all solids) n (count_here solids i s l) h small)

pub sum_fits : (count r v here rest whole n : ℕ) → r ≡ v → here ≡ v + rest → count + here ≡ whole → whole < n → count + r < n
sum_fits count r v here rest whole n t e h l = omega arith

pub sum_more : (count r v here rest whole : ℕ) → r ≡ v → here ≡ v + rest → count + here ≡ whole → (count + r) + rest ≡ whole
sum_more count r v here rest whole t e h = omega arith

pub sum_end : (count here whole : ℕ) → here ≡ 0 → count + here ≡ whole → count ≡ whole
sum_end count here whole e h = omega arith
