-- The numbers of a face's corners, and their places in its element.
use Rattle.std.proofs.Common.{◌≡◌, ◌≢◌, nat_lt, nat_le, inl, inr, ℕ, ◌+◌, ◌-◌, ◌<◌, ◌≤◌, Bool, true, false, cond, ◌&&◌, eqb, List, [], ◌∷◌, ◌++◌, length, map, refl, sym, ap, ◌∙◌, arith, codes}
use Rattle.std.specs.Fmt.{decimal}
use Rattle.std.specs.List.{flat_map, All, list_all, zip}
use Rattle.std.proofs.lemmas.Bool.{ltb-true, lt-ltb, eqb-true, eq-eqb, leb-true, le-leb}
use Rattle.std.proofs.lemmas.Bool.Decides.{eqb_tells}
use Rattle.std.proofs.lemmas.List.{length-map}
use Rattle.std.proofs.lemmas.List.Elements.{All-cons, All-nil, All-head, All-tail}
use Rattle.std.proofs.lemmas.List.Folds.{flat_map-map}
use Rattle.spec_page.specs.Lines.{index_text, indices_line}
use Rattle.obj_lines.specs.PageLines.{line_text}
use Rattle.obj_lines.specs.PageLines as page
use Rattle.spec_space.specs.declared.Plane.{Plane}
use Rattle.spec_page.specs.Element.{Face}
use Rattle.spec_page.specs.Faces.{rotated}
use Rattle.spec_headline.specs.Reduced.{IsPrintedPlane}
use Rattle.spec_check.specs.Limits.{IsFaceWithin}
use Rattle.obj_read.specs.States.{differ_along, differ_round, is_corner, are_indices, places_of}

both : (a b : Bool) → (a && b) ≡ true → (a ≡ true) × (b ≡ true)
both true b e = (refl, e)
both false b e = cc

both_true : (a b : Bool) → a ≡ true → b ≡ true → (a && b) ≡ true
both_true a b e f = ap (λ v. v && b) e ∙ f

differs : (a b : ℕ) (rest : Bool) → cond (eqb a b) false rest ≡ true → (a ≢ b) × (rest ≡ true)
differs a b rest e = elim (eqb_tells a b) [ inl w ↦ cc (ap (λ v. cond v false rest) w.0) | inr w ↦ (w.1, sym (ap (λ v. cond v false rest) w.0) ∙ e) ]

differ : (a b : ℕ) (rest : Bool) → a ≢ b → rest ≡ true → cond (eqb a b) false rest ≡ true
differ a b rest ne e = elim (eqb_tells a b) [ inl w ↦ absurd (ne w.1) | inr w ↦ ap (λ v. cond v false rest) w.0 ∙ e ]

abbrev Differ : ℕ × ℕ → Type 0
Differ ends = ends.0 ≢ ends.1

apart_along : (first from : ℕ) (ns : List ℕ) → differ_along first from ns ≡ true → All Differ (zip (from ∷ ns) (ns ++ first ∷ []))
apart_along first from [] e = All-cons Differ (from, first) [] (differs from first true e).0 (All-nil Differ)
apart_along first from (to ∷ ns) e =
    let parts = differs from to (differ_along first to ns) e in
    All-cons Differ (from, to) (zip (to ∷ ns) (ns ++ first ∷ [])) parts.0 (apart_along first to ns parts.1)

apart_round : (ns : List ℕ) → differ_round ns ≡ true → All Differ (zip ns (rotated ns))
apart_round [] e = All-nil Differ
apart_round (n ∷ ns) e = apart_along n n ns e

along_apart : (first from : ℕ) (ns : List ℕ) → All Differ (zip (from ∷ ns) (ns ++ first ∷ [])) → differ_along first from ns ≡ true
along_apart first from [] all = differ from first true (All-head Differ (from, first) [] all) refl
along_apart first from (to ∷ ns) all =
    let rest = zip (to ∷ ns) (ns ++ first ∷ []) in
    differ from to (differ_along first to ns) (All-head Differ (from, to) rest all) (along_apart first to ns (All-tail Differ (from, to) rest all))

round_apart : (ns : List ℕ) → All Differ (zip ns (rotated ns)) → differ_round ns ≡ true
round_apart [] all = refl
round_apart (n ∷ ns) all = along_apart n n ns all

in_range : (before corners n : ℕ) → is_corner before corners n ≡ true → (before < n) × (n ≤ before + corners)
in_range before corners n e =
    let parts = both (nat_lt before n) (nat_le n (before + corners)) e in
    (ltb-true before n parts.0, leb-true n (before + corners) parts.1)

places_within : (before corners : ℕ) (ns : List ℕ) → list_all (is_corner before corners) ns ≡ true → All (λ i. i < corners) (places_of before ns)
places_within before corners [] e = All-nil (λ i. i < corners)
places_within before corners (n ∷ ns) e =
    let parts = both (is_corner before corners n) (list_all (is_corner before corners) ns) e in
    let range = in_range before corners n parts.0 in
    let here : n - (before + 1) < corners = omega (arith, range.0, range.1) in
    All-cons (λ i. i < corners) (n - (before + 1)) (places_of before ns) here (places_within before corners ns parts.1)

pub indices_small : (before corners limit : ℕ) (ns : List ℕ) → before + corners < limit → list_all (is_corner before corners) ns ≡ true → All (λ n. n < limit) ns
indices_small before corners limit [] small e = All-nil (λ n. n < limit)
indices_small before corners limit (n ∷ ns) small e =
    let parts = both (is_corner before corners n) (list_all (is_corner before corners) ns) e in
    let range = in_range before corners n parts.0 in
    let here : n < limit = omega (arith, range.1) in
    All-cons (λ k. k < limit) n ns here (indices_small before corners limit ns small parts.1)

pub record Fits (before corners edges : ℕ) (ns : List ℕ) : Type 0 where
  pub enough : 3 ≤ edges
  pub paired : edges ≡ length ns
  pub range : list_all (is_corner before corners) ns ≡ true
  pub round : differ_round (places_of before ns) ≡ true

pub fits : (before corners edges : ℕ) (ns : List ℕ) → are_indices before corners edges ns ≡ true → Fits before corners edges ns
fits before corners edges ns e =
    let halves = both (nat_le 3 edges && eqb edges (length ns)) (list_all (is_corner before corners) ns && differ_round (places_of before ns)) e in
    let first = both (nat_le 3 edges) (eqb edges (length ns)) halves.0 in
    let second = both (list_all (is_corner before corners) ns) (differ_round (places_of before ns)) halves.1 in
    record { enough = leb-true 3 edges first.0; paired = eqb-true edges (length ns) first.1; range = second.0; round = second.1 }

pub face_fits : (before corners : ℕ) (h : Plane) (edges : List Plane) (ns : List ℕ) → are_indices before corners (length edges) ns ≡ true
    → IsPrintedPlane h → All IsPrintedPlane edges → IsFaceWithin corners (record { plane = h; edges = edges; corners = places_of before ns })
face_fits before corners h edges ns e plane all =
    let f = fits before corners (length edges) ns e in
    let same = length-map ns (λ n. n - (before + 1)) in
    record {
      plane = plane;
      edges = all;
      enough = omega (arith, f.enough, f.paired, same);
      paired = f.paired ∙ sym same;
      within = places_within before corners ns f.range;
      apart = apart_round (places_of before ns) f.round;
    }

-- the numbers of corners at these places
abbrev pub indices_of : ℕ → List ℕ → List ℕ
indices_of before places = map (λ i. before + i + 1) places

index_line : (before corners : ℕ) (ns : List ℕ) → list_all (is_corner before corners) ns ≡ true
    → flat_map (index_text before) (places_of before ns) ≡ flat_map (λ n. 32 ∷ decimal n) ns
index_line before corners [] e = refl
index_line before corners (n ∷ ns) e =
    let parts = both (is_corner before corners n) (list_all (is_corner before corners) ns) e in
    let range = in_range before corners n parts.0 in
    let here : before + (n - (before + 1)) + 1 ≡ n = omega (arith, range.0) in
    ap (λ k. (32 ∷ decimal k) ++ flat_map (index_text before) (places_of before ns)) here ∙ ap (λ l. (32 ∷ decimal n) ++ l) (index_line before corners ns parts.1)

-- the line of places is that of the numbers
pub indices_text : (before corners edges : ℕ) (ns : List ℕ) → are_indices before corners edges ns ≡ true
    → indices_line before (places_of before ns) ≡ line_text (page.Indices ns)
indices_text before corners edges ns e = ap (λ l. codes "f" ++ l ++ 10 ∷ []) (index_line before corners ns (fits before corners edges ns e).range)

pub indices_back : (before : ℕ) (places : List ℕ) → line_text (page.Indices (indices_of before places)) ≡ indices_line before places
indices_back before places = ap (λ l. codes "f" ++ l ++ 10 ∷ []) (flat_map-map (λ n. 32 ∷ decimal n) (λ i. before + i + 1) places)

pub places_back : (before : ℕ) (places : List ℕ) → places_of before (indices_of before places) ≡ places
places_back before [] = refl
places_back before (i ∷ is) =
    let here : before + i + 1 - (before + 1) ≡ i = omega arith in
    ap (λ n. n ∷ places_of before (indices_of before is)) here ∙ ap (λ l. i ∷ l) (places_back before is)

range_back : (before corners : ℕ) (places : List ℕ) → All (λ i. i < corners) places → list_all (is_corner before corners) (indices_of before places) ≡ true
range_back before corners [] all = refl
range_back before corners (i ∷ is) all =
    let here : i < corners = All-head (λ k. k < corners) i is all in
    both_true (is_corner before corners (before + i + 1)) (list_all (is_corner before corners) (indices_of before is))
    (both_true (nat_lt before (before + i + 1)) (nat_le (before + i + 1) (before + corners)) (lt-ltb before (before + i + 1) (omega arith)) (le-leb (before + i + 1) (before + corners) (omega arith)))
    (range_back before corners is (All-tail (λ k. k < corners) i is all))

pub face_back : (before corners : ℕ) (f : Face) → IsFaceWithin corners f → are_indices before corners (length f.edges) (indices_of before f.corners) ≡ true
face_back before corners f w =
    let ns = indices_of before f.corners in
    let same = length-map f.corners (λ i. before + i + 1) in
    both_true (nat_le 3 (length f.edges) && eqb (length f.edges) (length ns)) (list_all (is_corner before corners) ns && differ_round (places_of before ns))
    (both_true (nat_le 3 (length f.edges)) (eqb (length f.edges) (length ns)) (le-leb 3 (length f.edges) (omega (arith, w.enough, w.paired))) (eq-eqb (length f.edges) (length ns) (w.paired ∙ sym same)))
    (both_true (list_all (is_corner before corners) ns) (differ_round (places_of before ns)) (range_back before corners f.corners w.within)
    (ap differ_round (places_back before f.corners) ∙ round_apart f.corners w.apart))
