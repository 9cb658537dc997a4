-- A full face with printed planes keeps the limits of faces.
use Rattle.std.proofs.Common.{◌≡◌, ◌≢◌, ℕ, suc, ◌<◌, ◌≤◌, List, [], ◌∷◌, ◌++◌, length, map, All, refl, sym, ◌∙◌, ap, subst, arith}
use Rattle.std.specs.List.{zip}
use Rattle.std.proofs.lemmas.List.{length-map}
use Rattle.std.proofs.lemmas.List.Elements.{All-nil, All-cons, All-head, All-tail}
use Rattle.convex_cycles.proofs.Lists.{Each, EachPair, pair_from_all}
use Rattle.spec_space.specs.declared.Plane.{Plane}
use Rattle.spec_space.specs.declared.Point.{Point}
use Rattle.spec_headline.specs.Reduced.{IsPrintedPlane}
use Rattle.spec_page.specs.Element.{Face, Element}
use Rattle.spec_page.specs.Faces.{corner_at, face_points, rotated, AreEdges, IsFull, edge_ends}
use Rattle.spec_check.specs.Limits.{IsFaceWithin}

-- there is a plane for each edge
edges_paired : (h : Plane) (points : List Point) (ms : List Plane) (us vs : List Point) → AreEdges h points ms us vs → length ms ≡ length us
edges_paired h points [] [] [] are = refl
edges_paired h points [] [] (v ∷ vs) are = absurd are
edges_paired h points [] (u ∷ us) [] are = absurd are
edges_paired h points [] (u ∷ us) (v ∷ vs) are = absurd are
edges_paired h points (m ∷ ms) [] [] are = absurd are
edges_paired h points (m ∷ ms) [] (v ∷ vs) are = absurd are
edges_paired h points (m ∷ ms) (u ∷ us) [] are = absurd are
edges_paired h points (m ∷ ms) (u ∷ us) (v ∷ vs) are = ap suc (edges_paired h points ms us vs are.1)

-- Places of points that differ.

abbrev Apart : ℕ × ℕ → Type 0
Apart ends = ends.0 ≢ ends.1

one_differs : (at : ℕ → Point) (x : ℕ) (ys : List ℕ) → Each (λ q. at x ≢ q) (map at ys) → Each (λ y. x ≢ y) ys
one_differs at x [] h = tt
one_differs at x (y ∷ ys) h = ((λ same. h.0 (ap at same)), one_differs at x ys h.1)

places_differ : (at : ℕ → Point) (xs : List ℕ) → EachPair (λ p q. p ≢ q) (map at xs) → EachPair (λ x y. x ≢ y) xs
places_differ at [] h = tt
places_differ at (x ∷ xs) h = (one_differs at x xs h.0, places_differ at xs h.1)

-- each place differs from the next, and the last from one that none of them is
chain : (x : ℕ) (xs : List ℕ) (z : ℕ) → EachPair (λ x y. x ≢ y) (x ∷ xs) → Each (λ y. z ≢ y) (x ∷ xs) → All Apart (zip (x ∷ xs) (xs ++ z ∷ []))
chain x [] z pairs h = All-cons Apart (x, z) [] (λ same. h.0 (sym same)) (All-nil Apart)
chain x (y ∷ ys) z pairs h = All-cons Apart (x, y) (zip (y ∷ ys) (ys ++ z ∷ [])) pairs.0.0 (chain y ys z pairs.1 h.1)

none : (n : ℕ) → 3 ≤ n → n ≡ 0 → ⊥
none n h e = omega arith

single : (n : ℕ) → 3 ≤ n → n ≡ 1 → ⊥
single n h e = omega arith

apart : (xs : List ℕ) → 3 ≤ length xs → EachPair (λ x y. x ≢ y) xs → All Apart (zip xs (rotated xs))
apart [] h pairs = absurd (none (length {A = ℕ} []) h refl)
apart (x ∷ []) h pairs = absurd (single (length (x ∷ [])) h refl)
apart (x ∷ y ∷ ys) h pairs = All-cons Apart (x, y) (zip (y ∷ ys) (ys ++ x ∷ [])) pairs.0.0 (chain y ys x pairs.1 pairs.0)

pub face_within : (e : Element) (f : Face) → IsFull e f → All IsPrintedPlane (f.plane ∷ f.edges) → IsFaceWithin (length e.corners) f
face_within e f full printed =
    let at : ℕ → Point = λ i. (corner_at e i).exact in
    record {
      plane = All-head IsPrintedPlane f.plane f.edges printed;
      edges = All-tail IsPrintedPlane f.plane f.edges printed;
      enough = full.sound.enough;
      paired = edges_paired f.plane (face_points e f) f.edges (face_points e f) (rotated (face_points e f)) full.sound.edges ∙ length-map f.corners at;
      within = full.sound.within;
      apart = apart f.corners full.sound.enough (places_differ at f.corners (pair_from_all (λ p q. p ≢ q) (face_points e f) full.different));
    }
