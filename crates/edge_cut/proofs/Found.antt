-- The corners at the places on a line.
use Rattle.std.proofs.Common.{◌≡◌, ℕ, ◌+◌, ◌<◌, ◌≤◌, Bool, true, false, ◌&&◌, cond, List, [], ◌∷◌, ◌++◌, Some, length, take, filter, slice_get, get_or, refl, sym, ap, ap₂, ◌∙◌, subst, arith, append_assoc, length-append, if◌then◌else◌}
use Rattle.std.specs.List.{filter_map}
use Rattle.std.proofs.lemmas.List.{take_more, take_all}
use Rattle.std.proofs.lemmas.List.Elements.{filter_map-append, filter_agree}
use Rattle.plane_core.specs.declared.numbers.Plane.{Plane as BookPlane}
use Rattle.plane_core.specs.declared.numbers.Corner.{Corner}
use Rattle.plane_core.specs.declared.book.PlaneId.{PlaneId}
use Rattle.convex_cycles.proofs.Lists.{Each, all_from_each}
use Rattle.poly_frag.specs.Frags.{numbered}
use Rattle.corner_book.specs.Places.{is_on_both, places_from, places_where, AreOnLine}
use Rattle.edge_cut.proofs.Outlined.{plane_here}
use Rattle.edge_cut.specs.Stretches.{lies_on, lies_on_both}

abbrev pub found_at : List Corner → List ℕ → List Corner
found_at cs places = filter_map (slice_get cs) places

-- ---- the places where a test passes
behind : (pre : List Corner) (c : Corner) (cs : List Corner) → slice_get (pre ++ c ∷ cs) (length pre) ≡ Some c
behind [] c cs = refl
behind (p ∷ pre) c cs = behind pre c cs

found_here : (all : List Corner) (n : ℕ) (c : Corner) (rest : List ℕ) → slice_get all n ≡ Some c → found_at all (n ∷ rest) ≡ c ∷ found_at all rest
found_here all n c rest e = rw e refl

found_places : (test : Corner → Bool) (pre cs : List Corner) (n : ℕ) → n ≡ length pre → found_at (pre ++ cs) (places_from test n cs) ≡ filter test cs
found_places test pre [] n e = refl
found_places test pre (c ∷ cs) n e = by (test c) (ap (λ ds. found_at ds (places_from test (n + 1) cs)) (sym (append_assoc pre (c ∷ []) cs)) ∙ found_places test (pre ++ c ∷ []) cs (n + 1) (omega (arith, e, length-append pre (c ∷ []))))
  where
    by : (b : Bool) → found_at (pre ++ c ∷ cs) (places_from test (n + 1) cs) ≡ filter test cs
        → found_at (pre ++ c ∷ cs) (if b then n ∷ places_from test (n + 1) cs else places_from test (n + 1) cs) ≡ cond b (c ∷ filter test cs) (filter test cs)
    by true rest = found_here (pre ++ c ∷ cs) n c (places_from test (n + 1) cs) (ap (slice_get (pre ++ c ∷ cs)) e ∙ behind pre c cs) ∙ ap (λ ds. c ∷ ds) rest
    by false rest = rest

places_below : (test : Corner → Bool) (cs : List Corner) (n m : ℕ) → n + length cs ≡ m → Each (λ i. i < m) (places_from test n cs)
places_below test [] n m e = tt
places_below test (c ∷ cs) n m e = by (test c) (places_below test cs (n + 1) m (omega (arith, e)))
  where
    by : (b : Bool) → Each (λ i. i < m) (places_from test (n + 1) cs) → Each (λ i. i < m) (if b then n ∷ places_from test (n + 1) cs else places_from test (n + 1) cs)
    by true rest = (omega (arith, e), rest)
    by false rest = rest

pub both_filters : (p q : Corner → Bool) (cs : List Corner) → filter q (filter p cs) ≡ filter (λ c. p c && q c) cs
both_filters p q [] = refl
both_filters p q (c ∷ cs) = by (p c) (both_filters p q cs)
  where
    by : (b : Bool) → filter q (filter p cs) ≡ filter (λ c. p c && q c) cs → filter q (cond b (c ∷ filter p cs) (filter p cs)) ≡ cond (b && q c) (c ∷ filter (λ d. p d && q d) cs) (filter (λ d. p d && q d) cs)
    by true rest = ap₂ (λ (xs ys : List Corner). cond (q c) xs ys) (ap (λ (xs : List Corner). c ∷ xs) rest) rest
    by false rest = rest

-- ---- on the line of two planes
module _ (planes : List BookPlane) (i j : PlaneId) (cs : List Corner) (places : List ℕ) (p q : BookPlane) (first : slice_get planes i.k ≡ Some p) (second : slice_get planes j.k ≡ Some q)
    (on : AreOnLine planes i.k j.k cs places) where
  here : places ≡ places_where (is_on_both p q) cs
  here = on p q first second

  pub place_below : (n : ℕ) → n < length places → get_or places n 0 < length cs
  place_below n h = all_from_each (λ n. n < length cs) places (subst (Each (λ n. n < length cs)) (sym here) (places_below (is_on_both p q) cs 0 (length cs) (omega arith))) n 0 h

  pub found_line : found_at cs places ≡ filter (lies_on_both planes i j) cs
  found_line = ap (found_at cs) here
      ∙ found_places (is_on_both p q) [] cs 0 refl
      ∙ filter_agree (is_on_both p q) (lies_on_both planes i j) (λ c. ap₂ (λ o r. lies_on (numbered o) c && lies_on (numbered r) c) (sym first) (sym second)) cs

-- ---- one place more
found_next : (cs : List Corner) (places : List ℕ) (i : ℕ) (c : Corner) → i < length places → slice_get cs (get_or places i 0) ≡ Some c → found_at cs (take (i + 1) places) ≡ found_at cs (take i places) ++ c ∷ []
found_next cs places i c below e = ap (found_at cs) (take_more places i 0 below) ∙ filter_map-append (slice_get cs) (take i places) (get_or places i 0 ∷ []) ∙ ap (λ ds. found_at cs (take i places) ++ ds) (found_here cs (get_or places i 0) c [] e)

pub placed_next : (cs : List Corner) (places : List ℕ) (i : ℕ) (c : Corner) (old new : List Corner) → i < length places → slice_get cs (get_or places i 0) ≡ Some c
    → new ≡ old ++ c ∷ [] → old ≡ found_at cs (take i places) → new ≡ found_at cs (take (i + 1) places)
placed_next cs places i c old new below e items h = items ∙ ap (λ (ds : List Corner). ds ++ c ∷ []) h ∙ sym (found_next cs places i c below e)

-- ---- of the places that were asked for
pub line_below : (planes : List BookPlane) (i j : PlaneId) (cs : List Corner) (items places : List ℕ) → items ≡ places → i.k < length planes → j.k < length planes → AreOnLine planes i.k j.k cs places
    → (n : ℕ) → n < length items → get_or items n 0 < length cs
line_below planes i j cs items places same hi hj on n below =
    let p = plane_here planes i hi in
    let q = plane_here planes j hj in
    subst (λ ps. get_or ps n 0 < length cs) (sym same) (place_below planes i j cs places p.0 q.0 p.1 q.1 on n (subst (λ ps. n < length ps) same below))

pub line_found : (planes : List BookPlane) (i j : PlaneId) (cs : List Corner) (items places : List ℕ) (n : ℕ) (found : List Corner) → items ≡ places → i.k < length planes → j.k < length planes
    → AreOnLine planes i.k j.k cs places → length items ≤ n → found ≡ found_at cs (take n items) → found ≡ filter (lies_on_both planes i j) cs
line_found planes i j cs items places n found same hi hj on all h =
    let p = plane_here planes i hi in
    let q = plane_here planes j hj in
    h ∙ ap (found_at cs) (take_all n items all ∙ same) ∙ found_line planes i j cs places p.0 q.0 p.1 q.1 on
