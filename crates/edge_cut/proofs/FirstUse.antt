-- Corners in the order of their first use.
use Rattle.std.proofs.Common.{◌≡◌, ◌⊎◌, inl, inr, ℕ, suc, ◌+◌, ◌<◌, ◌≤◌, max, Bool, true, false, ◌||◌, not, cond, List, [], ◌∷◌, ◌++◌, length, Contains, arith, refl, sym, ap, subst, ◌∙◌, append-nil, length-append}
use Rattle.std.specs.Bool.{if◌then◌else◌}
use Rattle.std.specs.List.{flat_map, list_any, position_or_len}
use Rattle.std.proofs.lemmas.Bool.{cases_lt}
use Rattle.std.proofs.lemmas.Grind.{flat_map-append}
use Rattle.plane_core.specs.declared.numbers.Corner.{Corner}
use Rattle.spec_page.specs.Element.{Face}
use Rattle.exact_mesh.specs.Order.{NamesNext, AreInFirstUse}

-- ---- numbers, of which each is known or the next one
pub names_append : (xs ys : List ℕ) (n m p : ℕ) → NamesNext n xs m → NamesNext m ys p → NamesNext n (xs ++ ys) p
names_append [] ys n m p h k = subst (λ x. NamesNext x ys p) (sym h) k
names_append (i ∷ xs) ys n m p h k = (h.0, names_append xs ys (max n (i + 1)) m p h.1 k)

named_here : (i u n : ℕ) (us : List ℕ) → u ≤ n → i < max n (u + 1) → (i < n) ⊎ (n ≤ i) → (i < n) ⊎ Contains (u ∷ us) i
named_here i u n us h below (inl old) = inl old
named_here i u n us h below (inr new) = inr (0, omega arith, omega arith)

named_later : (i u : ℕ) (us : List ℕ) → Contains us i → Contains (u ∷ us) i
named_later i u us c = (suc c.0, omega (arith, c.1), c.2)

-- each known number was known before, or is among these
pub each_named : (us : List ℕ) (n m i : ℕ) → NamesNext n us m → i < m → (i < n) ⊎ Contains us i
each_named [] n m i h below = inl (omega arith)
each_named (u ∷ us) n m i h below = elim (each_named us (max n (u + 1)) m i h.1 below) [
  | inl known ↦ named_here i u n us h.0 known (cases_lt i n)
  | inr later ↦ inr (named_later i u us later)
]

-- ---- one corner more
index_last : {X : Type 0} (test : X → Bool) (xs : List X) → list_any test xs ≡ false → position_or_len test xs ≡ length xs
index_last test [] e = refl
index_last test (x ∷ xs) e = step (test x) (list_any test xs) (position_or_len test xs) (length xs) e (index_last test xs)
  where
    step : (a b : Bool) (n m : ℕ) → (a || b) ≡ false → (b ≡ false → n ≡ m) → cond (not a) (1 + n) 0 ≡ suc m
    step true b n m e h = cc
    step false b n m e h = let same = h e in omega arith

index_found : {X : Type 0} (test : X → Bool) (xs : List X) → list_any test xs ≡ true → position_or_len test xs < length xs
index_found test [] e = absurd (cc)
index_found test (x ∷ xs) e = step (test x) (list_any test xs) (position_or_len test xs) (length xs) e (index_found test xs)
  where
    step : (a b : Bool) (n m : ℕ) → (a || b) ≡ true → (b ≡ true → n < m) → cond (not a) (1 + n) 0 < suc m
    step true b n m e h = omega arith
    step false b n m e h = let below = h e in omega arith

next_if : (b : Bool) (test : Corner → Bool) (old new : List Corner) (c : Corner) (place : ℕ) → list_any test old ≡ b
    → new ≡ (if b then old else (old ++ c ∷ [])) → place ≡ position_or_len test old → NamesNext (length old) (place ∷ []) (length new)
next_if true test old new c place known same at =
    let below = index_found test old known in
    let e = ap length same in
    (omega arith, omega arith)
next_if false test old new c place absent grown at =
    let last = at ∙ index_last test old absent in
    let e = ap length grown ∙ length-append old (c ∷ []) in
    (omega arith, omega arith)

-- a corner gets its place, or the next one
pub next_place : (test : Corner → Bool) (old new : List Corner) (c : Corner) (place : ℕ) → new ≡ (if list_any test old then old else (old ++ c ∷ []))
    → place ≡ position_or_len test old → NamesNext (length old) (place ∷ []) (length new)
next_place test old new c place keys at = next_if (list_any test old) test old new c place refl keys at

-- ---- one face more
uses_more : (faces : List Face) (face : Face) → flat_map (λ f. f.corners) (faces ++ face ∷ []) ≡ flat_map (λ f. f.corners) faces ++ face.corners
uses_more faces face = flat_map-append (λ f. f.corners) faces (face ∷ []) ∙ ap (λ us. flat_map (λ f. f.corners) faces ++ us) (append-nil face.corners)

pub order_next : (old new : List Corner) (faces next : List Face) (face : Face) → next ≡ faces ++ face ∷ []
    → NamesNext (length old) face.corners (length new) → AreInFirstUse old faces → AreInFirstUse new next
order_next old new faces next face items names order =
    subst (λ us. NamesNext 0 us (length new)) (sym (ap (flat_map (λ f. f.corners)) items ∙ uses_more faces face))
    (names_append (flat_map (λ f. f.corners) faces) face.corners 0 (length old) (length new) order names)
