-- The places on a line, of those on one of its planes.
use Rattle.std.proofs.Common.{◌≡◌, ℕ, zero, suc, ◌+◌, Bool, true, false, ◌&&◌, List, [], ◌∷◌, ◌++◌, Some, length, filter, slice_get, refl, sym, ap, ◌∙◌, arith, append_assoc, length-append, if◌then◌else◌}
use Rattle.plane_core.specs.declared.numbers.Plane.{Plane}
use Rattle.plane_core.specs.declared.numbers.Corner.{Corner}
use Rattle.corner_book.specs.Places.{is_on, is_on_both, places_from, places_where, passes_at, places_on_planes, AreOnLine}

-- the corner behind those of a list
passes_behind : (test : Corner → Bool) (pre : List Corner) (c : Corner) (cs : List Corner) → passes_at test (pre ++ c ∷ cs) (length pre) ≡ test c
passes_behind test [] c cs = refl
passes_behind test (p ∷ pre) c cs = passes_behind test pre c cs

chosen : (t u f : Bool) (n : ℕ) (xs ys : List ℕ) → f ≡ u → xs ≡ ys
    → (if t then (if f then n ∷ xs else xs) else xs) ≡ (if t && u then n ∷ ys else ys)
chosen true true f n xs ys e same = ap (λ b. if b then n ∷ xs else xs) e ∙ ap (λ (l : List ℕ). n ∷ l) same
chosen true false f n xs ys e same = ap (λ b. if b then n ∷ xs else xs) e ∙ same
chosen false u f n xs ys e same = same

filtered : (p : ℕ → Bool) (t : Bool) (n : ℕ) (xs : List ℕ) → filter p (if t then n ∷ xs else xs) ≡ (if t then (if p n then n ∷ filter p xs else filter p xs) else filter p xs)
filtered p true n xs = refl
filtered p false n xs = refl

filter-places : (t u : Corner → Bool) (pre cs : List Corner) (n : ℕ) → n ≡ length pre → filter (passes_at u (pre ++ cs)) (places_from t n cs) ≡ places_from (λ c. t c && u c) n cs
filter-places t u pre [] n e = refl
filter-places t u pre (c ∷ cs) n e =
    let p = passes_at u (pre ++ c ∷ cs) in
    let here : p n ≡ u c = ap p e ∙ passes_behind u pre c cs in
    let rest : filter p (places_from t (n + 1) cs) ≡ places_from (λ d. t d && u d) (n + 1) cs =
    ap (λ ds. filter (passes_at u ds) (places_from t (n + 1) cs)) (sym (append_assoc pre (c ∷ []) cs))
    ∙ filter-places t u (pre ++ c ∷ []) cs (n + 1) (omega (arith, e, length-append pre (c ∷ []))) in
    filtered p (t c) n (places_from t (n + 1) cs) ∙ chosen (t c) (u c) (p n) n _ _ here rest

both_ways : (a b : Bool) → (a && b) ≡ (b && a)
both_ways true true = refl
both_ways true false = refl
both_ways false true = refl
both_ways false false = refl

same_places : (t u : Corner → Bool) (n : ℕ) (cs : List Corner) → ((c : Corner) → t c ≡ u c) → places_from t n cs ≡ places_from u n cs
same_places t u n [] h = refl
same_places t u n (c ∷ cs) h = λ i. if h c i then n ∷ same_places t u (n + 1) cs h i else same_places t u (n + 1) cs h i

-- those on the second plane, of the places on the first
pub second_of_first : (p q : Plane) (cs : List Corner) → filter (passes_at (is_on q) cs) (places_where (is_on p) cs) ≡ places_where (is_on_both p q) cs
second_of_first p q cs = filter-places (is_on p) (is_on q) [] cs 0 refl

-- those on the first plane, of the places on the second
pub first_of_second : (p q : Plane) (cs : List Corner) → filter (passes_at (is_on p) cs) (places_where (is_on q) cs) ≡ places_where (is_on_both p q) cs
first_of_second p q cs = second_of_first q p cs ∙ same_places (is_on_both q p) (is_on_both p q) 0 cs (λ c. both_ways (is_on q c) (is_on p c))

-- the list of the plane at a place
pub list_at : (planes : List Plane) (cs : List Corner) (k : ℕ) (p : Plane) → slice_get planes k ≡ Some p → slice_get (places_on_planes planes cs) k ≡ Some (places_where (is_on p) cs)
list_at [] cs k p e = cc
list_at (q ∷ ps) cs zero p e = let same : q ≡ p = cc in ap (λ r. Some (places_where (is_on r) cs)) same
list_at (q ∷ ps) cs (suc k) p e = list_at ps cs k p e

pub length-lists : (planes : List Plane) (cs : List Corner) → length (places_on_planes planes cs) ≡ length planes
length-lists [] cs = refl
length-lists (p ∷ ps) cs = ap suc (length-lists ps cs)

-- of all places on one plane those on the other
pub on_second : (planes : List Plane) (i j : ℕ) (cs : List Corner) (list places : List ℕ) (second : Plane) → ((p : Plane) → slice_get planes i ≡ Some p → list ≡ places_where (is_on p) cs) → slice_get planes j ≡ Some second
    → places ≡ filter (passes_at (is_on second) cs) list → AreOnLine planes i j cs places
on_second planes i j cs list places second on_first at e p q at_p at_q =
    let same : second ≡ q = cc in
    e ∙ ap (λ s. filter (passes_at (is_on s) cs) list) same ∙ ap (filter (passes_at (is_on q) cs)) (on_first p at_p) ∙ second_of_first p q cs

pub on_first : (planes : List Plane) (i j : ℕ) (cs : List Corner) (list places : List ℕ) (first : Plane) → ((q : Plane) → slice_get planes j ≡ Some q → list ≡ places_where (is_on q) cs) → slice_get planes i ≡ Some first
    → places ≡ filter (passes_at (is_on first) cs) list → AreOnLine planes i j cs places
on_first planes i j cs list places first on_second at e p q at_p at_q =
    let same : first ≡ p = cc in
    e ∙ ap (λ s. filter (passes_at (is_on s) cs) list) same ∙ ap (filter (passes_at (is_on p) cs)) (on_second q at_q) ∙ first_of_second p q cs
