-- Lists that are changed plane by plane.
use Rattle.std.proofs.Common.{◌≡◌, ℕ, zero, suc, ◌+◌, ◌<◌, ◌-◌, Bool, true, false, List, [], ◌∷◌, ◌++◌, Some, length, take, set, get_or, slice_get, replicate, length-append, add-one, zero-add, refl, sym, ap, subst, ◌∙◌, arith, if◌then◌else◌}
use Rattle.plane_core.specs.declared.numbers.Plane.{Plane}
use Rattle.plane_core.specs.declared.numbers.Corner.{Corner}
use Rattle.corner_book.specs.Places.{is_on, changed_lists, listed, unlisted, places_from, places_where, places_on_planes}

pub length-changed : (f : List ℕ → List ℕ) (ps : List Plane) (c : Corner) (ls : List (List ℕ)) → length (changed_lists f ps c ls) ≡ length ls
length-changed f [] c ls = refl
length-changed f (p ∷ ps) c [] = refl
length-changed f (p ∷ ps) c (l ∷ ls) = ap suc (length-changed f ps c ls)

-- ---- the next list
head_on : (f : List ℕ → List ℕ) (b : Bool) (l m : List ℕ) (ls : List (List ℕ)) → b ≡ true → l ≡ m → f l ∷ ls ≡ (if b then f m else m) ∷ ls
head_on f true l m ls on e = ap (λ (x : List ℕ). f x ∷ ls) e
head_on f false l m ls on e = cc

head_off : (f : List ℕ → List ℕ) (b : Bool) (m : List ℕ) (ls : List (List ℕ)) → b ≡ false → m ∷ ls ≡ (if b then f m else m) ∷ ls
head_off f true m ls off = cc
head_off f false m ls off = refl

same_test : (q p : Plane) (c : Corner) (b : Bool) → Some q ≡ Some p → is_on p c ≡ b → is_on q c ≡ b
same_test q p c b at test = let e : q ≡ p = cc in subst (λ r. is_on r c ≡ b) (sym e) test

-- the corner lies on its plane
pub changed_on : (f : List ℕ → List ℕ) (ps : List Plane) (c : Corner) (ls : List (List ℕ)) (k : ℕ) (p : Plane) (l : List ℕ) → k < length ls → slice_get ps k ≡ Some p → is_on p c ≡ true
    → l ≡ get_or (changed_lists f (take k ps) c ls) k l → set (changed_lists f (take k ps) c ls) k (f l) ≡ changed_lists f (take (suc k) ps) c ls
changed_on f [] c ls k p l below at on item = cc
changed_on f (q ∷ ps) c [] k p l below at on item = absurd (omega arith)
changed_on f (q ∷ ps) c (m ∷ ls) zero p l below at on item = head_on f (is_on q c) l m ls (same_test q p c true at on) item
changed_on f (q ∷ ps) c (m ∷ ls) (suc k) p l below at on item =
    ap (λ (xs : List (List ℕ)). (if is_on q c then f m else m) ∷ xs) (changed_on f ps c ls k p l (omega arith) at on item)

-- the corner does not lie on it
pub changed_off : (f : List ℕ → List ℕ) (ps : List Plane) (c : Corner) (ls : List (List ℕ)) (k : ℕ) (p : Plane) → slice_get ps k ≡ Some p → is_on p c ≡ false
    → changed_lists f (take k ps) c ls ≡ changed_lists f (take (suc k) ps) c ls
changed_off f [] c ls k p at off = cc
changed_off f (q ∷ ps) c [] zero p at off = refl
changed_off f (q ∷ ps) c [] (suc k) p at off = refl
changed_off f (q ∷ ps) c (m ∷ ls) zero p at off = head_off f (is_on q c) m ls (same_test q p c false at off)
changed_off f (q ∷ ps) c (m ∷ ls) (suc k) p at off =
    ap (λ (xs : List (List ℕ)). (if is_on q c then f m else m) ∷ xs) (changed_off f ps c ls k p at off)

-- ---- a turn of the loop: what the lists were, and what became of the next one
pub step_on : (f : List ℕ → List ℕ) (ps : List Plane) (c : Corner) (ls cur new : List (List ℕ)) (k : ℕ) (p : Plane) (l : List ℕ) → cur ≡ changed_lists f (take k ps) c ls → k < length ls
    → slice_get ps k ≡ Some p → is_on p c ≡ true → l ≡ get_or cur k l → new ≡ set cur k (f l) → new ≡ changed_lists f (take (k + 1) ps) c ls
step_on f ps c ls cur new k p l so_far below at on item write =
    write ∙ ap (λ xs. set xs k (f l)) so_far
    ∙ changed_on f ps c ls k p l below at on (subst (λ xs. l ≡ get_or xs k l) so_far item)
    ∙ ap (λ j. changed_lists f (take j ps) c ls) (sym (add-one k))

pub step_off : (f : List ℕ → List ℕ) (ps : List Plane) (c : Corner) (ls cur new : List (List ℕ)) (k : ℕ) (p : Plane) → cur ≡ changed_lists f (take k ps) c ls
    → slice_get ps k ≡ Some p → is_on p c ≡ false → new ≡ cur → new ≡ changed_lists f (take (k + 1) ps) c ls
step_off f ps c ls cur new k p so_far at off same =
    same ∙ so_far ∙ changed_off f ps c ls k p at off ∙ ap (λ j. changed_lists f (take j ps) c ls) (sym (add-one k))

-- a write of what stands there already
pub set_same : (ls : List (List ℕ)) (k : ℕ) (l m : List ℕ) → l ≡ get_or ls k l → m ≡ l → set ls k m ≡ ls
set_same [] k l m item same = refl
set_same (x ∷ ls) zero l m item same = ap (λ (y : List ℕ). y ∷ ls) (same ∙ item)
set_same (x ∷ ls) (suc k) l m item same = ap (λ (ys : List (List ℕ)). x ∷ ys) (set_same ls k l m item same)

-- ---- what was put behind is taken away
front : (l r : List ℕ) → take (length l) (l ++ r) ≡ l
front [] r = refl
front (x ∷ l) r = ap (λ (xs : List ℕ). x ∷ xs) (front l r)

without_last : (l : List ℕ) (n : ℕ) → take (length (l ++ n ∷ []) - 1) (l ++ n ∷ []) ≡ l
without_last l n = let e : length (l ++ n ∷ []) - 1 ≡ length l = omega (arith, length-append l (n ∷ [])) in subst (λ k. take k (l ++ n ∷ []) ≡ l) (sym e) (front l (n ∷ []))

undone : (b : Bool) (l : List ℕ) (n : ℕ) → (if b then take (length (if b then (l ++ n ∷ []) else l) - 1) (if b then (l ++ n ∷ []) else l) else (if b then (l ++ n ∷ []) else l)) ≡ l
undone true l n = without_last l n
undone false l n = refl

pub unlisted-listed : (ps : List Plane) (c : Corner) (place : ℕ) (ls : List (List ℕ)) → unlisted ps c (listed ps c place ls) ≡ ls
unlisted-listed [] c place ls = refl
unlisted-listed (p ∷ ps) c place [] = refl
unlisted-listed (p ∷ ps) c place (l ∷ ls) = λ i. undone (is_on p c) l place i ∷ unlisted-listed ps c place ls i

-- ---- one place more on each plane
next_places : (b t : Bool) (n k m : ℕ) (xs ys : List ℕ) → k ≡ m → xs ≡ (if t then (ys ++ k ∷ []) else ys)
    → (if b then n ∷ xs else xs) ≡ (if t then ((if b then n ∷ ys else ys) ++ m ∷ []) else (if b then n ∷ ys else ys))
next_places true true n k m xs ys f e = ap (λ (l : List ℕ). n ∷ l) (e ∙ ap (λ j. ys ++ j ∷ []) f)
next_places true false n k m xs ys f e = ap (λ (l : List ℕ). n ∷ l) e
next_places false true n k m xs ys f e = e ∙ ap (λ j. ys ++ j ∷ []) f
next_places false false n k m xs ys f e = e

first_place : (t : Bool) (n m : ℕ) → n ≡ m → (if t then n ∷ [] else []) ≡ (if t then ([] ++ m ∷ []) else [])
first_place true n m e = ap (λ k. k ∷ []) e
first_place false n m e = refl

places-append : (test : Corner → Bool) (n : ℕ) (cs : List Corner) (c : Corner) → places_from test n (cs ++ c ∷ []) ≡ (if test c then (places_from test n cs ++ (n + length cs) ∷ []) else places_from test n cs)
places-append test n [] c = first_place (test c) n (n + 0) (omega arith)
places-append test n (d ∷ cs) c = next_places (test d) (test c) n ((n + 1) + length cs) (n + suc (length cs)) _ (places_from test (n + 1) cs) (omega arith) (places-append test (n + 1) cs c)

places_where-append : (test : Corner → Bool) (cs : List Corner) (c : Corner) → places_where test (cs ++ c ∷ []) ≡ (if test c then (places_where test cs ++ length cs ∷ []) else places_where test cs)
places_where-append test cs c = places-append test 0 cs c ∙ ap (λ k. if test c then (places_where test cs ++ k ∷ []) else places_where test cs) (zero-add (length cs))

-- a new corner, listed at its place
pub listed-places : (planes : List Plane) (cs : List Corner) (c : Corner) → listed planes c (length cs) (places_on_planes planes cs) ≡ places_on_planes planes (cs ++ c ∷ [])
listed-places [] cs c = refl
listed-places (p ∷ ps) cs c = λ i. (sym (places_where-append (is_on p) cs c) i) ∷ listed-places ps cs c i

pub no_places : (planes : List Plane) → replicate (length planes) [] ≡ places_on_planes planes []
no_places [] = refl
no_places (p ∷ ps) = ap (λ (l : List (List ℕ)). [] ∷ l) (no_places ps)
