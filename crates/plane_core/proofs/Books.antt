-- Planes with the same numbers are one plane, and what an insertion leaves of a book.
use Rattle.std.proofs.Common.{◌≡◌, length-append, map, take, ℕ, zero, suc, ◌+◌, ◌<◌, ◌≤◌, ◌^◌, Bool, true, false, ◌&&◌, IsTrue, List, [], ◌∷◌, ◌++◌, length, slice_get, Contains, ℤ, unsigned_abs, arith, refl, sym, ap, subst, ◌∙◌, int_eq, true≢false}
use Rattle.std.proofs.Props.{props}
use Rattle.std.specs.Bool.{if◌then◌else◌, Decides}
use Rattle.std.specs.List.{list_any, IsDistinct}
use mathlib.Core.HLevel.{is_prop→PathP}
use Rattle.std.proofs.lemmas.Bool.Decides.{Decides-int_eq}
use Rattle.std.proofs.lemmas.List.Folds.{list_any_at}
use Rattle.std.proofs.lemmas.Map.Made.{AllPairs-from_IsDistinct}
use Rattle.std.proofs.lemmas.Map.Views.{Contains-from_any}
use Rattle.spec_space.specs.declared.Plane.{Plane as AnyPlane}
use Rattle.plane_core.specs.Numbers.{AreCoprime, leads_positive}
use Rattle.plane_core.specs.Views.{plane_of}
use Rattle.plane_core.specs.Books.{AreDistinct, BeginsWithWalls}
use Rattle.plane_core.specs.declared.numbers.Plane.{Plane}

pub same_plane : (p q : Plane) → p.a ≡ q.a → p.b ≡ q.b → p.c ≡ q.c → p.d ≡ q.d → p ≡ q
same_plane p q a b c d = λ i. record {
  a = a i;
  b = b i;
  c = c i;
  d = d i;
  a_small = is_prop→PathP (λ j. unsigned_abs (a j) ≤ 2 ^ 26) (λ j. hlevel props) p.a_small q.a_small i;
  b_small = is_prop→PathP (λ j. unsigned_abs (b j) ≤ 2 ^ 26) (λ j. hlevel props) p.b_small q.b_small i;
  c_small = is_prop→PathP (λ j. unsigned_abs (c j) ≤ 2 ^ 26) (λ j. hlevel props) p.c_small q.c_small i;
  d_small = is_prop→PathP (λ j. unsigned_abs (d j) ≤ 2 ^ 44) (λ j. hlevel props) p.d_small q.d_small i;
  coprime = is_prop→PathP (λ j. AreCoprime (a j) (b j) (c j) (d j)) (λ j. hlevel props) p.coprime q.coprime i;
  signed = is_prop→PathP (λ j. IsTrue (leads_positive (a j) (b j) (c j))) (λ j. hlevel props) p.signed q.signed i;
}

-- ---- the test of equal numbers
abbrev pub has_numbers : AnyPlane → AnyPlane → Bool
has_numbers h k = int_eq h.a k.a && (int_eq h.b k.b && (int_eq h.c k.c && int_eq h.d k.d))

abbrev pub plane_eq : Plane → Plane → Bool
plane_eq p q = has_numbers (plane_of p) (plane_of q)

both : (a b : Bool) → (a && b) ≡ true → (a ≡ true) × (b ≡ true)
both true b e = (refl, e)
both false b e = cc

same_number : (x y : ℤ) → int_eq x y ≡ true → x ≡ y
same_number x y e = (Decides-int_eq x y).0 e

own_number : (x : ℤ) → int_eq x x ≡ true
own_number x = (Decides-int_eq x x).1 refl

pub same_from_eq : (p q : Plane) → plane_eq p q ≡ true → p ≡ q
same_from_eq p q e =
    let s = both _ _ e in
    let t = both _ _ s.1 in
    let u = both _ _ t.1 in
    same_plane p q (same_number p.a q.a s.0) (same_number p.b q.b t.0) (same_number p.c q.c u.0) (same_number p.d q.d u.1)

pub eq_itself : (p : Plane) → plane_eq p p ≡ true
eq_itself p = rw (own_number p.a, own_number p.b, own_number p.c, own_number p.d) refl

pub eq_from_same : (p q : Plane) → p ≡ q → plane_eq p q ≡ true
eq_from_same p q e = subst (λ x. plane_eq p x ≡ true) e (eq_itself p)

pub plane_eq-Decides : (p q : Plane) → Decides (plane_eq p q) (p ≡ q)
plane_eq-Decides p q = (same_from_eq p q, eq_from_same p q)

pub distinct_keys : (ps : List Plane) → IsDistinct plane_eq ps → AreDistinct ps
distinct_keys ps h = AllPairs-from_IsDistinct plane_eq-Decides ps h

-- ---- what an insertion leaves
pub found_in : (ps : List Plane) (p : Plane) → Contains ps p → list_any (plane_eq p) ps ≡ true
found_in ps p h = list_any_at (plane_eq p) ps h.0 p h.1 (eq_from_same p _ (sym h.2))

inserted_if : (b : Bool) (ps new : List Plane) (p : Plane) → new ≡ (if b then ps else (ps ++ p ∷ [])) → (b ≡ true → new ≡ ps) × (b ≡ false → new ≡ ps ++ p ∷ [])
inserted_if true ps new p e = ((λ _. e), (λ f. absurd (true≢false f)))
inserted_if false ps new p e = ((λ t. absurd (true≢false (sym t))), (λ _. e))

pub insert_known : (ps new : List Plane) (p : Plane) → new ≡ (if list_any (plane_eq p) ps then ps else (ps ++ p ∷ [])) → Contains ps p → new ≡ ps
insert_known ps new p e h = (inserted_if (list_any (plane_eq p) ps) ps new p e).0 (found_in ps p h)

absent_test : (ps : List Plane) (p : Plane) (b : Bool) → list_any (plane_eq p) ps ≡ b → (Contains ps p → ⊥) → b ≡ false
absent_test ps p true e h = absurd (h (Contains-from_any same_from_eq p ps e))
absent_test ps p false e h = refl

pub insert_new : (ps new : List Plane) (p : Plane) → new ≡ (if list_any (plane_eq p) ps then ps else (ps ++ p ∷ [])) → (Contains ps p → ⊥) → new ≡ ps ++ p ∷ []
insert_new ps new p e h = (inserted_if (list_any (plane_eq p) ps) ps new p e).1 (absent_test ps p _ refl h)

slice_get-append : {X : Type 0} → (xs ys : List X) (k : ℕ) → k < length xs → slice_get (xs ++ ys) k ≡ slice_get xs k
slice_get-append [] ys k h = absurd (omega arith)
slice_get-append (x ∷ xs) ys zero h = refl
slice_get-append (x ∷ xs) ys (suc k) h = slice_get-append xs ys k (omega arith)

kept_below : {X : Type 0} → (b : Bool) (xs : List X) (y : X) (k : ℕ) → k < length xs → slice_get (if b then xs else (xs ++ y ∷ [])) k ≡ slice_get xs k
kept_below true xs y k h = refl
kept_below false xs y k h = slice_get-append xs (y ∷ []) k h

pub insert_keeps : (ps new : List Plane) (p : Plane) (k : ℕ) → new ≡ (if list_any (plane_eq p) ps then ps else (ps ++ p ∷ [])) → k < length ps → slice_get new k ≡ slice_get ps k
insert_keeps ps new p k e h = ap (λ x. slice_get x k) e ∙ kept_below (list_any (plane_eq p) ps) ps p k h

grown_if : (b : Bool) (ps : List Plane) (p : Plane) → (length ps ≤ length (if b then ps else (ps ++ p ∷ []))) × (length (if b then ps else (ps ++ p ∷ [])) ≤ length ps + 1)
grown_if true ps p = (omega arith, omega arith)
grown_if false ps p = (omega (arith, length-append ps (p ∷ [])), omega (arith, length-append ps (p ∷ [])))

pub insert_grows : (ps new : List Plane) (p : Plane) → new ≡ (if list_any (plane_eq p) ps then ps else (ps ++ p ∷ [])) → (length ps ≤ length new) × (length new ≤ length ps + 1)
insert_grows ps new p e = rw e (grown_if (list_any (plane_eq p) ps) ps p)

-- ---- the walls
take-append : {X : Type 0} → (n : ℕ) (xs ys : List X) → length (take n xs) ≡ n → take n (xs ++ ys) ≡ take n xs
take-append zero xs ys e = refl
take-append (suc n) [] ys e = absurd (omega arith)
take-append (suc n) (x ∷ xs) ys e = ap (λ (zs : List _). x ∷ zs) (take-append n xs ys (omega arith))

pub length-map : {X Y : Type 0} → (f : X → Y) (xs : List X) → length (map f xs) ≡ length xs
length-map f [] = refl
length-map f (x ∷ xs) = ap suc (length-map f xs)

walls_first : (ps qs : List Plane) → BeginsWithWalls ps → BeginsWithWalls (ps ++ qs)
walls_first ps qs h = ap (map plane_of) (take-append 6 ps qs (sym (length-map plane_of (take 6 ps)) ∙ ap length h)) ∙ h

walls_if : (b : Bool) (ps : List Plane) (p : Plane) → BeginsWithWalls ps → BeginsWithWalls (if b then ps else (ps ++ p ∷ []))
walls_if true ps p h = h
walls_if false ps p h = walls_first ps (p ∷ []) h

pub insert_walls : (ps new : List Plane) (p : Plane) → new ≡ (if list_any (plane_eq p) ps then ps else (ps ++ p ∷ [])) → BeginsWithWalls ps → BeginsWithWalls new
insert_walls ps new p e h = subst BeginsWithWalls (sym e) (walls_if (list_any (plane_eq p) ps) ps p h)
