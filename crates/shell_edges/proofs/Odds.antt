-- The least of the edges that an odd number joins.
use Rattle.std.proofs.Common.{◌≡◌, ◌⊎◌, inl, inr, ℕ, zero, suc, ◌+◌, Bool, true, false, not, ◌&&◌, ◌||◌, if◌then◌else◌, List, [], ◌∷◌, map, Option, Some, None, take, slice_get, slice_index_or, length, ◌<◌, refl, sym, ap, subst, ◌∙◌, arith}
use Rattle.std.specs.List.{filter}
use Rattle.spec_space.specs.declared.Vector.{Vector}
use Rattle.spec_solid.specs.Triangles.{differ}
use Rattle.spec_shell.specs.Edges.{Edge, is_same_place, is_before, is_edge_before, joins, oddly, rising, odd_edges, least_of, open_edge}
use Rattle.shell_edges.specs.Odd.{is_odd}
use Rattle.shell_edges.proofs.Orders.{is_itself, is_same, not_after, not_same, not_same_back, one_before, neither_before}

-- ---- lists
abbrev pub Each : (Edge → Type 0) → List Edge → Type 0
Each P [] = Unit {0}
Each P (x ∷ xs) = P x × Each P xs

abbrev pub Has : Edge → List Edge → Type 0
Has k [] = ⊥
Has k (x ∷ xs) = (x ≡ k) ⊎ Has k xs

-- ---- truths
pub both_true : (s t : Bool) → (s && t) ≡ true → (s ≡ true) × (t ≡ true)
both_true true t e = (refl, e)
both_true false t e = cc

pub some_true : (s t : Bool) → (s || t) ≡ true → (s ≡ true) ⊎ (t ≡ true)
some_true true t e = inl refl
some_true false t e = inr e

or_back : (s t : Bool) → (s || t) ≡ (t || s)
or_back true true = refl
or_back true false = refl
or_back false true = refl
or_back false false = refl

not_true : (s : Bool) → not s ≡ true → s ≡ false
not_true true e = cc
not_true false e = refl

-- ---- edges that join two places
pub joins_turned : (u v : Vector) (e : Edge) → joins v u e ≡ joins u v e
joins_turned u v e = or_back (is_same_place e.0 v && is_same_place e.1 u) (is_same_place e.0 u && is_same_place e.1 v)

pub oddly_turned : (u v : Vector) (es : List Edge) → oddly (joins v u) es ≡ oddly (joins u v) es
oddly_turned u v [] = refl
oddly_turned u v (e ∷ es) = λ i. differ (joins_turned u v e i) (oddly_turned u v es i)

abbrev pub back : Edge → Edge
back e = (e.1, e.0)

-- an edge that joins the places of another is that one, or its way back
pub is_joining : (k e : Edge) → joins k.0 k.1 e ≡ true → (e ≡ k) ⊎ (e ≡ back k)
is_joining k e h = elim (some_true (is_same_place e.0 k.0 && is_same_place e.1 k.1) (is_same_place e.0 k.1 && is_same_place e.1 k.0) h) [
  | inl f ↦ let both = both_true (is_same_place e.0 k.0) (is_same_place e.1 k.1) f in inl (one e k (is_same e.0 k.0 both.0) (is_same e.1 k.1 both.1))
  | inr f ↦ let both = both_true (is_same_place e.0 k.1) (is_same_place e.1 k.0) f in inr (one e (back k) (is_same e.0 k.1 both.0) (is_same e.1 k.0 both.1))
]
  where
    one : (e k : Edge) → e.0 ≡ k.0 → e.1 ≡ k.1 → e ≡ k
    one e k f g = λ i. (f i, g i)

pub joins_own : (k : Edge) → joins k.0 k.1 k ≡ true
joins_own k = λ i. (is_itself k.0 i && is_itself k.1 i) || (is_same_place k.0 k.1 && is_same_place k.1 k.0)

pub joins_back : (k : Edge) → joins k.0 k.1 (back k) ≡ true
joins_back k = sym (joins_turned k.0 k.1 (back k)) ∙ joins_own (back k)

-- ---- the odd edges of a list, which stand in another
module _ (full : List Edge) where
  abbrev pub passes : Edge → Bool
  passes e = not (is_same_place e.0 e.1) && oddly (joins e.0 e.1) full

  abbrev pub part : List Edge → List Edge
  part es = map rising (filter passes es)

  part_with : (e : Edge) (es : List Edge) → passes e ≡ true → part (e ∷ es) ≡ rising e ∷ part es
  part_with e es h = ap (λ b. map rising (if b then e ∷ filter passes es else filter passes es)) h

  part_without : (e : Edge) (es : List Edge) → passes e ≡ false → part (e ∷ es) ≡ part es
  part_without e es h = ap (λ b. map rising (if b then e ∷ filter passes es else filter passes es)) h

  rising_odd : (e : Edge) → passes e ≡ true → is_odd full (rising e) ≡ true
  rising_odd e h =
      let both = both_true (not (is_same_place e.0 e.1)) (oddly (joins e.0 e.1) full) h in
      elim (one_before e.1 e.0 (flip (not_true (is_same_place e.0 e.1) both.0))) [
        | inl first ↦ subst (λ (f : Edge). is_odd full f ≡ true) (sym (ap (λ b. if b then back e else e) first)) (λ i. both_i first (oddly_turned e.0 e.1 full ∙ both.1) i)
        | inr second ↦ subst (λ (f : Edge). is_odd full f ≡ true) (sym (ap (λ b. if b then back e else e) second.1)) (λ i. both_i second.0 both.1 i)
      ]
    where
      both_i : {s t : Bool} → s ≡ true → t ≡ true → (s && t) ≡ true
      both_i a b = λ i. a i && b i

      flip : is_same_place e.0 e.1 ≡ false → is_same_place e.1 e.0 ≡ false
      flip f = by (is_same_place e.1 e.0) refl
        where
          by : (s : Bool) → is_same_place e.1 e.0 ≡ s → s ≡ false
          by false g = refl
          by true g = sym (sym f ∙ subst (λ w. is_same_place e.0 w ≡ true) (sym (is_same e.1 e.0 g)) (is_itself e.0))

  pub Each-part : (P : Edge → Type 0) → ((f : Edge) → is_odd full f ≡ true → P f) → (es : List Edge) → Each P (part es)
  Each-part P h [] = tt
  Each-part P h (e ∷ es) = by (passes e) refl (Each-part P h es)
    where
      by : (s : Bool) → passes e ≡ s → Each P (part es) → Each P (part (e ∷ es))
      by true g rest = subst (Each P) (sym (part_with e es g)) (h (rising e) (rising_odd e g), rest)
      by false g rest = subst (Each P) (sym (part_without e es g)) rest

  -- an odd edge is among them, where an odd number of these edges joins its places
  module _ (k : Edge) (first : is_before k.0 k.1 ≡ true) (odd : oddly (joins k.0 k.1) full ≡ true) where
    passes_is : (e : Edge) → (e ≡ k) ⊎ (e ≡ back k) → passes e ≡ true
    passes_is e (inl f) = subst (λ (x : Edge). passes x ≡ true) (sym f) (λ i. not (not_same k.0 k.1 first i) && odd i)
    passes_is e (inr f) = subst (λ (x : Edge). passes x ≡ true) (sym f) (λ i. not (not_same_back k.0 k.1 first i) && (oddly_turned k.0 k.1 full ∙ odd) i)

    rising_is : (e : Edge) → (e ≡ k) ⊎ (e ≡ back k) → rising e ≡ k
    rising_is e (inl f) = ap rising f ∙ ap (λ b. if b then back k else k) (not_after k.0 k.1 first)
    rising_is e (inr f) = ap rising f ∙ ap (λ b. if b then k else back k) first

    pub Has-part : (es : List Edge) → oddly (joins k.0 k.1) es ≡ true → Has k (part es)
    Has-part [] h = cc
    Has-part (e ∷ es) h = by (joins k.0 k.1 e) refl (Has-part es)
      where
        skip : (s : Bool) → passes e ≡ s → Has k (part es) → Has k (part (e ∷ es))
        skip true g rest = subst (Has k) (sym (part_with e es g)) (inr rest)
        skip false g rest = subst (Has k) (sym (part_without e es g)) rest

        by : (s : Bool) → joins k.0 k.1 e ≡ s → (oddly (joins k.0 k.1) es ≡ true → Has k (part es)) → Has k (part (e ∷ es))
        by true g rest = let it = is_joining k e g in subst (Has k) (sym (part_with e es (passes_is e it))) (inl (rising_is e it))
        by false g rest = skip (passes e) refl (rest (sym (ap (λ s. differ s (oddly (joins k.0 k.1) es)) g) ∙ h))

-- ---- the least of a list
abbrev or_less : Edge → Option Edge → Option Edge
or_less e None = Some e
or_less e (Some f) = Some (if is_edge_before f e then f else e)

least_step : (e : Edge) (es : List Edge) → least_of (e ∷ es) ≡ or_less e (least_of es)
least_step e es = refl

bounded : (P : Edge → Type 0) (xs : List Edge) → Each P xs → (f : Edge) → least_of xs ≡ Some f → P f
bounded P [] h f e = cc
bounded P (x ∷ xs) h f e = by (least_of xs) refl (bounded P xs h.1) e
  where
    one : (b : Bool) (y : Edge) → P y → Some (if b then y else x) ≡ Some f → P f
    one true y p e = subst P (inside e) p
      where
        inside : Some y ≡ Some f → y ≡ f
        inside e = cc
    one false y p e = subst P (inside e) h.0
      where
        inside : Some x ≡ Some f → x ≡ f
        inside e = cc

    by : (o : Option Edge) → least_of xs ≡ o → ((y : Edge) → o ≡ Some y → P y) → or_less x o ≡ Some f → P f
    by None g rest e = one false x h.0 e
    by (Some y) g rest e = one (is_edge_before y x) y (rest y refl) e

pub least_found : (k : Edge) (xs : List Edge) → Each (λ f. is_edge_before f k ≡ false) xs → Has k xs → least_of xs ≡ Some k
least_found k [] h e = absurd e
least_found k (x ∷ xs) h (inl same) = by (least_of xs) (bounded (λ f. is_edge_before f k ≡ false) xs h.1)
  where
    by : (o : Option Edge) → ((f : Edge) → o ≡ Some f → is_edge_before f k ≡ false) → or_less x o ≡ Some k
    by None g = ap (λ (y : Edge). Some y) same
    by (Some f) g = ap (λ b. Some (if b then f else x)) (subst (λ y. is_edge_before f y ≡ false) (sym same) (g f refl)) ∙ ap (λ (y : Edge). Some y) same
least_found k (x ∷ xs) h (inr rest) = ap (or_less x) (least_found k xs h.1 rest) ∙ by (is_edge_before k x) refl
  where
    by : (b : Bool) → is_edge_before k x ≡ b → Some (if b then k else x) ≡ Some k
    by true g = refl
    by false g = ap (λ (y : Edge). Some y) (neither_before x k h.0 g)

pub none_found : (xs : List Edge) → Each (λ f. ⊥) xs → least_of xs ≡ None
none_found [] h = refl
none_found (x ∷ xs) h = absurd h.0

-- ---- the open edge of a shell
no : (s : Bool) → s ≡ true → s ≡ false → ⊥
no true a b = cc
no false a b = cc

pub open_is : (es : List Edge) (k : Edge) → is_odd es k ≡ true → ((f : Edge) → is_odd es f ≡ true → is_edge_before f k ≡ false) → Some k ≡ open_edge es
open_is es k h least =
    let both = both_true (is_before k.0 k.1) (oddly (joins k.0 k.1) es) h in
    sym (least_found k (odd_edges es) (Each-part es (λ f. is_edge_before f k ≡ false) least es) (Has-part es k both.0 both.1 es both.1))

pub open_none : (es : List Edge) → ((f : Edge) → is_odd es f ≡ false) → None ≡ open_edge es
open_none es h = sym (none_found (odd_edges es) (Each-part es (λ f. ⊥) (λ f e. no (is_odd es f) e (h f)) es))

-- where there is none, no edge is odd
pub none_odd : (es : List Edge) → open_edge es ≡ None → (f : Edge) → is_odd es f ≡ false
none_odd es e f = by (is_odd es f) refl
  where
    some : (xs : List Edge) → Has f xs → least_of xs ≡ None → ⊥
    some [] h e = h
    some (x ∷ xs) h e = apart (least_of xs) e
      where
        apart : (o : Option Edge) → or_less x o ≡ None → ⊥
        apart None e = cc
        apart (Some y) e = cc

    by : (s : Bool) → is_odd es f ≡ s → s ≡ false
    by false h = refl
    by true h =
        let both = both_true (is_before f.0 f.1) (oddly (joins f.0 f.1) es) h in
        absurd (some (odd_edges es) (Has-part es f both.0 both.1 es both.1) e)

-- ---- one edge more
pub oddly-take : (test : Edge → Bool) (es : List Edge) (k : ℕ) (e : Edge) → slice_get es k ≡ Some e → oddly test (take (suc k) es) ≡ differ (test e) (oddly test (take k es))
oddly-take test [] k e at = cc
oddly-take test (x ∷ es) zero e at = let same : x ≡ e = cc in ap (λ y. differ (test y) false) same
oddly-take test (x ∷ es) (suc k) e at = ap (differ (test x)) (oddly-take test es k e at) ∙ swap (test x) (test e) (oddly test (take k es))
  where
    swap : (s t u : Bool) → differ s (differ t u) ≡ differ t (differ s u)
    swap true true u = refl
    swap true false u = refl
    swap false true u = refl
    swap false false u = refl

pub item_at : (es : List Edge) (n : ℕ) (d : Edge) → n < length es → slice_get es n ≡ Some (slice_index_or es n d)
item_at [] n d h = absurd (omega arith)
item_at (e ∷ es) zero d h = refl
item_at (e ∷ es) (suc n) d h = item_at es n d (omega arith)

pub is_odd-take : (es : List Edge) (n : ℕ) (e k : Edge) → slice_get es n ≡ Some e → differ (is_before k.0 k.1 && joins k.0 k.1 e) (is_odd (take n es) k) ≡ is_odd (take (n + 1) es) k
is_odd-take es n e k at =
    spread (is_before k.0 k.1) (joins k.0 k.1 e) (oddly (joins k.0 k.1) (take n es))
    ∙ ap (λ s. is_before k.0 k.1 && s) (sym (oddly-take (joins k.0 k.1) es n e at))
    ∙ ap (λ j. is_before k.0 k.1 && oddly (joins k.0 k.1) (take j es)) (next n)
  where
    spread : (s t u : Bool) → differ (s && t) (s && u) ≡ (s && differ t u)
    spread true t u = refl
    spread false t u = refl

    next : (n : ℕ) → suc n ≡ n + 1
    next n = omega arith
