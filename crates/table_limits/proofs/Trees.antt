-- Parameters whose references have at most 18 digits, and whose lists are not longer than a file.
use Rattle.std.proofs.Common.{◌≡◌, ◌≤◌, ◌^◌, ◌&&◌, Bool, true, List, [], ◌∷◌, map, length, sym, refl, ◌∙◌, ap, subst, nat_lt, nat_le, arith}
use Rattle.std.proofs.lemmas.Bool.{and_parts, leb-true, ltb-true}
use Rattle.std.proofs.lemmas.List.{length-map}
use Rattle.std.specs.List.{list_all}
use Rattle.spec_step.specs.declared.token.Span.{Span}
use Rattle.spec_step.specs.declared.tree.Param.{Param, out-Param}
use Rattle.spec_step.specs.declared.tree.Param.TheOpen.{Param-F}
use Rattle.spec_step.specs.declared.tree.Param.TheOpen as layer
use Rattle.spec_step.specs.declared.tree.Param.TheViews.{roll-Param, out-roll-Param}
use Rattle.spec_step.specs.declared.tree.Param.TheFolds.{fold-Param, fold-roll-Param, fold_out-Param, ind-Param, map-Param}
use Rattle.spec_table.specs.Innermost.{layer_held_param, held_param, layer_inwards, innermost}
use Rattle.spec_check.specs.Limits.{IsShort}
use Rattle.table_limits.proofs.Kept.{Each}

abbrev pub layer_short : Param-F Bool → Bool
layer_short (layer.Reference n) = nat_lt n (10 ^ 18)
layer_short (layer.List bs) = nat_le (length bs) (2 ^ 27) && list_all (λ b. b) bs
layer_short (layer.Typed k b) = b
layer_short x = true

-- no reference in the parameter has more than 18 digits, and no list more members than a file has bytes
abbrev pub is_short : Param → Bool
is_short = fold-Param Bool layer_short

abbrev pub IsShortParam : Param → Type 0
IsShortParam p = is_short p ≡ true

-- the members of a list of a file
pub record IsShortList (ps : List Param) : Type 0 where
  pub each : Each IsShortParam ps
  pub many : length ps ≤ 2 ^ 27

abbrev pub IsShortLayer : Param-F Param → Type 0
IsShortLayer (layer.Reference n) = IsShort n
IsShortLayer (layer.List ps) = IsShortList ps
IsShortLayer (layer.Typed k p) = IsShortParam p
IsShortLayer x = Unit {0}

each_short : (ps : List Param) → list_all (λ b. b) (map is_short ps) ≡ true → Each IsShortParam ps
each_short [] h = tt
each_short (p ∷ ps) h =
    let parts = and_parts (is_short p) (list_all (λ b. b) (map is_short ps)) h in
    (parts.0, each_short ps parts.1)

short_layer : (x : Param-F Param) → layer_short (map-Param Param Bool is_short x) ≡ true → IsShortLayer x
short_layer layer.Unset h = tt
short_layer layer.Derived h = tt
short_layer (layer.Int p) h = tt
short_layer (layer.Real p) h = tt
short_layer (layer.Text p) h = tt
short_layer (layer.Enumeration p) h = tt
short_layer (layer.Binary p) h = tt
short_layer (layer.Reference n) h = ltb-true n (10 ^ 18) h
short_layer (layer.List ps) h =
    let parts = and_parts (nat_le (length (map is_short ps)) (2 ^ 27)) (list_all (λ b. b) (map is_short ps)) h in
    record { each = each_short ps parts.1; many = omega (arith, leb-true (length (map is_short ps)) (2 ^ 27) parts.0, length-map ps is_short) }
short_layer (layer.Typed k p) h = h

pub out_short : (p : Param) → IsShortParam p → IsShortLayer (out-Param p)
out_short p h = short_layer (out-Param p) (sym (fold_out-Param Bool layer_short p) ∙ h)

-- What a parameter stands for.

abbrev inwards : Param → Param → Param
inwards = fold-Param (Param → Param) layer_inwards

stays : (x : Param-F Param) → layer_inwards (map-Param Param (Param → Param) inwards x) ≡ (λ whole. whole) → innermost (roll-Param x) ≡ roll-Param x
stays x e = ap (λ (f : Param → Param). f (roll-Param x)) (fold-roll-Param (Param → Param) layer_inwards x ∙ e)

held_typed : (k : Span) (p : Param) → held_param (roll-Param (layer.Typed k p)) ≡ p
held_typed k p = ap (layer_held_param (roll-Param (layer.Typed k p))) (out-roll-Param (layer.Typed k p))

innermost_typed : (k : Span) (p : Param) → innermost (roll-Param (layer.Typed k p)) ≡ innermost p
innermost_typed k p =
    ap (λ (f : Param → Param). f (roll-Param (layer.Typed k p))) (fold-roll-Param (Param → Param) layer_inwards (layer.Typed k p))
    ∙ ap (inwards p) (held_typed k p)

abbrev StandsShort : Param → Type 0
StandsShort q = IsShortParam q → IsShortParam (innermost q)

abbrev Known : Type 0
Known = (p : Param) × StandsShort p

abbrev known_param : Known → Param
known_param e = e.0

stays_short : (x : Param-F Param) → layer_inwards (map-Param Param (Param → Param) inwards x) ≡ (λ whole. whole) → StandsShort (roll-Param x)
stays_short x e h = subst IsShortParam (sym (stays x e)) h

stands_layer : (y : Param-F Known) → StandsShort (roll-Param (map-Param Known Param known_param y))
stands_layer layer.Unset = stays_short layer.Unset refl
stands_layer layer.Derived = stays_short layer.Derived refl
stands_layer (layer.Int p) = stays_short (layer.Int p) refl
stands_layer (layer.Real p) = stays_short (layer.Real p) refl
stands_layer (layer.Text p) = stays_short (layer.Text p) refl
stands_layer (layer.Enumeration p) = stays_short (layer.Enumeration p) refl
stands_layer (layer.Binary p) = stays_short (layer.Binary p) refl
stands_layer (layer.Reference n) = stays_short (layer.Reference n) refl
stands_layer (layer.List es) = stays_short (layer.List (map known_param es)) refl
stands_layer (layer.Typed k e) = λ h.
    subst IsShortParam (sym (innermost_typed k e.0)) (e.1 (sym (fold-roll-Param Bool layer_short (layer.Typed k e.0)) ∙ h))

-- what a short parameter stands for is short
innermost_short : (p : Param) → IsShortParam p → IsShortParam (innermost p)
innermost_short = ind-Param StandsShort (λ x y is. subst (λ z. StandsShort (roll-Param z)) is (stands_layer y))

pub inner_layer : (p : Param) → IsShortParam p → IsShortLayer (out-Param (innermost p))
inner_layer p h = out_short (innermost p) (innermost_short p h)
