-- The instances of an accepted file have short numbers, and so have the references in their parameters.
use Rattle.std.proofs.Common.{◌≡◌, ◌≤◌, ◌+◌, ◌^◌, ℕ, Bool, true, List, [], ◌∷◌, ◌++◌, map, length, nat_le, refl, ◌∙◌, ap, subst, arith}
use Rattle.std.proofs.lemmas.Bool.{and_from, le-leb, lt-ltb}
use Rattle.std.proofs.lemmas.List.{length-append, length-map}
use Rattle.std.specs.List.{flat_map, list_all}
use Rattle.spec_step.specs.Files.{IsAccepted}
use Rattle.spec_step.specs.Grammar.{Want, spanned, number, ending, opening, closing, comma, equals, further, members, layer_spelling, spelling, arguments, head_spelling, body_spelling, instance_spelling, file_start, data_start, file_end, file_spelling}
use Rattle.spec_step.specs.declared.token.TokenKind.TheVariants as kind
use Rattle.spec_step.specs.declared.tree.Param.{Param}
use Rattle.spec_step.specs.declared.tree.Param.TheOpen.{Param-F}
use Rattle.spec_step.specs.declared.tree.Param.TheOpen as layer
use Rattle.spec_step.specs.declared.tree.Param.TheViews.{roll-Param}
use Rattle.spec_step.specs.declared.tree.Param.TheFolds.{fold-roll-Param, ind-Param, map-Param}
use Rattle.spec_step.specs.declared.tree.Entry.{Entry}
use Rattle.spec_step.specs.declared.tree.Body.{Body}
use Rattle.spec_step.specs.declared.tree.Body.TheVariants.{Simple, Complex}
use Rattle.spec_step.specs.declared.tree.Instance.{Instance}
use Rattle.spec_table.specs.Sections.{DataSection}
use Rattle.table_limits.proofs.Kept.{Each}
use Rattle.table_limits.proofs.Trees.{layer_short, is_short, IsShortParam}
use Rattle.table_limits.proofs.Tables.{IsShortBody, IsShortInstance, IsShortSection}
use Rattle.table_limits.proofs.Tokens.{IsShortWant, AreShort, file_short}

-- Parts of a text.

each_front : (xs ys : List Want) → Each IsShortWant (xs ++ ys) → Each IsShortWant xs
each_front [] ys h = tt
each_front (x ∷ xs) ys h = (h.0, each_front xs ys h.1)

each_rest : (xs ys : List Want) → Each IsShortWant (xs ++ ys) → Each IsShortWant ys
each_rest [] ys h = h
each_rest (x ∷ xs) ys h = each_rest xs ys h.1

front_short : (xs ys : List Want) → AreShort (xs ++ ys) → AreShort xs
front_short xs ys h = record { each = each_front xs ys h.each; many = omega (arith, length-append xs ys, h.many) }

rest_short : (xs ys : List Want) → AreShort (xs ++ ys) → AreShort ys
rest_short xs ys h = record { each = each_rest xs ys h.each; many = omega (arith, length-append xs ys, h.many) }

behind_short : (w : Want) (ws : List Want) → AreShort (w ∷ ws) → AreShort ws
behind_short w ws h = record { each = h.each.1; many = omega (arith, h.many) }

further_short : (parts : List (List Want)) → AreShort (further parts) → Each AreShort parts
further_short [] h = tt
further_short (p ∷ ps) h =
    let both = behind_short comma (p ++ further ps) h in
    (front_short p (further ps) both, further_short ps (rest_short p (further ps) both))

members_short : (parts : List (List Want)) → AreShort (members parts) → Each AreShort parts
members_short [] h = tt
members_short (p ∷ ps) h = (front_short p (further ps) h, further_short ps (rest_short p (further ps) h))

further_long : (parts : List (List Want)) → length parts + 1 ≤ length (further parts)
further_long [] = omega arith
further_long (p ∷ ps) = omega (arith, length-append p (further ps), further_long ps)

members_long : (parts : List (List Want)) → length parts ≤ length (members parts)
members_long [] = omega arith
members_long (p ∷ ps) = omega (arith, length-append p (further ps), further_long ps)

-- Parameters.

abbrev SpellsShort : Param → Type 0
SpellsShort q = AreShort (spelling q) → IsShortParam q

abbrev Known : Type 0
Known = (p : Param) × SpellsShort p

abbrev known_spelling : Known → List Want
known_spelling e = spelling e.0

abbrev known_param : Known → Param
known_param e = e.0

list_short : (es : List Known) → Each AreShort (map known_spelling es) → list_all (λ b. b) (map is_short (map known_param es)) ≡ true
list_short [] h = refl
list_short (e ∷ es) h = and_from (is_short e.0) (list_all (λ b. b) (map is_short (map known_param es))) (e.1 h.0) (list_short es h.1)

list_many : (es : List Known) → length (map known_spelling es) ≤ 2 ^ 27 → length (map is_short (map known_param es)) ≤ 2 ^ 27
list_many es h = omega (arith, h, length-map es known_spelling, length-map (map known_param es) is_short, length-map es known_param)

abbrev layer_of : Param-F Known → Param-F Param
layer_of y = map-Param Known Param known_param y

abbrev wants_of : Param-F Known → List Want
wants_of y = layer_spelling (map-Param Known (List Want) known_spelling y)

known_layer : (y : Param-F Known) → AreShort (wants_of y) → layer_short (map-Param Param Bool is_short (layer_of y)) ≡ true
known_layer layer.Unset h = refl
known_layer layer.Derived h = refl
known_layer (layer.Int p) h = refl
known_layer (layer.Real p) h = refl
known_layer (layer.Text p) h = refl
known_layer (layer.Enumeration p) h = refl
known_layer (layer.Binary p) h = refl
known_layer (layer.Reference n) h = lt-ltb n (10 ^ 18) h.each.0
known_layer (layer.List es) h =
    let parts : List (List Want) = map known_spelling es in
    let inner : AreShort (members parts) = behind_short opening (members parts) h in
    let many : length parts ≤ 2 ^ 27 = omega (arith, members_long parts, inner.many) in
    and_from (nat_le (length (map is_short (map known_param es))) (2 ^ 27)) (list_all (λ b. b) (map is_short (map known_param es)))
    (le-leb (length (map is_short (map known_param es))) (2 ^ 27) (list_many es many)) (list_short es (members_short parts inner))
known_layer (layer.Typed k e) h =
    e.1 (front_short (spelling e.0) (closing ∷ []) (behind_short opening (spelling e.0 ++ closing ∷ []) (behind_short (spanned kind.Keyword k) (opening ∷ (spelling e.0 ++ closing ∷ [])) h)))

spell_known : (es : List Known) → map spelling (map known_param es) ≡ map known_spelling es
spell_known [] = refl
spell_known (e ∷ es) = ap (λ l. spelling e.0 ∷ l) (spell_known es)

map_known : (y : Param-F Known) → map-Param Param (List Want) spelling (layer_of y) ≡ map-Param Known (List Want) known_spelling y
map_known layer.Unset = refl
map_known layer.Derived = refl
map_known (layer.Int p) = refl
map_known (layer.Real p) = refl
map_known (layer.Text p) = refl
map_known (layer.Enumeration p) = refl
map_known (layer.Binary p) = refl
map_known (layer.Reference n) = refl
map_known (layer.List es) = ap layer.List (spell_known es)
map_known (layer.Typed k e) = refl

rolled_wants : (y : Param-F Known) → spelling (roll-Param (layer_of y)) ≡ wants_of y
rolled_wants y = fold-roll-Param (List Want) layer_spelling (layer_of y) ∙ ap layer_spelling (map_known y)

known_short : (y : Param-F Known) → SpellsShort (roll-Param (layer_of y))
known_short y h = fold-roll-Param Bool layer_short (layer_of y) ∙ known_layer y (subst AreShort (rolled_wants y) h)

-- by induction on the parameter: y is x with what is known of each child
spelled_short : (p : Param) → AreShort (spelling p) → IsShortParam p
spelled_short = ind-Param SpellsShort (λ x y is. subst (λ z. SpellsShort (roll-Param z)) is (known_short y))

params_short : (ps : List Param) → Each AreShort (map spelling ps) → Each IsShortParam ps
params_short [] h = tt
params_short (p ∷ ps) h = (spelled_short p h.0, params_short ps h.1)

arguments_short : (ps : List Param) → AreShort (arguments ps) → Each IsShortParam ps
arguments_short ps h = params_short ps (members_short (map spelling ps) (behind_short opening (members (map spelling ps)) h))

-- Instances.

body_short : (b : Body) → AreShort (body_spelling b) → IsShortBody b
body_short (Simple e) h = arguments_short e.params (behind_short (spanned kind.Keyword e.keyword) (arguments e.params) h)
body_short (Complex es) h = tt

instance_short : (i : Instance) → AreShort (instance_spelling i) → IsShortInstance i
instance_short i h =
    let tail : List Want = body_spelling i.body ++ ending i.end ∷ [] in
    record {
      number = h.each.0;
      body = body_short i.body (front_short (body_spelling i.body) (ending i.end ∷ []) (behind_short equals tail (behind_short (number i.number i.from) (equals ∷ tail) h)));
    }

instances_short : (is : List Instance) → AreShort (flat_map instance_spelling is) → Each IsShortInstance is
instances_short [] h = tt
instances_short (i ∷ is) h =
    (instance_short i (front_short (instance_spelling i) (flat_map instance_spelling is) h), instances_short is (rest_short (instance_spelling i) (flat_map instance_spelling is) h))

-- the section of a file of at most 2^27 bytes has short numbers
pub accepted_short : (given : List ℕ) (section : DataSection) (head : List Entry) → IsAccepted given head section.instances → length given ≤ 2 ^ 27 → IsShortSection section
accepted_short given section head accepted small =
    let read : List Want = flat_map instance_spelling section.instances in
    let front : List Want = (file_start ++ flat_map head_spelling head) ++ data_start in
    let file = accepted.file in
    let all : AreShort (file_spelling head section.instances) = file_short given file.lexemes (file_spelling head section.instances) file.tokens file.derived.tokens small in
    instances_short section.instances (rest_short front read (front_short (front ++ read) file_end all))
