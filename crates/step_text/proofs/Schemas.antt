-- The test of the header's schema is what its definition says.
use Rattle.std.proofs.Common.{◌≡◌, ℕ, ◌<◌, zero, suc, Bool, true, false, ◌&&◌, ◌||◌, List, [], ◌∷◌, length, get_or, refl, sym, ◌∙◌, ap, arith, subst, codes}
use Rattle.std.proofs.lemmas.Bool.{true≢false, and_parts}
use Rattle.std.specs.List.{list_any, Contains}
use Rattle.std.specs.Str.{str_eq_ignore_ascii_case}
use Rattle.spec_step.specs.Spans.{bytes_at}
use Rattle.spec_step.specs.Files.{NamesSchema}
use Rattle.spec_step.specs.declared.token.Span.{Span}
use Rattle.spec_step.specs.declared.tree.Param.{Param, out-Param}
use Rattle.spec_step.specs.declared.tree.Param.TheVariants as param
use Rattle.spec_step.specs.declared.tree.Param.TheOpen.{Param-F}
use Rattle.spec_step.specs.declared.tree.Param.TheOpen as layer
use Rattle.spec_step.specs.declared.tree.Param.TheViews.{roll-Param, out-roll-Param}
use Rattle.spec_step.specs.declared.tree.Param.TheFolds.{ind-Param}
use denote.Hole.Carrier.{roll}
use Rattle.spec_step.specs.declared.tree.Entry.{Entry}
use Rattle.step_text.specs.Schemas.{is_schema, is_schema_layer, list_layer, is_schema_list, is_schema_entry, is_schema_first}

abbrev Found : {X : Type 0} → (X → Bool) → List X → Type 0
Found {X} p xs = (x : X) × Contains xs x × (p x ≡ true)

found_later : {X : Type 0} (p : X → Bool) (x : X) (xs : List X) → Found p xs → Found p (x ∷ xs)
found_later p x xs f = (f.0, (suc f.1.0, omega (arith, f.1.1), f.1.2), f.2)

any_at : {X : Type 0} (p : X → Bool) (x : X) (xs : List X) (b : Bool) → p x ≡ b → (b || list_any p xs) ≡ true → (list_any p xs ≡ true → Found p xs) → Found p (x ∷ xs)
any_at p x xs true e h rest = (x, (zero, omega arith, refl), e)
any_at p x xs false e h rest = found_later p x xs (rest h)

-- where some element passes, here is one
any_member : {X : Type 0} (p : X → Bool) (xs : List X) → list_any p xs ≡ true → Found p xs
any_member p [] h = absurd (true≢false (sym h))
any_member p (x ∷ xs) h = any_at p x xs (p x) refl h (any_member p xs)

or_left : (a b : Bool) → a ≡ true → (a || b) ≡ true
or_left true b e = refl
or_left false b e = absurd (true≢false (sym e))

or_right : (a b : Bool) → b ≡ true → (a || b) ≡ true
or_right true b e = refl
or_right false b e = e

member_at : {X : Type 0} (p : X → Bool) (x : X) (xs : List X) (k : ℕ) → k < length xs → get_or xs k x ≡ x → p x ≡ true → list_any p xs ≡ true
member_at p x [] k lt e h = absurd (omega arith)
member_at p x (y ∷ ys) zero lt e h = or_left (p y) (list_any p ys) (ap p e ∙ h)
member_at p x (y ∷ ys) (suc k) lt e h = or_right (p y) (list_any p ys) (member_at p x ys k (omega arith) e h)

-- and with one that passes some element does
member_any : {X : Type 0} (p : X → Bool) (x : X) (xs : List X) → Contains xs x → p x ≡ true → list_any p xs ≡ true
member_any p x xs c h = member_at p x xs c.0 c.1 c.2 h

text_rolled : (p : Span) → roll-Param (layer.Text p) ≡ param.Text p
unfolding roll-Param roll
text_rolled p = refl

list_rolled : (ps : List Param) → roll-Param (layer.List ps) ≡ param.List ps
unfolding roll-Param roll
list_rolled ps = refl

abbrev IsSchemaText : List ℕ → Param → Type 0
IsSchemaText s q = (p : Span) × (q ≡ param.Text p) × (str_eq_ignore_ascii_case (bytes_at s p) (codes "'IFC4'") ≡ true)

text_layer : (s : List ℕ) (x : Param-F Param) → is_schema_layer s x ≡ true → IsSchemaText s (roll-Param x)
text_layer s (layer.Text p) h = (p, text_rolled p, h)
text_layer s layer.Unset h = absurd (true≢false (sym h))
text_layer s layer.Derived h = absurd (true≢false (sym h))
text_layer s (layer.Int p) h = absurd (true≢false (sym h))
text_layer s (layer.Real p) h = absurd (true≢false (sym h))
text_layer s (layer.Enumeration p) h = absurd (true≢false (sym h))
text_layer s (layer.Binary p) h = absurd (true≢false (sym h))
text_layer s (layer.Reference n) h = absurd (true≢false (sym h))
text_layer s (layer.List ps) h = absurd (true≢false (sym h))
text_layer s (layer.Typed k p) h = absurd (true≢false (sym h))

schema_text : (s : List ℕ) (q : Param) → is_schema s q ≡ true → IsSchemaText s q
schema_text s = ind-Param (λ q. is_schema s q ≡ true → IsSchemaText s q) (λ x y is h. text_layer s x (sym (ap (is_schema_layer s) (out-roll-Param x)) ∙ h))

abbrev IsSchemaList : List ℕ → Param → Type 0
IsSchemaList s q = (ps : List Param) × (q ≡ param.List ps) × (list_any (is_schema s) ps ≡ true)

list_layer_is : (s : List ℕ) (x : Param-F Param) → list_layer s x ≡ true → IsSchemaList s (roll-Param x)
list_layer_is s (layer.List ps) h = (ps, list_rolled ps, h)
list_layer_is s layer.Unset h = absurd (true≢false (sym h))
list_layer_is s layer.Derived h = absurd (true≢false (sym h))
list_layer_is s (layer.Int p) h = absurd (true≢false (sym h))
list_layer_is s (layer.Real p) h = absurd (true≢false (sym h))
list_layer_is s (layer.Text p) h = absurd (true≢false (sym h))
list_layer_is s (layer.Enumeration p) h = absurd (true≢false (sym h))
list_layer_is s (layer.Binary p) h = absurd (true≢false (sym h))
list_layer_is s (layer.Reference n) h = absurd (true≢false (sym h))
list_layer_is s (layer.Typed k p) h = absurd (true≢false (sym h))

schema_list : (s : List ℕ) (q : Param) → is_schema_list s q ≡ true → IsSchemaList s q
schema_list s = ind-Param (λ q. is_schema_list s q ≡ true → IsSchemaList s q) (λ x y is h. list_layer_is s x (sym (ap (list_layer s) (out-roll-Param x)) ∙ h))

abbrev FirstList : List ℕ → List Param → Type 0
FirstList s params = (first : Param) × (others : List Param) × (params ≡ first ∷ others) × (is_schema_list s first ≡ true)

first_list : (s : List ℕ) (params : List Param) → is_schema_first s params ≡ true → FirstList s params
first_list s [] h = absurd (true≢false (sym h))
first_list s (p ∷ ps) h = (p, ps, refl, h)

pub schema_named : (s : List ℕ) (head : List Entry) → list_any (is_schema_entry s) head ≡ true → NamesSchema s head
schema_named s head h =
    let e = any_member (is_schema_entry s) head h in
    let parts = and_parts (str_eq_ignore_ascii_case (bytes_at s e.0.keyword) (codes "FILE_SCHEMA")) (is_schema_first s e.0.params) e.2 in
    let first = first_list s e.0.params parts.1 in
    let members = schema_list s first.0 first.3 in
    let found = any_member (is_schema s) members.0 members.2 in
    let text = schema_text s found.0 found.2 in
    record {
      entry = e.0;
      schemas = members.0;
      others = first.1;
      text = text.0;
      among = e.1;
      keyword = parts.0;
      first = first.2 ∙ ap (λ p. p ∷ first.1) members.1;
      member = subst (Contains members.0) text.1 found.1;
      accepted = text.2;
    }

both : (a b : Bool) → a ≡ true → b ≡ true → (a && b) ≡ true
both true b e h = h
both false b e h = e

pub named_schema : (s : List ℕ) (head : List Entry) → NamesSchema s head → list_any (is_schema_entry s) head ≡ true
named_schema s head h =
    let text : is_schema s (param.Text h.text) ≡ true =
    ap (is_schema_layer s) (ap out-Param (sym (text_rolled h.text)) ∙ out-roll-Param (layer.Text h.text)) ∙ h.accepted in
    let members : list_any (is_schema s) h.schemas ≡ true = member_any (is_schema s) (param.Text h.text) h.schemas h.member text in
    let listed : is_schema_list s (param.List h.schemas) ≡ true =
    ap (list_layer s) (ap out-Param (sym (list_rolled h.schemas)) ∙ out-roll-Param (layer.List h.schemas)) ∙ members in
    let first : is_schema_first s h.entry.params ≡ true = ap (is_schema_first s) h.first ∙ listed in
    member_any (is_schema_entry s) h.entry head h.among
    (both (str_eq_ignore_ascii_case (bytes_at s h.entry.keyword) (codes "FILE_SCHEMA")) (is_schema_first s h.entry.params) h.keyword first)
