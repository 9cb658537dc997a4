-- In a file, behind each token but a mark stands a mark.
use Rattle.std.proofs.Common.{◌≡◌, Bool, true, false, ◌&&◌, ◌||◌, List, [], ◌∷◌, ◌++◌, map, refl, sym, ◌∙◌, ap, subst, append_assoc}
use Rattle.std.proofs.lemmas.Bool.{true≢false, and_parts}
use Rattle.std.specs.List.{AllZip, flat_map}
use Rattle.spec_step.specs.Lexemes.{Lexeme}
use Rattle.spec_step.specs.Kinds.{is_mark_kind}
use Rattle.spec_step.specs.Grammar.{Want, start_word, end_word, word, mark, spanned, head_keyword, reference, number, ending, closing, IsAs, further, members, layer_spelling, spelling, arguments, entry_spelling, head_spelling, body_spelling, instance_spelling, file_start, data_start, file_end, file_spelling}
use Rattle.spec_step.specs.declared.tree.Param.{Param}
use Rattle.spec_step.specs.declared.tree.Param.TheOpen.{Param-F}
use Rattle.spec_step.specs.declared.tree.Param.TheOpen as layer
use Rattle.spec_step.specs.declared.tree.Param.TheFolds.{ind-Param, fold-roll-Param, map-Param}
use Rattle.spec_step.specs.declared.tree.Entry.{Entry}
use Rattle.spec_step.specs.declared.tree.Body.{Body}
use Rattle.spec_step.specs.declared.tree.Body.TheVariants.{Simple, Complex}
use Rattle.spec_step.specs.declared.tree.Instance.{Instance}
use Rattle.step_print.proofs.Spelled.{map_known}

-- Of tokens.

abbrev pub starts_mark : List Lexeme → Bool
starts_mark [] = false
starts_mark (l ∷ ls) = is_mark_kind l.kind

abbrev pub is_apart : List Lexeme → Bool
is_apart [] = true
is_apart (l ∷ ls) = (is_mark_kind l.kind || starts_mark ls) && is_apart ls

-- And of what the grammar wants.

abbrev is_mark_want : Want → Bool
is_mark_want (mark b) = true
is_mark_want (ending e) = true
is_mark_want start_word = false
is_mark_want end_word = false
is_mark_want (word w) = false
is_mark_want (spanned k p) = false
is_mark_want (head_keyword p) = false
is_mark_want (reference n) = false
is_mark_want (number n from) = false

abbrev wants_mark : List Want → Bool
wants_mark [] = false
wants_mark (w ∷ ws) = is_mark_want w

abbrev are_apart : List Want → Bool
are_apart [] = true
are_apart (w ∷ ws) = (is_mark_want w || wants_mark ws) && are_apart ws

both : (a b : Bool) → a ≡ true → b ≡ true → (a && b) ≡ true
both true b e h = h
both false b e h = e

-- these end with a mark
record Joins (ws : List Want) : Type 0 where
  pub joined : (rest : List Want) → are_apart rest ≡ true → are_apart (ws ++ rest) ≡ true

-- behind these a mark is to stand
record JoinsMark (ws : List Want) : Type 0 where
  pub joined : (rest : List Want) → wants_mark rest ≡ true → are_apart rest ≡ true → are_apart (ws ++ rest) ≡ true

joins-append : (xs ys : List Want) → Joins xs → Joins ys → Joins (xs ++ ys)
joins-append xs ys h k = record { joined = λ rest e. ap are_apart (append_assoc xs ys rest) ∙ h.joined (ys ++ rest) (k.joined rest e) }

joins_flat : {X : Type 0} (f : X → List Want) → ((x : X) → Joins (f x)) → (xs : List X) → Joins (flat_map f xs)
joins_flat f h [] = record { joined = λ rest e. e }
joins_flat f h (x ∷ xs) = joins-append (f x) (flat_map f xs) (h x) (joins_flat f h xs)

further_starts : (ps : List (List Want)) (rest : List Want) → wants_mark (further ps ++ rest) ≡ true
further_starts [] rest = refl
further_starts (p ∷ ps) rest = refl

further_apart : {X : Type 0} (f : X → List Want) → ((x : X) → JoinsMark (f x)) → (xs : List X) → Joins (further (map f xs))
further_apart f h [] = record { joined = λ rest e. e }
further_apart f h (x ∷ xs) = record {
  joined = λ rest e. ap are_apart (append_assoc (f x) (further (map f xs)) rest)
      ∙ (h x).joined (further (map f xs) ++ rest) (further_starts (map f xs) rest) ((further_apart f h xs).joined rest e);
}

members_apart : {X : Type 0} (f : X → List Want) → ((x : X) → JoinsMark (f x)) → (xs : List X) → Joins (members (map f xs))
members_apart f h [] = record { joined = λ rest e. e }
members_apart f h (x ∷ xs) = record {
  joined = λ rest e. ap are_apart (append_assoc (f x) (further (map f xs)) rest)
      ∙ (h x).joined (further (map f xs) ++ rest) (further_starts (map f xs) rest) ((further_apart f h xs).joined rest e);
}

abbrev Known : Type 0
Known = (p : Param) × JoinsMark (spelling p)

abbrev known_spelling : Known → List Want
known_spelling e = spelling e.0

typed_apart : (e : Known) (rest : List Want) → are_apart rest ≡ true → are_apart ((spelling e.0 ++ closing ∷ []) ++ rest) ≡ true
typed_apart e rest h = ap are_apart (append_assoc (spelling e.0) (closing ∷ []) rest) ∙ e.1.joined (closing ∷ rest) refl h

layer_apart : (y : Param-F Known) → JoinsMark (layer_spelling (map-Param Known (List Want) known_spelling y))
layer_apart layer.Unset = record { joined = λ rest m e. e }
layer_apart layer.Derived = record { joined = λ rest m e. e }
layer_apart (layer.Int p) = record { joined = λ rest m e. both (wants_mark rest) (are_apart rest) m e }
layer_apart (layer.Real p) = record { joined = λ rest m e. both (wants_mark rest) (are_apart rest) m e }
layer_apart (layer.Text p) = record { joined = λ rest m e. both (wants_mark rest) (are_apart rest) m e }
layer_apart (layer.Enumeration p) = record { joined = λ rest m e. both (wants_mark rest) (are_apart rest) m e }
layer_apart (layer.Binary p) = record { joined = λ rest m e. both (wants_mark rest) (are_apart rest) m e }
layer_apart (layer.Reference n) = record { joined = λ rest m e. both (wants_mark rest) (are_apart rest) m e }
layer_apart (layer.List es) = record { joined = λ rest m e. (members_apart known_spelling (λ k. k.1) es).joined rest e }
layer_apart (layer.Typed k p) = record { joined = λ rest m e. typed_apart p rest e }

-- behind a parameter a mark is to stand
param_apart : (p : Param) → JoinsMark (spelling p)
param_apart = ind-Param (λ q. JoinsMark (spelling q)) (λ x y is.
    let here : map-Param Param (List Want) spelling x ≡ map-Param Known (List Want) known_spelling y = ap (map-Param Param (List Want) spelling) (sym is) ∙ map_known (λ e. e.0) y in
    subst JoinsMark (sym (fold-roll-Param (List Want) layer_spelling x ∙ ap layer_spelling here)) (layer_apart y))

arguments_apart : (ps : List Param) → Joins (arguments ps)
arguments_apart ps = record { joined = λ rest e. (members_apart spelling param_apart ps).joined rest e }

entry_apart : (e : Entry) → Joins (entry_spelling e)
entry_apart e = record { joined = λ rest h. (arguments_apart e.params).joined rest h }

head_apart : (e : Entry) → Joins (head_spelling e)
head_apart e = record {
  joined = λ rest h. ap are_apart (append_assoc (members (map spelling e.params)) (mark 59 ∷ []) rest) ∙ (arguments_apart e.params).joined (mark 59 ∷ rest) h;
}

body_apart : (b : Body) → Joins (body_spelling b)
body_apart (Simple e) = entry_apart e
body_apart (Complex es) = record {
  joined = λ rest h. ap are_apart (append_assoc (flat_map entry_spelling es) (closing ∷ []) rest) ∙ (joins_flat entry_spelling entry_apart es).joined (closing ∷ rest) h;
}

instance_apart : (i : Instance) → Joins (instance_spelling i)
instance_apart i = record {
  joined = λ rest h. ap are_apart (append_assoc (body_spelling i.body) (ending i.end ∷ []) rest) ∙ (body_apart i.body).joined (ending i.end ∷ rest) h;
}

start_joins : Joins file_start
start_joins = record { joined = λ rest e. e }

data_joins : Joins data_start
data_joins = record { joined = λ rest e. e }

wants_apart : (head : List Entry) (instances : List Instance) → are_apart (file_spelling head instances) ≡ true
wants_apart head instances =
    let heads : List Want = file_start ++ flat_map head_spelling head in
    let front : Joins heads = joins-append file_start (flat_map head_spelling head) start_joins (joins_flat head_spelling head_apart head) in
    let middle : Joins (heads ++ data_start) = joins-append heads data_start front data_joins in
    (joins-append (heads ++ data_start) (flat_map instance_spelling instances) middle (joins_flat instance_spelling instance_apart instances)).joined file_end refl

-- From what is wanted to the tokens.

mark_as : (w : Want) (l : Lexeme) → IsAs w l → is_mark_want w ≡ true → is_mark_kind l.kind ≡ true
mark_as (mark b) l h e = ap is_mark_kind h.0
mark_as (ending at) l h e = ap is_mark_kind h.0
mark_as start_word l h e = absurd (true≢false (sym e))
mark_as end_word l h e = absurd (true≢false (sym e))
mark_as (word w) l h e = absurd (true≢false (sym e))
mark_as (spanned k p) l h e = absurd (true≢false (sym e))
mark_as (head_keyword p) l h e = absurd (true≢false (sym e))
mark_as (reference n) l h e = absurd (true≢false (sym e))
mark_as (number n from) l h e = absurd (true≢false (sym e))

starts_as : (ws : List Want) (ls : List Lexeme) → AllZip IsAs ws ls → wants_mark ws ≡ true → starts_mark ls ≡ true
starts_as [] ls h e = absurd (true≢false (sym e))
starts_as (w ∷ ws) [] h e = absurd h
starts_as (w ∷ ws) (l ∷ ls) h e = mark_as w l h.0 e

either : (a b c d : Bool) → (a ≡ true → c ≡ true) → (b ≡ true → d ≡ true) → (a || b) ≡ true → (c || d) ≡ true
either a b true d f g e = refl
either true b false d f g e = absurd (true≢false (sym (f refl)))
either false b false d f g e = g e

apart_as : (ws : List Want) (ls : List Lexeme) → AllZip IsAs ws ls → are_apart ws ≡ true → is_apart ls ≡ true
apart_as [] [] h e = refl
apart_as [] (l ∷ ls) h e = absurd h
apart_as (w ∷ ws) [] h e = absurd h
apart_as (w ∷ ws) (l ∷ ls) h e =
    let parts = and_parts (is_mark_want w || wants_mark ws) (are_apart ws) e in
    both (is_mark_kind l.kind || starts_mark ls) (is_apart ls)
    (either (is_mark_want w) (wants_mark ws) (is_mark_kind l.kind) (starts_mark ls) (mark_as w l h.0) (starts_as ws ls h.1) parts.0)
    (apart_as ws ls h.1 parts.1)

pub derived_apart : (head : List Entry) (instances : List Instance) (ls : List Lexeme) → AllZip IsAs (file_spelling head instances) ls → is_apart ls ≡ true
derived_apart head instances ls h = apart_as (file_spelling head instances) ls h (wants_apart head instances)
