-- The search for a writer of a name, and the task of the format that names it.
use Rattle.std.proofs.Common.{◌≡◌, ◌⊎◌, ℕ, zero, suc, ◌+◌, ◌-◌, ◌<◌, ◌≤◌, Bool, true, false, cond, List, [], ◌∷◌, ◌++◌, length, drop, get_or, map, Option, Some, None, IfSome, String, Global, inl, inr, refl, sym, ◌∙◌, ap, subst, add-one, arith}
use Rattle.std.proofs.Math.Seq.{drop-cons}
use Rattle.std.proofs.lemmas.List.{drop_all, length-map}
use Rattle.std.proofs.lemmas.Option.{slice_get-map, slice_get-get_or, slice_get_cases}
use Rattle.std.specs.Prelude.{slice_get, string_bytes, codes}
use Rattle.std.specs.Option.{option_map, option_and_then}
use Rattle.std.specs.Str.{bytes_eq}
use Rattle.spec_geometry.specs.Files.{File}
use Rattle.world_print.specs.Elements.{Mesh}
use Rattle.mesh_out.specs.Writers.{Writer, first_named}
use Rattle.ix_words.specs.Words.{behind, format_name}
use Rattle.spec_run.specs.Changes.{Change}
use Rattle.spec_run.specs.Tasks.{faulty, converting_to}
use Rattle.spec_run.specs.Tasks.Converting.{Format, Obj, TextOf, format_of, converting}
use Rattle.ix_page.specs.Counts.{HasTaken}
use Rattle.ix_page.specs.declared.tally.Tally.{Tally}
use Rattle.ix_convert.specs.Answers.{Answers}
use Rattle.ix_convert.specs.Conversions.{IsBuilt, IsFirstAt, IsPlaceOf}
use Rattle.ix_convert.specs.declared.answer.Answer.{Answer}

-- what is known of writers
abbrev pub viewed : {X : Type 0} → List X → (X → Writer) → List Writer
viewed xs view = map view xs

one_more : {X : Type 0} (xs : List X) (i : ℕ) (x : X) → i < length xs → x ≡ get_or xs i x → drop i xs ≡ x ∷ drop (i + 1) xs
one_more xs i x lt is = drop-cons xs i x lt ∙ ap (λ y. y ∷ drop (suc i) xs) (sym is) ∙ ap (λ k. x ∷ drop k xs) (sym (add-one i))

-- the search from a place on
from_place : {X : Type 0} (view : X → Writer) (xs : List X) (i : ℕ) (x : X) (name : List ℕ) (b : Bool) → i < length xs → x ≡ get_or xs i x
    → bytes_eq (view x).name name ≡ b → first_named name (map view (drop i xs)) ≡ cond b (Some (view x)) (first_named name (map view (drop (i + 1) xs)))
from_place view xs i x name b lt is e =
    ap (λ l. first_named name (map view l)) (one_more xs i x lt is)
    ∙ ap (λ c. cond c (Some (view x)) (first_named name (map view (drop (i + 1) xs)))) e

in_list : {X : Type 0} (view : X → Writer) (xs : List X) (i : ℕ) (x : X) → i < length xs → x ≡ get_or xs i x → slice_get (map view xs) i ≡ Some (view x)
in_list view xs i x lt is =
    slice_get-map view xs i ∙ ap (option_map view) (slice_get-get_or xs i x lt) ∙ ap (λ y. Some (view y)) (sym is)

-- the writer at a place is the first of the name, where the search came to it
pub named_here : {X : Type 0} (xs : List X) (view : X → Writer) (i : ℕ) (x : X) (name : List ℕ) → i < length xs → x ≡ get_or xs i x → bytes_eq (view x).name name ≡ true
    → first_named name (map view (drop i xs)) ≡ first_named name (map view xs) → IsFirstAt (map view xs) name (Some i)
named_here xs view i x name lt is e h =
    (subst (λ n. i < n) (sym (length-map xs view)) lt, sym h ∙ from_place view xs i x name true lt is e ∙ sym (in_list view xs i x lt is))

-- and else the search goes on
pub named_next : {X : Type 0} (xs : List X) (view : X → Writer) (i : ℕ) (x : X) (name : List ℕ) → i < length xs → x ≡ get_or xs i x → bytes_eq (view x).name name ≡ false
    → first_named name (map view (drop i xs)) ≡ first_named name (map view xs) → first_named name (map view (drop (i + 1) xs)) ≡ first_named name (map view xs)
named_next xs view i x name lt is e h = sym (from_place view xs i x name false lt is e) ∙ h

-- The name of a format.

before_it : (format : ℕ) → 0 < format → format ≡ suc (format - 1)
before_it format h = omega (arith, add-one (format - 1))

at_suc : (words : List (List ℕ)) (format : ℕ) (o : Option (List ℕ)) → 0 < format
    → o ≡ option_and_then (behind (codes "--format=")) (slice_get words (format - 1)) → o ≡ format_name words format
at_suc words format o positive h = subst (λ n. o ≡ format_name words n) (sym (before_it format positive)) h

less_one : (format n : ℕ) → 0 < format → format ≤ n → format - 1 < n
less_one format n p q = omega arith

past_it : (format n : ℕ) → n < format → n ≤ format - 1
past_it format n h = omega arith

pub name_here : (words : List (String Global)) (format : ℕ) (word : String Global) (o : Option (List ℕ)) → 0 < format → format ≤ length words
    → word ≡ get_or words (format - 1) word → o ≡ behind (codes "--format=") (string_bytes {Z = Global} word)
    → o ≡ format_name (map (string_bytes {Z = Global}) words) format
name_here words format word o positive within is e =
    at_suc (map (string_bytes {Z = Global}) words) format o positive
    (e ∙ ap (option_and_then (behind (codes "--format=")))
    (sym (slice_get-map (string_bytes {Z = Global}) words (format - 1)
    ∙ ap (option_map (string_bytes {Z = Global})) (slice_get-get_or words (format - 1) word (less_one format (length words) positive within))
    ∙ ap (λ w. Some (string_bytes {Z = Global} w)) (sym is))))

pub name_past : (words : List (String Global)) (format : ℕ) (o : Option (List ℕ)) → 0 < format → length words < format → o ≡ None
    → o ≡ format_name (map (string_bytes {Z = Global}) words) format
name_past words format o positive past e =
    at_suc (map (string_bytes {Z = Global}) words) format o positive
    (e ∙ ap (option_and_then (behind (codes "--format=")))
    (sym (slice_get-map (string_bytes {Z = Global}) words (format - 1) ∙ ap (option_map (string_bytes {Z = Global})) (none_there words (format - 1) (past_it format (length words) past)))))
  where
    too_far : (n i : ℕ) → i < n → n ≤ i → ⊥
    too_far n i p q = omega arith

    none_by : (words : List (String Global)) (i : ℕ) → length words ≤ i
        → ((w : String Global) × (i < length words) × (slice_get words i ≡ Some w) × (get_or words i w ≡ w)) ⊎ ((length words ≤ i) × (slice_get words i ≡ None))
        → slice_get words i ≡ None
    none_by words i le (inl (w, lt, e, q)) = absurd (too_far (length words) i lt le)
    none_by words i le (inr (p, e)) = e

    none_there : (words : List (String Global)) (i : ℕ) → length words ≤ i → slice_get words i ≡ None
    none_there words i le = none_by words i le (slice_get_cases words i).1

-- the place of the writer that a format names
pub place_named : (words : List (List ℕ)) (writers : List Writer) (format : ℕ) (name : List ℕ) (r : Option ℕ) → 0 < format
    → Some name ≡ format_name words format → IsFirstAt writers name r → IsPlaceOf words writers format r
place_named words writers zero name r positive e h = absurd (none_less positive)
  where
    none_less : 0 < 0 → ⊥
    none_less p = omega arith
place_named words writers (suc place) name None positive e h =
    ap (λ o. option_map TextOf (option_and_then (λ n. first_named n writers) o)) (sym e) ∙ ap (option_map TextOf) h
place_named words writers (suc place) name (Some at) positive e h =
    (h.0, ap (λ o. option_map TextOf (option_and_then (λ n. first_named n writers) o)) (sym e) ∙ ap (option_map TextOf) h.1)

pub place_unnamed : (words : List (List ℕ)) (writers : List Writer) (format : ℕ) → 0 < format → None ≡ format_name words format → IsPlaceOf words writers format None
place_unnamed words writers zero positive e = absurd (none_less positive)
  where
    none_less : 0 < 0 → ⊥
    none_less p = omega arith
place_unnamed words writers (suc place) positive e = ap (λ o. option_map TextOf (option_and_then (λ n. first_named n writers) o)) (sym e)

-- The page of a writer.

pub text_built : (writer writer' : Writer) (file : File) (numbers text page page' : List ℕ) (tally : Tally) → HasTaken file numbers writer.taken writer'.taken tally
    → ((list : List Mesh) → writer'.text_for list ≡ writer.text_for list) → text ≡ writer'.text_for writer'.taken → page ≡ [] → page' ≡ page ++ text
    → IsBuilt (TextOf writer) file numbers page' tally
text_built writer writer' file numbers text page page' tally h texts is blank grown = record {
  items = h.items;
  outcomes = h.outcomes;
  text = record {
    meshes = h.meshes;
    converted = h.converted;
    text = grown ∙ ap (λ (l : List ℕ). l ++ text) blank ∙ is ∙ texts writer'.taken ∙ ap writer.text_for h.took;
  };
  counts = h.counts;
}

-- The writer at a place.

within_list : {X : Type 0} (xs : List X) (i : ℕ) → i < length xs → (x : X) × (slice_get xs i ≡ Some x)
within_list xs i lt = by xs i lt (slice_get_cases xs i).1
  where
    too_far : (n i : ℕ) → i < n → n ≤ i → ⊥
    too_far n i p q = omega arith

    by : {X : Type 0} (xs : List X) (i : ℕ) → i < length xs
        → ((x : X) × (i < length xs) × (slice_get xs i ≡ Some x) × (get_or xs i x ≡ x)) ⊎ ((length xs ≤ i) × (slice_get xs i ≡ None)) → (x : X) × (slice_get xs i ≡ Some x)
    by xs i lt (inl (x, p, e, q)) = (x, e)
    by xs i lt (inr (p, e)) = absurd (too_far (length xs) i lt p)

-- what is answered for the writer at the place is answered for the format that names it
pub written_for : {X : Type 0} (xs ys : List X) (view : X → Writer) (words : List (List ℕ)) (format at grid : ℕ) (only : Option ℕ) (src : Change) (page : List ℕ) (answer : Answer)
    → ys ≡ xs → IsPlaceOf words (map view ys) format (Some at)
    → IfSome (slice_get xs at) (λ x. Answers (converting grid only (TextOf (view x))) src page answer)
    → Answers (converting_to grid only (format_of words (map view xs) format)) src page answer
written_for {X = X} xs ys view words format at grid only src page answer same place h =
    let here : IsPlaceOf words (map view xs) format (Some at) = subst (λ l. IsPlaceOf words (map view l) format (Some at)) same place in
    let x = within_list xs at (subst (λ n. at < n) (length-map xs view) here.0) in
    let named : format_of words (map view xs) format ≡ Some (TextOf (view x.0)) =
    here.1 ∙ ap (option_map TextOf) (slice_get-map view xs at ∙ ap (option_map view) x.1) in
    subst (λ (o : Option Format). Answers (converting_to grid only o) src page answer) (sym named) (told (slice_get xs at) x.0 x.1 h)
  where
    told : (o : Option X) (x : X) → o ≡ Some x → IfSome o (λ x. Answers (converting grid only (TextOf (view x))) src page answer)
        → Answers (converting grid only (TextOf (view x))) src page answer
    told o x e h = subst (λ o. IfSome o (λ x. Answers (converting grid only (TextOf (view x))) src page answer)) e h

-- a format without a writer is a fault of the words
pub unnamed_for : {X : Type 0} (xs ys : List X) (view : X → Writer) (words : List (List ℕ)) (format grid : ℕ) (only : Option ℕ) (src : Change) (page blank : List ℕ) (answer : Answer)
    → ys ≡ xs → IsPlaceOf words (map view ys) format None → page ≡ blank → Answers faulty src blank answer
    → Answers (converting_to grid only (format_of words (map view xs) format)) src page answer
unnamed_for xs ys view words format grid only src page blank answer same place is_blank h =
    subst (λ (o : Option Format). Answers (converting_to grid only o) src page answer)
    (sym (subst (λ l. IsPlaceOf words (map view l) format None) same place))
    (subst (λ (p : List ℕ). Answers faulty src p answer) (sym is_blank) h)

-- OBJ text
pub obj_for : (words : List (List ℕ)) (writers : List Writer) (format grid : ℕ) (only : Option ℕ) (src : Change) (page : List ℕ) (answer : Answer) → format ≡ 0
    → Answers (converting grid only Obj) src page answer → Answers (converting_to grid only (format_of words writers format)) src page answer
obj_for words writers format grid only src page answer e h =
    subst (λ n. Answers (converting_to grid only (format_of words writers n)) src page answer) (sym e) h
