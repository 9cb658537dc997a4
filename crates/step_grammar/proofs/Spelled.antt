-- What was read of a file so far, as the grammar wants it, and that each step adds one token.
use Rattle.std.proofs.Common.{◌≡◌, List, [], ◌∷◌, ◌++◌, Option, Some, None, codes, refl, sym, ◌∙◌, ap, append_assoc}
use Rattle.std.proofs.lemmas.List.{flat_map_more}
use Rattle.std.specs.List.{flat_map}
use Rattle.spec_step.specs.Lexemes.{Lexeme}
use Rattle.spec_step.specs.Grammar.{Want, start_word, end_word, word, spanned, head_keyword, number, ending, IsAs, semicolon, equals, opening, closing, arguments, entry_spelling, head_spelling, body_spelling, instance_spelling, section_end, file_start, data_start, file_end, file_spelling}
use Rattle.spec_step.specs.declared.token.Span.{Span}
use Rattle.spec_step.specs.declared.token.TokenKind.TheVariants as kind
use Rattle.spec_step.specs.declared.tree.Entry.{Entry}
use Rattle.spec_step.specs.declared.tree.Body.{Body}
use Rattle.spec_step.specs.declared.tree.Body.TheVariants as body
use Rattle.spec_step.specs.declared.tree.Instance.{Instance}
use Rattle.step_grammar.specs.Entries.{Stand}
use Rattle.step_grammar.specs.Places.{State, step_at, step_fixed, step_head, step_instances, step_numbered, step_equated, step_opened_instance, step_head_entry, step_simple, step_complex, behind_head_entry, behind_body, behind_part, at_place, in_entry, with_entry}
use Rattle.step_grammar.specs.declared.symbol.Name.TheVariants as name
use Rattle.step_grammar.specs.declared.symbol.Symbol.{Symbol}
use Rattle.step_grammar.specs.declared.symbol.Symbol.TheVariants as symbol
use Rattle.step_grammar.specs.declared.entry.Frame.{Frame}
use Rattle.step_grammar.specs.declared.entry.Spot.{Spot}
use Rattle.step_grammar.specs.declared.entry.Spot.TheVariants as spot
use Rattle.step_grammar.specs.declared.place.Fixed.{Fixed}
use Rattle.step_grammar.specs.declared.place.Fixed.TheVariants as fixed
use Rattle.step_grammar.specs.declared.place.Key.{Key}
use Rattle.step_grammar.specs.declared.place.Place.{Place}
use Rattle.step_grammar.specs.declared.place.Place.TheVariants as place
use Rattle.step_grammar.proofs.Frames.{FitsSpot, FitsFixed, FitsAt}
use Rattle.step_grammar.proofs.Spoken.{Spoken, semicolon_ends, is_end_section, is_header, is_data, is_head}
use Rattle.step_grammar.proofs.SpelledEntries.{before, read_entry, AddsStand, add_entry}

-- the header up to its last entry, and the file up to its last instance
abbrev headed : List Entry → List Want
headed head = file_start ++ flat_map head_spelling head

abbrev pub dated : List Entry → List Instance → List Want
dated head instances = headed head ++ (data_start ++ flat_map instance_spelling instances)

-- and the whole file
pub file_is : (head : List Entry) (instances : List Instance) → dated head instances ++ file_end ≡ file_spelling head instances
file_is head instances = ap (λ x. x ++ file_end) (sym (append_assoc (headed head) data_start (flat_map instance_spelling instances)))

-- what was read so far, place by place
abbrev read_fixed : Fixed → State → List Want
read_fixed fixed.StartWord q = []
read_fixed fixed.StartEnd q = start_word ∷ []
read_fixed fixed.Header q = start_word ∷ semicolon ∷ []
read_fixed fixed.HeaderStart q = start_word ∷ semicolon ∷ word (codes "HEADER") ∷ []
read_fixed fixed.HeaderEnd q = headed q.head ++ word (codes "ENDSEC") ∷ []
read_fixed fixed.Data q = headed q.head ++ section_end
read_fixed fixed.DataStart q = headed q.head ++ (section_end ++ word (codes "DATA") ∷ [])
read_fixed fixed.DataEnd q = dated q.head q.instances ++ word (codes "ENDSEC") ∷ []
read_fixed fixed.EndWord q = dated q.head q.instances ++ section_end
read_fixed fixed.FileEnd q = dated q.head q.instances ++ (section_end ++ end_word ∷ [])
read_fixed fixed.Nothing q = dated q.head q.instances ++ file_end

-- an instance up to its `=`
abbrev keyed : Key → List Want → List Want
keyed key ws = number key.number key.from ∷ equals ∷ ws

abbrev read_at : Place → State → List Want
read_at (place.Fixed f) q = read_fixed f q
read_at place.Head q = headed q.head
read_at (place.HeadEntry p) q = headed q.head ++ read_entry head_keyword p q.frames
read_at place.Instances q = dated q.head q.instances
read_at (place.Numbered key) q = dated q.head q.instances ++ number key.number key.from ∷ []
read_at (place.Equated key) q = dated q.head q.instances ++ keyed key []
read_at (place.Simple key p) q = dated q.head q.instances ++ keyed key (read_entry (spanned kind.Keyword) p q.frames)
read_at (place.Opened key) q = dated q.head q.instances ++ keyed key (opening ∷ [])
read_at (place.Complex key es p) q = dated q.head q.instances ++ keyed key (opening ∷ (flat_map entry_spelling es ++ read_entry (spanned kind.Keyword) p q.frames))
read_at (place.Closed key es) q = dated q.head q.instances ++ keyed key (body_spelling (body.Complex es))

-- what was read so far
abbrev pub read : State → List Want
read q = read_at q.place q

-- where the step exists, its token is as some want says that is added to what was read
abbrev pub AddsState : Lexeme → List Want → Option State → Type 0
AddsState l ws None = Unit {0}
AddsState l ws (Some q) = (w : Want) × IsAs w l × (read q ≡ ws ++ w ∷ [])

-- so it is at each place in a file
add_fixed : (q : State) (f : Fixed) (s : Symbol) (l : Lexeme) → FitsFixed f q → Spoken s l → AddsState l (read_fixed f q) (at_place q (step_fixed f s))
add_fixed q fixed.StartWord symbol.StartWord l h k = (start_word, k, refl)
add_fixed q fixed.StartWord s l h k = tt
add_fixed q fixed.StartEnd (symbol.Semicolon end) l h k = (semicolon, semicolon_ends end l k, refl)
add_fixed q fixed.StartEnd s l h k = tt
add_fixed q fixed.Header (symbol.Keyword p name.Header) l h k = (word (codes "HEADER"), is_header p l k, refl)
add_fixed q fixed.Header s l h k = tt
add_fixed q fixed.HeaderStart (symbol.Semicolon end) l h k = (semicolon, semicolon_ends end l k, ap headed h.1)
add_fixed q fixed.HeaderStart s l h k = tt
add_fixed q fixed.HeaderEnd (symbol.Semicolon end) l h k =
    (semicolon, semicolon_ends end l k, sym (append_assoc (headed q.head) (word (codes "ENDSEC") ∷ []) (semicolon ∷ [])))
add_fixed q fixed.HeaderEnd s l h k = tt
add_fixed q fixed.Data (symbol.Keyword p name.Data) l h k = (word (codes "DATA"), is_data p l k, sym (append_assoc (headed q.head) section_end (word (codes "DATA") ∷ [])))
add_fixed q fixed.Data s l h k = tt
add_fixed q fixed.DataStart (symbol.Semicolon end) l h k =
    (semicolon, semicolon_ends end l k, ap (dated q.head) h.1 ∙ sym (append_assoc (headed q.head) (section_end ++ word (codes "DATA") ∷ []) (semicolon ∷ [])))
add_fixed q fixed.DataStart s l h k = tt
add_fixed q fixed.DataEnd (symbol.Semicolon end) l h k =
    (semicolon, semicolon_ends end l k, sym (append_assoc (dated q.head q.instances) (word (codes "ENDSEC") ∷ []) (semicolon ∷ [])))
add_fixed q fixed.DataEnd s l h k = tt
add_fixed q fixed.EndWord symbol.EndWord l h k = (end_word, k, sym (append_assoc (dated q.head q.instances) section_end (end_word ∷ [])))
add_fixed q fixed.EndWord s l h k = tt
add_fixed q fixed.FileEnd (symbol.Semicolon end) l h k =
    (semicolon, semicolon_ends end l k, sym (append_assoc (dated q.head q.instances) (section_end ++ end_word ∷ []) (semicolon ∷ [])))
add_fixed q fixed.FileEnd s l h k = tt
add_fixed q fixed.Nothing s l h k = tt

-- with no parenthesis open nothing stands before an entry
none_before : (first : Span → Want) (frames : List Frame) (ws : List Want) → frames ≡ [] → before first frames ++ ws ≡ ws
none_before first frames ws h = ap (λ x. before first x ++ ws) h

add_head : (q : State) (s : Symbol) (l : Lexeme) → q.frames ≡ [] → Spoken s l → AddsState l (headed q.head) (at_place q (step_head s))
add_head q (symbol.Keyword p name.EndSection) l h k = (word (codes "ENDSEC"), is_end_section p l k, refl)
add_head q (symbol.Keyword p name.Header) l h k =
    (head_keyword p, is_head p name.Header l (λ e. cc) k, ap (λ x. headed q.head ++ x) (none_before head_keyword q.frames (head_keyword p ∷ []) h))
add_head q (symbol.Keyword p name.Data) l h k =
    (head_keyword p, is_head p name.Data l (λ e. cc) k, ap (λ x. headed q.head ++ x) (none_before head_keyword q.frames (head_keyword p ∷ []) h))
add_head q (symbol.Keyword p name.Other) l h k =
    (head_keyword p, is_head p name.Other l (λ e. cc) k, ap (λ x. headed q.head ++ x) (none_before head_keyword q.frames (head_keyword p ∷ []) h))
add_head q s l h k = tt

add_instances : (q : State) (s : Symbol) (l : Lexeme) → Spoken s l → AddsState l (dated q.head q.instances) (at_place q (step_instances s))
add_instances q (symbol.Number n from) l k = (number n from, k, refl)
add_instances q (symbol.Keyword p name.EndSection) l k = (word (codes "ENDSEC"), is_end_section p l k, refl)
add_instances q s l k = tt

add_numbered : (q : State) (key : Key) (s : Symbol) (l : Lexeme) → Spoken s l
    → AddsState l (dated q.head q.instances ++ number key.number key.from ∷ []) (at_place q (step_numbered key s))
add_numbered q key symbol.Equals l k = (equals, k, sym (append_assoc (dated q.head q.instances) (number key.number key.from ∷ []) (equals ∷ [])))
add_numbered q key s l k = tt

add_equated : (q : State) (key : Key) (s : Symbol) (l : Lexeme) → q.frames ≡ [] → Spoken s l → AddsState l (dated q.head q.instances ++ keyed key []) (at_place q (step_equated key s))
add_equated q key (symbol.Keyword p n) l h k = (
  spanned kind.Keyword p,
  (k.0, k.1),
  ap (λ x. dated q.head q.instances ++ keyed key x) (none_before (spanned kind.Keyword) q.frames (spanned kind.Keyword p ∷ []) h)
      ∙ sym (append_assoc (dated q.head q.instances) (keyed key []) (spanned kind.Keyword p ∷ [])),
)
add_equated q key symbol.Open l h k = (opening, k, sym (append_assoc (dated q.head q.instances) (keyed key []) (opening ∷ [])))
add_equated q key s l h k = tt

add_opened_instance : (q : State) (key : Key) (s : Symbol) (l : Lexeme) → q.frames ≡ [] → Spoken s l
    → AddsState l (dated q.head q.instances ++ keyed key (opening ∷ [])) (at_place q (step_opened_instance key s))
add_opened_instance q key (symbol.Keyword p n) l h k = (
  spanned kind.Keyword p,
  (k.0, k.1),
  ap (λ x. dated q.head q.instances ++ keyed key (opening ∷ x)) (none_before (spanned kind.Keyword) q.frames (spanned kind.Keyword p ∷ []) h)
      ∙ sym (append_assoc (dated q.head q.instances) (keyed key (opening ∷ [])) (spanned kind.Keyword p ∷ [])),
)
add_opened_instance q key s l h k = tt

add_behind_head_entry : (q : State) (e : Entry) (s : Symbol) (l : Lexeme) → q.frames ≡ [] → Spoken s l
    → AddsState l (headed q.head ++ read_entry head_keyword (spot.Read e) q.frames) (behind_head_entry q e s)
add_behind_head_entry q e (symbol.Semicolon end) l h k =
    let entry : List Want = head_keyword e.keyword ∷ arguments e.params in (
      semicolon,
      semicolon_ends end l k,
      sym (flat_map_more head_spelling file_start q.head e) ∙ sym (append_assoc (headed q.head) entry (semicolon ∷ []))
          ∙ ap (λ x. (headed q.head ++ x) ++ semicolon ∷ []) (sym (none_before head_keyword q.frames entry h)),
    )
add_behind_head_entry q e s l h k = tt

add_behind_body : (q : State) (key : Key) (b : Body) (s : Symbol) (l : Lexeme) (ws : List Want) → Spoken s l → ws ≡ dated q.head q.instances ++ keyed key (body_spelling b)
    → AddsState l ws (behind_body q key b s)
add_behind_body q key b (symbol.Semicolon end) l ws k e =
    let i : Instance = record { number = key.number; body = b; from = key.from; end = end } in (
      ending end,
      k,
      ap (λ x. headed q.head ++ x) (sym (flat_map_more instance_spelling data_start q.instances i))
          ∙ sym (append_assoc (headed q.head) (data_start ++ flat_map instance_spelling q.instances) (instance_spelling i))
          ∙ sym (append_assoc (dated q.head q.instances) (keyed key (body_spelling b)) (ending end ∷ []))
          ∙ ap (λ x. x ++ ending end ∷ []) (sym e),
    )
add_behind_body q key b s l ws k e = tt

-- entries, and one more with what stands behind it
entries_more : (es : List Entry) (e : Entry) (frames : List Frame) (w : Want) → frames ≡ []
    → flat_map entry_spelling (es ++ e ∷ []) ++ w ∷ [] ≡ (flat_map entry_spelling es ++ read_entry (spanned kind.Keyword) (spot.Read e) frames) ++ w ∷ []
entries_more es e frames w h =
    ap (λ x. x ++ w ∷ []) (sym (flat_map_more entry_spelling [] es e) ∙ ap (λ x. flat_map entry_spelling es ++ x) (sym (none_before (spanned kind.Keyword) frames (entry_spelling e) h)))

part_more : (q : State) (key : Key) (es : List Entry) (e : Entry) (w : Want) → q.frames ≡ []
    → dated q.head q.instances ++ keyed key (opening ∷ (flat_map entry_spelling (es ++ e ∷ []) ++ w ∷ []))
    ≡ (dated q.head q.instances ++ keyed key (opening ∷ (flat_map entry_spelling es ++ read_entry (spanned kind.Keyword) (spot.Read e) q.frames))) ++ w ∷ []
part_more q key es e w h =
    ap (λ x. dated q.head q.instances ++ keyed key (opening ∷ x)) (entries_more es e q.frames w h)
    ∙ sym (append_assoc (dated q.head q.instances) (keyed key (opening ∷ (flat_map entry_spelling es ++ read_entry (spanned kind.Keyword) (spot.Read e) q.frames))) (w ∷ []))

add_behind_part : (q : State) (key : Key) (es : List Entry) (e : Entry) (s : Symbol) (l : Lexeme) → q.frames ≡ [] → Spoken s l
    → AddsState l (read_at (place.Complex key es (spot.Read e)) q) (behind_part q key (with_entry es e) s)
add_behind_part q key es e (symbol.Keyword p n) l h k = (
  spanned kind.Keyword p,
  (k.0, k.1),
  ap (λ x. dated q.head q.instances ++ keyed key (opening ∷ (flat_map entry_spelling (es ++ e ∷ []) ++ x))) (none_before (spanned kind.Keyword) q.frames (spanned kind.Keyword p ∷ []) h)
      ∙ part_more q key es e (spanned kind.Keyword p) h,
)
add_behind_part q key es e symbol.Close l h k = (closing, k, part_more q key es e closing h)
add_behind_part q key es e s l h k = tt

-- what is added to the end of a list is added to all of it
lift : (x v ws : List Want) (w : Want) → v ≡ ws ++ w ∷ [] → x ++ v ≡ (x ++ ws) ++ w ∷ []
lift x v ws w e = ap (λ y. x ++ y) e ∙ sym (append_assoc x ws (w ∷ []))

-- what an entry's step adds is added in the file
add_in_head : (q : State) (l : Lexeme) (ws : List Want) (o : Option Stand) → AddsStand head_keyword l ws o → AddsState l (headed q.head ++ ws) (in_entry q place.HeadEntry o)
add_in_head q l ws None h = tt
add_in_head q l ws (Some stand) h = (h.0, h.1, lift (headed q.head) _ ws h.0 h.2)

add_in_simple : (q : State) (key : Key) (l : Lexeme) (ws : List Want) (o : Option Stand) → AddsStand (spanned kind.Keyword) l ws o
    → AddsState l (dated q.head q.instances ++ keyed key ws) (in_entry q (place.Simple key) o)
add_in_simple q key l ws None h = tt
add_in_simple q key l ws (Some stand) h = (h.0, h.1, lift (dated q.head q.instances) _ (keyed key ws) h.0 (ap (keyed key) h.2))

add_in_complex : (q : State) (key : Key) (es : List Entry) (l : Lexeme) (ws : List Want) (o : Option Stand) → AddsStand (spanned kind.Keyword) l ws o
    → AddsState l (dated q.head q.instances ++ keyed key (opening ∷ (flat_map entry_spelling es ++ ws))) (in_entry q (place.Complex key es) o)
add_in_complex q key es l ws None h = tt
add_in_complex q key es l ws (Some stand) h = (
  h.0,
  h.1,
  lift (dated q.head q.instances) _ (keyed key (opening ∷ (flat_map entry_spelling es ++ ws))) h.0
      (ap (λ x. keyed key (opening ∷ x)) (lift (flat_map entry_spelling es) _ ws h.0 h.2)),
)

add_head_entry : (q : State) (p : Spot) (s : Symbol) (l : Lexeme) → FitsSpot p q.frames → Spoken s l → AddsState l (read_at (place.HeadEntry p) q) (step_head_entry q p s)
add_head_entry q (spot.Read e) s l h k = add_behind_head_entry q e s l h k
add_head_entry q (spot.Named x) s l h k = add_in_head q l _ _ (add_entry head_keyword (spot.Named x) q.frames s l k)
add_head_entry q spot.Opened s l h k = add_in_head q l _ _ (add_entry head_keyword spot.Opened q.frames s l k)
add_head_entry q spot.Before s l h k = add_in_head q l _ _ (add_entry head_keyword spot.Before q.frames s l k)
add_head_entry q (spot.Typed x) s l h k = add_in_head q l _ _ (add_entry head_keyword (spot.Typed x) q.frames s l k)
add_head_entry q (spot.Behind p) s l h k = add_in_head q l _ _ (add_entry head_keyword (spot.Behind p) q.frames s l k)

add_simple : (q : State) (key : Key) (p : Spot) (s : Symbol) (l : Lexeme) → FitsSpot p q.frames → Spoken s l → AddsState l (read_at (place.Simple key p) q) (step_simple q key p s)
add_simple q key (spot.Read e) s l h k =
    add_behind_body q key (body.Simple e) s l _ k (ap (λ x. dated q.head q.instances ++ keyed key x) (none_before (spanned kind.Keyword) q.frames (entry_spelling e) h))
add_simple q key (spot.Named x) s l h k = add_in_simple q key l _ _ (add_entry (spanned kind.Keyword) (spot.Named x) q.frames s l k)
add_simple q key spot.Opened s l h k = add_in_simple q key l _ _ (add_entry (spanned kind.Keyword) spot.Opened q.frames s l k)
add_simple q key spot.Before s l h k = add_in_simple q key l _ _ (add_entry (spanned kind.Keyword) spot.Before q.frames s l k)
add_simple q key (spot.Typed x) s l h k = add_in_simple q key l _ _ (add_entry (spanned kind.Keyword) (spot.Typed x) q.frames s l k)
add_simple q key (spot.Behind p) s l h k = add_in_simple q key l _ _ (add_entry (spanned kind.Keyword) (spot.Behind p) q.frames s l k)

add_complex : (q : State) (key : Key) (es : List Entry) (p : Spot) (s : Symbol) (l : Lexeme) → FitsSpot p q.frames → Spoken s l
    → AddsState l (read_at (place.Complex key es p) q) (step_complex q key es p s)
add_complex q key es (spot.Read e) s l h k = add_behind_part q key es e s l h k
add_complex q key es (spot.Named x) s l h k = add_in_complex q key es l _ _ (add_entry (spanned kind.Keyword) (spot.Named x) q.frames s l k)
add_complex q key es spot.Opened s l h k = add_in_complex q key es l _ _ (add_entry (spanned kind.Keyword) spot.Opened q.frames s l k)
add_complex q key es spot.Before s l h k = add_in_complex q key es l _ _ (add_entry (spanned kind.Keyword) spot.Before q.frames s l k)
add_complex q key es (spot.Typed x) s l h k = add_in_complex q key es l _ _ (add_entry (spanned kind.Keyword) (spot.Typed x) q.frames s l k)
add_complex q key es (spot.Behind p) s l h k = add_in_complex q key es l _ _ (add_entry (spanned kind.Keyword) (spot.Behind p) q.frames s l k)

-- a step adds its token to what was read
pub add_step : (q : State) (p : Place) (s : Symbol) (l : Lexeme) → FitsAt p q → Spoken s l → AddsState l (read_at p q) (step_at q p s)
add_step q (place.Fixed f) s l h k = add_fixed q f s l h k
add_step q place.Head s l h k = add_head q s l h.0 k
add_step q (place.HeadEntry p) s l h k = add_head_entry q p s l h.0 k
add_step q place.Instances s l h k = add_instances q s l k
add_step q (place.Numbered key) s l h k = add_numbered q key s l k
add_step q (place.Equated key) s l h k = add_equated q key s l h.0 k
add_step q (place.Simple key p) s l h k = add_simple q key p s l h.0 k
add_step q (place.Opened key) s l h k = add_opened_instance q key s l h.0 k
add_step q (place.Complex key es p) s l h k = add_complex q key es p s l h.0 k
add_step q (place.Closed key es) s l h k = add_behind_body q key (body.Complex es) s l _ k refl
