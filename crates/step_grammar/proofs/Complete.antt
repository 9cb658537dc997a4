-- The tokens of a file lead behind its last semicolon.
use Rattle.std.proofs.Common.{◌≡◌, ℕ, List, [], ◌∷◌, ◌++◌, Some, All, codes, refl, sym, ◌∙◌, ap, append_assoc, append-nil}
use Rattle.std.proofs.lemmas.List.Elements.{All-head, All-tail}
use Rattle.std.specs.List.{flat_map}
use Rattle.spec_step.specs.Lexemes.{Lexeme}
use Rattle.spec_step.specs.Grammar.{ending, semicolon, closing, entry_spelling, head_spelling, body_spelling, instance_spelling, file_start, data_start, file_end, file_spelling, HasEntry, IsDerived}
use Rattle.spec_step.specs.declared.token.Span.{Span}
use Rattle.spec_step.specs.declared.token.TokenKind.TheVariants as kind
use Rattle.spec_step.specs.declared.tree.Entry.{Entry}
use Rattle.spec_step.specs.declared.tree.Body.{Body}
use Rattle.spec_step.specs.declared.tree.Body.TheVariants as body
use Rattle.spec_step.specs.declared.tree.Instance.{Instance}
use Rattle.step_grammar.specs.Symbols.{name_of}
use Rattle.step_grammar.specs.Entries.{Stand, entry_step}
use Rattle.step_grammar.specs.Places.{State, start, step, in_entry, at_place}
use Rattle.step_grammar.specs.Runs.{runs, whole}
use Rattle.step_grammar.specs.declared.symbol.Symbol.{Symbol}
use Rattle.step_grammar.specs.declared.symbol.Symbol.TheVariants as symbol
use Rattle.step_grammar.specs.declared.entry.Frame.{Frame}
use Rattle.step_grammar.specs.declared.entry.Spot.{Spot}
use Rattle.step_grammar.specs.declared.entry.Spot.TheVariants as spot
use Rattle.step_grammar.specs.declared.place.Fixed.TheVariants as fixed
use Rattle.step_grammar.specs.declared.place.Key.{Key}
use Rattle.step_grammar.specs.declared.place.Place.{Place}
use Rattle.step_grammar.specs.declared.place.Place.TheVariants as place
use Rattle.step_grammar.proofs.Said.{as_kind, as_mark, as_ending, as_spanned, as_number, as_word, as_head, head_begins}
use Rattle.step_grammar.proofs.Leads.{Leads, lead_nil, lead_cons, lead_both, lead_as, lead_arguments}

-- The three places of an entry in a file.

abbrev pub in_head : List Entry → List Instance → Stand → State
in_head head instances stand = record { place = place.HeadEntry stand.0; frames = stand.1; head = head; instances = instances }

abbrev pub in_simple : Key → List Entry → List Instance → Stand → State
in_simple key head instances stand = record { place = place.Simple key stand.0; frames = stand.1; head = head; instances = instances }

abbrev pub in_complex : Key → List Entry → List Entry → List Instance → Stand → State
in_complex key es head instances stand = record { place = place.Complex key es stand.0; frames = stand.1; head = head; instances = instances }

-- each takes an entry's steps
pub head_carries : (head : List Entry) (instances : List Instance) (p : Spot) (frames : List Frame) (s : Symbol) (next : Stand)
    → entry_step p frames s ≡ Some next → step (in_head head instances (p, frames)) s ≡ Some (in_head head instances next)
head_carries head instances (spot.Named k) frames s next e = ap (in_entry (in_head head instances (spot.Named k, frames)) place.HeadEntry) e
head_carries head instances spot.Opened frames s next e = ap (in_entry (in_head head instances (spot.Opened, frames)) place.HeadEntry) e
head_carries head instances spot.Before frames s next e = ap (in_entry (in_head head instances (spot.Before, frames)) place.HeadEntry) e
head_carries head instances (spot.Typed k) frames s next e = ap (in_entry (in_head head instances (spot.Typed k, frames)) place.HeadEntry) e
head_carries head instances (spot.Behind p) frames s next e = ap (in_entry (in_head head instances (spot.Behind p, frames)) place.HeadEntry) e
head_carries head instances (spot.Read x) frames s next e = absurd (cc)

pub simple_carries : (key : Key) (head : List Entry) (instances : List Instance) (p : Spot) (frames : List Frame) (s : Symbol) (next : Stand)
    → entry_step p frames s ≡ Some next → step (in_simple key head instances (p, frames)) s ≡ Some (in_simple key head instances next)
simple_carries key head instances (spot.Named k) frames s next e = ap (in_entry (in_simple key head instances (spot.Named k, frames)) (place.Simple key)) e
simple_carries key head instances spot.Opened frames s next e = ap (in_entry (in_simple key head instances (spot.Opened, frames)) (place.Simple key)) e
simple_carries key head instances spot.Before frames s next e = ap (in_entry (in_simple key head instances (spot.Before, frames)) (place.Simple key)) e
simple_carries key head instances (spot.Typed k) frames s next e = ap (in_entry (in_simple key head instances (spot.Typed k, frames)) (place.Simple key)) e
simple_carries key head instances (spot.Behind p) frames s next e = ap (in_entry (in_simple key head instances (spot.Behind p, frames)) (place.Simple key)) e
simple_carries key head instances (spot.Read x) frames s next e = absurd (cc)

pub complex_carries : (key : Key) (es : List Entry) (head : List Entry) (instances : List Instance) (p : Spot) (frames : List Frame) (s : Symbol) (next : Stand)
    → entry_step p frames s ≡ Some next → step (in_complex key es head instances (p, frames)) s ≡ Some (in_complex key es head instances next)
complex_carries key es head instances (spot.Named k) frames s next e = ap (in_entry (in_complex key es head instances (spot.Named k, frames)) (place.Complex key es)) e
complex_carries key es head instances spot.Opened frames s next e = ap (in_entry (in_complex key es head instances (spot.Opened, frames)) (place.Complex key es)) e
complex_carries key es head instances spot.Before frames s next e = ap (in_entry (in_complex key es head instances (spot.Before, frames)) (place.Complex key es)) e
complex_carries key es head instances (spot.Typed k) frames s next e = ap (in_entry (in_complex key es head instances (spot.Typed k, frames)) (place.Complex key es)) e
complex_carries key es head instances (spot.Behind p) frames s next e = ap (in_entry (in_complex key es head instances (spot.Behind p, frames)) (place.Complex key es)) e
complex_carries key es head instances (spot.Read x) frames s next e = absurd (cc)

-- With no parenthesis open.

abbrev pub plain : Place → List Entry → List Instance → State
plain p head instances = record { place = p; frames = []; head = head; instances = instances }

lead_semicolon : (q next : State) → ((end : ℕ) → step q (symbol.Semicolon end) ≡ Some next) → Leads q (semicolon ∷ []) next
lead_semicolon q next h = lead_cons (λ l k. ap (step q) (as_mark 59 l k) ∙ h l.span.end) lead_nil

-- The header.

-- one entry more
lead_head_entry : (e : Entry) (head : List Entry) → Leads (plain place.Head head []) (head_spelling e) (plain place.Head (head ++ e ∷ []) [])
lead_head_entry e head =
    lead_cons (λ l h. ap (step (plain place.Head head [])) (as_head e.keyword l h) ∙ ap (λ p. at_place (plain place.Head head []) (Some p)) (head_begins e.keyword l h))
    (lead_both (lead_arguments (in_head head []) (head_carries head []) e.keyword e.params)
    (lead_semicolon (in_head head [] (spot.Read e, [])) (plain place.Head (head ++ e ∷ []) []) (λ end. refl)))

lead_heads : (es head : List Entry) → Leads (plain place.Head head []) (flat_map head_spelling es) (plain place.Head (head ++ es) [])
lead_heads [] head = lead_as (plain place.Head (head ++ []) []) [] refl (ap (λ x. plain place.Head x []) (sym (append-nil head))) lead_nil
lead_heads (e ∷ es) head =
    lead_as (plain place.Head (head ++ e ∷ es) []) (flat_map head_spelling (e ∷ es)) refl (ap (λ x. plain place.Head x []) (append_assoc head (e ∷ []) es))
    (lead_both (lead_head_entry e head) (lead_heads es (head ++ e ∷ [])))

-- Instances.

-- the keyword and the arguments of an entry, from a place where a keyword begins it
lead_entry : (f : Stand → State) → ((p : Spot) (frames : List Frame) (s : Symbol) (next : Stand) → entry_step p frames s ≡ Some next → step (f (p, frames)) s ≡ Some (f next))
    → (q : State) → ((l : Lexeme) (p : Span) → step q (symbol.Keyword p (name_of l.text)) ≡ Some (f (spot.Named p, []))) → (e : Entry) → Leads q (entry_spelling e) (f (spot.Read e, []))
lead_entry f carries q begins e =
    lead_cons (λ l h. ap (step q) (as_spanned kind.Keyword e.keyword l h) ∙ begins l e.keyword) (lead_arguments f carries e.keyword e.params)

-- the entries of a complex instance behind the first
lead_parts : (key : Key) (head : List Entry) (instances : List Instance) (es done : List Entry) (e : Entry)
    → Leads (in_complex key done head instances (spot.Read e, [])) (flat_map entry_spelling es ++ closing ∷ []) (plain (place.Closed key (done ++ e ∷ es)) head instances)
lead_parts key head instances [] done e = lead_cons (λ l h. ap (step (in_complex key done head instances (spot.Read e, []))) (as_mark 41 l h)) lead_nil
lead_parts key head instances (x ∷ es) done e =
    lead_as (plain (place.Closed key (done ++ e ∷ x ∷ es)) head instances) (flat_map entry_spelling (x ∷ es) ++ closing ∷ [])
    (append_assoc (entry_spelling x) (flat_map entry_spelling es) (closing ∷ [])) (ap (λ y. plain (place.Closed key y) head instances) (append_assoc done (e ∷ []) (x ∷ es)))
    (lead_both
    (lead_entry (in_complex key (done ++ e ∷ []) head instances) (complex_carries key (done ++ e ∷ []) head instances) (in_complex key done head instances (spot.Read e, [])) (λ l p. refl) x)
    (lead_parts key head instances es (done ++ e ∷ []) x))

abbrev made : Key → Body → ℕ → Instance
made key b end = record { number = key.number; body = b; from = key.from; end = end }

-- what stands behind the `=` of an instance
lead_body : (key : Key) (b : Body) (end : ℕ) (head : List Entry) (instances : List Instance) → HasEntry b
    → Leads (plain (place.Equated key) head instances) (body_spelling b ++ ending end ∷ []) (plain place.Instances head (instances ++ made key b end ∷ []))
lead_body key (body.Simple e) end head instances h =
    lead_both (lead_entry (in_simple key head instances) (simple_carries key head instances) (plain (place.Equated key) head instances) (λ l p. refl) e)
    (lead_cons (λ l k. ap (step (in_simple key head instances (spot.Read e, []))) (as_ending end l k)) lead_nil)
lead_body key (body.Complex []) end head instances h = absurd (h refl)
lead_body key (body.Complex (e ∷ es)) end head instances h =
    lead_both
    (lead_cons (λ l k. ap (step (plain (place.Equated key) head instances)) (as_mark 40 l k))
    (lead_as (plain (place.Closed key (e ∷ es)) head instances) ((entry_spelling e ++ flat_map entry_spelling es) ++ closing ∷ [])
    (append_assoc (entry_spelling e) (flat_map entry_spelling es) (closing ∷ [])) refl
    (lead_both (lead_entry (in_complex key [] head instances) (complex_carries key [] head instances) (plain (place.Opened key) head instances) (λ l p. refl) e)
    (lead_parts key head instances es [] e))))
    (lead_cons (λ l k. ap (step (plain (place.Closed key (e ∷ es)) head instances)) (as_ending end l k)) lead_nil)

lead_instance : (i : Instance) (head : List Entry) (instances : List Instance) → HasEntry i.body
    → Leads (plain place.Instances head instances) (instance_spelling i) (plain place.Instances head (instances ++ i ∷ []))
lead_instance i head instances h =
    let key : Key = record { number = i.number; from = i.from } in
    lead_cons (λ l k. ap (step (plain place.Instances head instances)) (as_number i.number i.from l k))
    (lead_cons (λ l k. ap (step (plain (place.Numbered key) head instances)) (as_mark 61 l k)) (lead_body key i.body i.end head instances h))

lead_instances : (is : List Instance) (head : List Entry) (instances : List Instance) → All (λ (i : Instance). HasEntry i.body) is
    → Leads (plain place.Instances head instances) (flat_map instance_spelling is) (plain place.Instances head (instances ++ is))
lead_instances [] head instances h = lead_as (plain place.Instances head (instances ++ [])) [] refl (ap (plain place.Instances head) (sym (append-nil instances))) lead_nil
lead_instances (i ∷ is) head instances h =
    lead_as (plain place.Instances head (instances ++ i ∷ is)) (flat_map instance_spelling (i ∷ is)) refl (ap (plain place.Instances head) (append_assoc instances (i ∷ []) is))
    (lead_both (lead_instance i head instances (All-head (λ (i : Instance). HasEntry i.body) i is h))
    (lead_instances is head (instances ++ i ∷ []) (All-tail (λ (i : Instance). HasEntry i.body) i is h)))

-- The file.

lead_start : Leads start file_start (plain place.Head [] [])
lead_start =
    lead_cons (λ l k. ap (step start) (as_kind kind.StartWord l k))
    (lead_cons (λ l k. ap (step (plain (place.Fixed fixed.StartEnd) [] [])) (as_mark 59 l k))
    (lead_cons (λ l k. ap (step (plain (place.Fixed fixed.Header) [] [])) (as_word (codes "HEADER") l k))
    (lead_semicolon (plain (place.Fixed fixed.HeaderStart) [] []) (plain place.Head [] []) (λ end. refl))))

lead_data : (head : List Entry) → Leads (plain place.Head head []) data_start (plain place.Instances head [])
lead_data head =
    lead_cons (λ l k. ap (step (plain place.Head head [])) (as_word (codes "ENDSEC") l k))
    (lead_cons (λ l k. ap (step (plain (place.Fixed fixed.HeaderEnd) head [])) (as_mark 59 l k))
    (lead_cons (λ l k. ap (step (plain (place.Fixed fixed.Data) head [])) (as_word (codes "DATA") l k))
    (lead_semicolon (plain (place.Fixed fixed.DataStart) head []) (plain place.Instances head []) (λ end. refl))))

lead_end : (head : List Entry) (instances : List Instance) → Leads (plain place.Instances head instances) file_end (whole head instances)
lead_end head instances =
    lead_cons (λ l k. ap (step (plain place.Instances head instances)) (as_word (codes "ENDSEC") l k))
    (lead_cons (λ l k. ap (step (plain (place.Fixed fixed.DataEnd) head instances)) (as_mark 59 l k))
    (lead_cons (λ l k. ap (step (plain (place.Fixed fixed.EndWord) head instances)) (as_kind kind.EndWord l k))
    (lead_semicolon (plain (place.Fixed fixed.FileEnd) head instances) (whole head instances) (λ end. refl))))

lead_file : (head : List Entry) (instances : List Instance) → All (λ (i : Instance). HasEntry i.body) instances → Leads start (file_spelling head instances) (whole head instances)
lead_file head instances h =
    lead_both (lead_both (lead_both (lead_both lead_start (lead_heads head [])) (lead_data head)) (lead_instances instances head [] h)) (lead_end head instances)

-- the tokens of a file lead behind its last semicolon, and give its trees
pub complete_is : (ls : List Lexeme) (head : List Entry) (instances : List Instance) → IsDerived ls head instances → runs ls ≡ Some (whole head instances)
complete_is ls head instances h = (lead_file head instances h.entries).leads ls h.tokens
