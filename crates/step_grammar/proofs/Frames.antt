-- Which parentheses stand open at a place, and what is whole there.
use Rattle.std.proofs.Common.{◌≡◌, List, [], ◌∷◌, Option, Some, None, All, map, refl, sym, subst}
use Rattle.std.proofs.lemmas.List.Elements.{All-nil, All-push}
use Rattle.spec_step.specs.Lexemes.{Lexeme}
use Rattle.spec_step.specs.Grammar.{HasEntry}
use Rattle.spec_step.specs.declared.token.Span.{Span}
use Rattle.spec_step.specs.declared.tree.Param.{Param}
use Rattle.spec_step.specs.declared.tree.Entry.{Entry}
use Rattle.spec_step.specs.declared.tree.Body.{Body}
use Rattle.spec_step.specs.declared.tree.Body.TheVariants as body
use Rattle.spec_step.specs.declared.tree.Instance.{Instance}
use Rattle.step_grammar.specs.Symbols.{symbol_of}
use Rattle.step_grammar.specs.Entries.{Stand, entry_step, step_named, step_before, step_opened, step_typed, step_behind, close_empty, close, go_on}
use Rattle.step_grammar.specs.Places.{State, start, step, step_at, step_fixed, step_head, step_instances, step_numbered, step_equated, step_opened_instance, step_head_entry, step_simple, step_complex, behind_head_entry, behind_body, behind_part, at_place, in_entry, with_entry, run_on}
use Rattle.step_grammar.specs.Runs.{runs, whole}
use Rattle.step_grammar.specs.declared.symbol.Name.TheVariants as name
use Rattle.step_grammar.specs.declared.symbol.Symbol.{Symbol}
use Rattle.step_grammar.specs.declared.symbol.Symbol.TheVariants as symbol
use Rattle.step_grammar.specs.declared.entry.Frame.{Frame}
use Rattle.step_grammar.specs.declared.entry.Frame.TheVariants as frame
use Rattle.step_grammar.specs.declared.entry.Spot.{Spot}
use Rattle.step_grammar.specs.declared.entry.Spot.TheVariants as spot
use Rattle.step_grammar.specs.declared.place.Fixed.{Fixed}
use Rattle.step_grammar.specs.declared.place.Fixed.TheVariants as fixed
use Rattle.step_grammar.specs.declared.place.Key.{Key}
use Rattle.step_grammar.specs.declared.place.Place.{Place}
use Rattle.step_grammar.specs.declared.place.Place.TheVariants as place

-- In an entry.

-- the outermost parenthesis is the entry's, and no other is one
abbrev pub InEntry : List Frame → Type 0
InEntry [] = ⊥
InEntry (frame.Entry k ps ∷ frames) = frames ≡ []
InEntry (frame.List ps ∷ frames) = InEntry frames
InEntry (frame.Typed k ∷ frames) = InEntry frames

-- the parentheses that can stand open at a place of an entry
abbrev pub FitsSpot : Spot → List Frame → Type 0
FitsSpot (spot.Named k) frames = frames ≡ []
FitsSpot spot.Opened frames = InEntry frames
FitsSpot spot.Before frames = InEntry frames
FitsSpot (spot.Typed k) frames = InEntry frames
FitsSpot (spot.Behind p) frames = InEntry frames
FitsSpot (spot.Read e) frames = frames ≡ []

-- where the step exists, what is open behind it fits its place
abbrev FitsStand : Option Stand → Type 0
FitsStand None = Unit {0}
FitsStand (Some stand) = FitsSpot stand.0 stand.1

-- the steps of each place in an entry keep that
fit_named : (k : Span) (frames : List Frame) (s : Symbol) → frames ≡ [] → FitsStand (step_named k frames s)
fit_named k frames symbol.Open h = h
fit_named k frames s h = tt

fit_before : (frames : List Frame) (s : Symbol) → InEntry frames → FitsStand (step_before frames s)
fit_before frames (symbol.Atom a) h = h
fit_before frames (symbol.Number n from) h = h
fit_before frames (symbol.Keyword p n) h = h
fit_before frames symbol.Open h = h
fit_before frames s h = tt

fit_close_empty : (frames : List Frame) → InEntry frames → FitsStand (close_empty frames)
fit_close_empty [] h = tt
fit_close_empty (frame.List [] ∷ frames) h = h
fit_close_empty (frame.List (p ∷ ps) ∷ frames) h = tt
fit_close_empty (frame.Entry k [] ∷ frames) h = h
fit_close_empty (frame.Entry k (p ∷ ps) ∷ frames) h = tt
fit_close_empty (frame.Typed k ∷ frames) h = tt

fit_opened : (frames : List Frame) (s : Symbol) → InEntry frames → FitsStand (step_opened frames s)
fit_opened frames symbol.Close h = fit_close_empty frames h
fit_opened frames (symbol.Atom a) h = h
fit_opened frames (symbol.Number n from) h = h
fit_opened frames (symbol.Keyword p n) h = h
fit_opened frames symbol.Open h = h
fit_opened frames s h = tt

fit_typed : (k : Span) (frames : List Frame) (s : Symbol) → InEntry frames → FitsStand (step_typed k frames s)
fit_typed k frames symbol.Open h = h
fit_typed k frames s h = tt

fit_close : (p : Param) (frames : List Frame) → InEntry frames → FitsStand (close p frames)
fit_close p [] h = tt
fit_close p (frame.List ps ∷ frames) h = h
fit_close p (frame.Typed k ∷ frames) h = h
fit_close p (frame.Entry k ps ∷ frames) h = h

fit_go_on : (p : Param) (frames : List Frame) → InEntry frames → FitsStand (go_on p frames)
fit_go_on p [] h = tt
fit_go_on p (frame.List ps ∷ frames) h = h
fit_go_on p (frame.Typed k ∷ frames) h = tt
fit_go_on p (frame.Entry k ps ∷ frames) h = h

fit_behind : (p : Param) (frames : List Frame) (s : Symbol) → InEntry frames → FitsStand (step_behind p frames s)
fit_behind p frames symbol.Close h = fit_close p frames h
fit_behind p frames symbol.Comma h = fit_go_on p frames h
fit_behind p frames s h = tt

fit_entry : (p : Spot) (frames : List Frame) (s : Symbol) → FitsSpot p frames → FitsStand (entry_step p frames s)
fit_entry (spot.Named k) frames s h = fit_named k frames s h
fit_entry spot.Opened frames s h = fit_opened frames s h
fit_entry spot.Before frames s h = fit_before frames s h
fit_entry (spot.Typed k) frames s h = fit_typed k frames s h
fit_entry (spot.Behind p) frames s h = fit_behind p frames s h
fit_entry (spot.Read e) frames s h = tt

-- In a file.

-- nothing of the header and of the instances is read
abbrev pub Fresh : State → Type 0
Fresh q = (q.frames ≡ []) × (q.head ≡ []) × (q.instances ≡ [])

-- nothing of the instances is read
abbrev pub InHeader : State → Type 0
InHeader q = (q.frames ≡ []) × (q.instances ≡ [])

-- the instances that are whole have entries
abbrev pub HaveEntries : List Instance → Type 0
HaveEntries instances = All (λ (i : Instance). HasEntry i.body) instances

-- the instances that are read have entries
abbrev pub InInstances : State → Type 0
InInstances q = (q.frames ≡ []) × HaveEntries q.instances

-- what can be open and read between the parts of a file
abbrev pub FitsFixed : Fixed → State → Type 0
FitsFixed fixed.StartWord q = Fresh q
FitsFixed fixed.StartEnd q = Fresh q
FitsFixed fixed.Header q = Fresh q
FitsFixed fixed.HeaderStart q = Fresh q
FitsFixed fixed.HeaderEnd q = InHeader q
FitsFixed fixed.Data q = InHeader q
FitsFixed fixed.DataStart q = InHeader q
FitsFixed fixed.DataEnd q = InInstances q
FitsFixed fixed.EndWord q = InInstances q
FitsFixed fixed.FileEnd q = InInstances q
FitsFixed fixed.Nothing q = InInstances q

-- what can be open and read at a place
abbrev pub FitsAt : Place → State → Type 0
FitsAt (place.Fixed f) q = FitsFixed f q
FitsAt place.Head q = InHeader q
FitsAt (place.HeadEntry p) q = FitsSpot p q.frames × (q.instances ≡ [])
FitsAt place.Instances q = InInstances q
FitsAt (place.Numbered key) q = InInstances q
FitsAt (place.Equated key) q = InInstances q
FitsAt (place.Simple key p) q = FitsSpot p q.frames × HaveEntries q.instances
FitsAt (place.Opened key) q = InInstances q
FitsAt (place.Complex key es p) q = FitsSpot p q.frames × HaveEntries q.instances
FitsAt (place.Closed key es) q = (q.frames ≡ []) × HaveEntries q.instances × (es ≡ [] → ⊥)

abbrev pub Fits : State → Type 0
Fits q = FitsAt q.place q

-- where the step exists, what is read behind it fits its place
abbrev pub FitsState : Option State → Type 0
FitsState None = Unit {0}
FitsState (Some q) = Fits q

-- the steps of each place in a file keep that
fit_fixed : (q : State) (f : Fixed) (s : Symbol) → FitsFixed f q → FitsState (at_place q (step_fixed f s))
fit_fixed q fixed.StartWord symbol.StartWord h = h
fit_fixed q fixed.StartWord s h = tt
fit_fixed q fixed.StartEnd (symbol.Semicolon end) h = h
fit_fixed q fixed.StartEnd s h = tt
fit_fixed q fixed.Header (symbol.Keyword p name.Header) h = h
fit_fixed q fixed.Header s h = tt
fit_fixed q fixed.HeaderStart (symbol.Semicolon end) h = (h.0, h.2)
fit_fixed q fixed.HeaderStart s h = tt
fit_fixed q fixed.HeaderEnd (symbol.Semicolon end) h = h
fit_fixed q fixed.HeaderEnd s h = tt
fit_fixed q fixed.Data (symbol.Keyword p name.Data) h = h
fit_fixed q fixed.Data s h = tt
fit_fixed q fixed.DataStart (symbol.Semicolon end) h = (h.0, subst HaveEntries (sym h.1) (All-nil (λ (i : Instance). HasEntry i.body)))
fit_fixed q fixed.DataStart s h = tt
fit_fixed q fixed.DataEnd (symbol.Semicolon end) h = h
fit_fixed q fixed.DataEnd s h = tt
fit_fixed q fixed.EndWord symbol.EndWord h = h
fit_fixed q fixed.EndWord s h = tt
fit_fixed q fixed.FileEnd (symbol.Semicolon end) h = h
fit_fixed q fixed.FileEnd s h = tt
fit_fixed q fixed.Nothing s h = tt

fit_head : (q : State) (s : Symbol) → InHeader q → FitsState (at_place q (step_head s))
fit_head q (symbol.Keyword p name.EndSection) h = h
fit_head q (symbol.Keyword p name.Header) h = h
fit_head q (symbol.Keyword p name.Data) h = h
fit_head q (symbol.Keyword p name.Other) h = h
fit_head q s h = tt

fit_instances : (q : State) (s : Symbol) → InInstances q → FitsState (at_place q (step_instances s))
fit_instances q (symbol.Number n from) h = h
fit_instances q (symbol.Keyword p name.EndSection) h = h
fit_instances q s h = tt

fit_numbered : (q : State) (key : Key) (s : Symbol) → InInstances q → FitsState (at_place q (step_numbered key s))
fit_numbered q key symbol.Equals h = h
fit_numbered q key s h = tt

fit_equated : (q : State) (key : Key) (s : Symbol) → InInstances q → FitsState (at_place q (step_equated key s))
fit_equated q key (symbol.Keyword p n) h = h
fit_equated q key symbol.Open h = h
fit_equated q key s h = tt

fit_opened_instance : (q : State) (key : Key) (s : Symbol) → InInstances q → FitsState (at_place q (step_opened_instance key s))
fit_opened_instance q key (symbol.Keyword p n) h = h
fit_opened_instance q key s h = tt

fit_behind_head_entry : (q : State) (e : Entry) (s : Symbol) → InHeader q → FitsState (behind_head_entry q e s)
fit_behind_head_entry q e (symbol.Semicolon end) h = h
fit_behind_head_entry q e s h = tt

fit_behind_body : (q : State) (key : Key) (b : Body) (s : Symbol) → InInstances q → HasEntry b → FitsState (behind_body q key b s)
fit_behind_body q key b (symbol.Semicolon end) h k = (h.0, All-push (λ (i : Instance). HasEntry i.body) q.instances (record { number = key.number; body = b; from = key.from; end = end }) h.1 k)
fit_behind_body q key b s h k = tt

-- entries with one more are some
has_last : (es : List Entry) (e : Entry) → with_entry es e ≡ [] → ⊥
has_last [] e h = cc
has_last (x ∷ es) e h = cc

fit_behind_part : (q : State) (key : Key) (es : List Entry) (e : Entry) (s : Symbol) → InInstances q → FitsState (behind_part q key (with_entry es e) s)
fit_behind_part q key es e (symbol.Keyword p n) h = h
fit_behind_part q key es e symbol.Close h = (h.0, h.1, has_last es e)
fit_behind_part q key es e s h = tt

fit_in_head : (q : State) (o : Option Stand) → FitsStand o → q.instances ≡ [] → FitsState (in_entry q place.HeadEntry o)
fit_in_head q None h k = tt
fit_in_head q (Some stand) h k = (h, k)

fit_in_simple : (q : State) (key : Key) (o : Option Stand) → FitsStand o → HaveEntries q.instances → FitsState (in_entry q (place.Simple key) o)
fit_in_simple q key None h k = tt
fit_in_simple q key (Some stand) h k = (h, k)

fit_in_complex : (q : State) (key : Key) (es : List Entry) (o : Option Stand) → FitsStand o → HaveEntries q.instances → FitsState (in_entry q (place.Complex key es) o)
fit_in_complex q key es None h k = tt
fit_in_complex q key es (Some stand) h k = (h, k)

fit_head_entry : (q : State) (p : Spot) (s : Symbol) → FitsSpot p q.frames → q.instances ≡ [] → FitsState (step_head_entry q p s)
fit_head_entry q (spot.Read e) s h k = fit_behind_head_entry q e s (h, k)
fit_head_entry q (spot.Named x) s h k = fit_in_head q _ (fit_entry (spot.Named x) q.frames s h) k
fit_head_entry q spot.Opened s h k = fit_in_head q _ (fit_entry spot.Opened q.frames s h) k
fit_head_entry q spot.Before s h k = fit_in_head q _ (fit_entry spot.Before q.frames s h) k
fit_head_entry q (spot.Typed x) s h k = fit_in_head q _ (fit_entry (spot.Typed x) q.frames s h) k
fit_head_entry q (spot.Behind p) s h k = fit_in_head q _ (fit_entry (spot.Behind p) q.frames s h) k

fit_simple : (q : State) (key : Key) (p : Spot) (s : Symbol) → FitsSpot p q.frames → HaveEntries q.instances → FitsState (step_simple q key p s)
fit_simple q key (spot.Read e) s h k = fit_behind_body q key (body.Simple e) s (h, k) tt
fit_simple q key (spot.Named x) s h k = fit_in_simple q key _ (fit_entry (spot.Named x) q.frames s h) k
fit_simple q key spot.Opened s h k = fit_in_simple q key _ (fit_entry spot.Opened q.frames s h) k
fit_simple q key spot.Before s h k = fit_in_simple q key _ (fit_entry spot.Before q.frames s h) k
fit_simple q key (spot.Typed x) s h k = fit_in_simple q key _ (fit_entry (spot.Typed x) q.frames s h) k
fit_simple q key (spot.Behind p) s h k = fit_in_simple q key _ (fit_entry (spot.Behind p) q.frames s h) k

fit_complex : (q : State) (key : Key) (es : List Entry) (p : Spot) (s : Symbol) → FitsSpot p q.frames → HaveEntries q.instances → FitsState (step_complex q key es p s)
fit_complex q key es (spot.Read e) s h k = fit_behind_part q key es e s (h, k)
fit_complex q key es (spot.Named x) s h k = fit_in_complex q key es _ (fit_entry (spot.Named x) q.frames s h) k
fit_complex q key es spot.Opened s h k = fit_in_complex q key es _ (fit_entry spot.Opened q.frames s h) k
fit_complex q key es spot.Before s h k = fit_in_complex q key es _ (fit_entry spot.Before q.frames s h) k
fit_complex q key es (spot.Typed x) s h k = fit_in_complex q key es _ (fit_entry (spot.Typed x) q.frames s h) k
fit_complex q key es (spot.Behind p) s h k = fit_in_complex q key es _ (fit_entry (spot.Behind p) q.frames s h) k

pub fit_step : (q : State) (p : Place) (s : Symbol) → FitsAt p q → FitsState (step_at q p s)
fit_step q (place.Fixed f) s h = fit_fixed q f s h
fit_step q place.Head s h = fit_head q s h
fit_step q (place.HeadEntry p) s h = fit_head_entry q p s h.0 h.1
fit_step q place.Instances s h = fit_instances q s h
fit_step q (place.Numbered key) s h = fit_numbered q key s h
fit_step q (place.Equated key) s h = fit_equated q key s h
fit_step q (place.Simple key p) s h = fit_simple q key p s h.0 h.1
fit_step q (place.Opened key) s h = fit_opened_instance q key s h
fit_step q (place.Complex key es p) s h = fit_complex q key es p s h.0 h.1
fit_step q (place.Closed key es) s h = fit_behind_body q key (body.Complex es) s (h.0, h.1) h.2

-- one token more keeps it
pub fits_step : (q next : State) (s : Symbol) → Fits q → step q s ≡ Some next → Fits next
fits_step q next s h e = subst FitsState e (fit_step q q.place s h)

pub fits_start : Fits start
fits_start = (refl, refl, refl)

fits_from : (o : Option State) (ls : List Lexeme) (q : State) → FitsState o → run_on o (map symbol_of ls) ≡ Some q → Fits q
fits_from None ls q h e = absurd (cc)
fits_from (Some p) [] q h e = subst FitsState e h
fits_from (Some p) (l ∷ ls) q h e = fits_from (step p (symbol_of l)) ls q (fit_step p p.place (symbol_of l) h) e

-- what is read fits its place
pub fits : (ls : List Lexeme) (q : State) → runs ls ≡ Some q → Fits q
fits ls q e = fits_from (Some start) ls q fits_start e

whole_at : (p : Place) (frames : List Frame) (head : List Entry) (instances : List Instance) → FitsAt p (record { place = p; frames = frames; head = head; instances = instances })
    → p ≡ place.Fixed fixed.Nothing → record { place = p; frames = frames; head = head; instances = instances } ≡ whole head instances
whole_at p frames head instances h e =
    let none : InInstances (record { place = p; frames = frames; head = head; instances = instances }) =
    subst (λ (x : Place). FitsAt x (record { place = p; frames = frames; head = head; instances = instances })) e h in
    let empty : frames ≡ [] = none.0 in
    cc

-- behind the last semicolon nothing is open
pub place_whole_is : (ls : List Lexeme) (q : State) → runs ls ≡ Some q → q.place ≡ (whole [] []).place → q ≡ whole q.head q.instances
place_whole_is ls q h p = whole_at q.place q.frames q.head q.instances (fits ls q h) p
