-- The places of a file, and the tokens that may stand there.
use Rattle.std.specs.Prelude.{ℕ, ◌+◌, Bool, true, false, List, [], ◌∷◌, ◌++◌, Option, Some, None, reverse, length, if◌then◌else◌}
use Rattle.spec_step.specs.declared.token.Span.{Span}
use Rattle.spec_step.specs.declared.tree.Entry.{Entry}
use Rattle.spec_step.specs.declared.tree.Body.{Body}
use Rattle.spec_step.specs.declared.tree.Body.TheVariants as body
use Rattle.spec_step.specs.declared.tree.Instance.{Instance}
use Rattle.step_grammar.specs.Entries.{Stand, entry_step}
use Rattle.step_grammar.specs.declared.symbol.Name.{Name}
use Rattle.step_grammar.specs.declared.symbol.Name.TheVariants as name
use Rattle.step_grammar.specs.declared.symbol.Symbol.{Symbol}
use Rattle.step_grammar.specs.declared.symbol.Symbol.TheVariants as symbol
use Rattle.step_grammar.specs.declared.entry.Frame.{Frame}
use Rattle.step_grammar.specs.declared.entry.Spot.{Spot}
use Rattle.step_grammar.specs.declared.entry.Spot.TheVariants as spot
use Rattle.step_grammar.specs.declared.place.Fixed.{Fixed}
use Rattle.step_grammar.specs.declared.place.Fixed.TheVariants as fixed
use Rattle.step_grammar.specs.declared.place.Key.{Key}
use Rattle.step_grammar.specs.declared.place.Place.{Place}
use Rattle.step_grammar.specs.declared.place.Place.TheVariants as place
use Rattle.step_grammar.specs.declared.place.Progress.{Progress}

-- what was read: a place, the parentheses that stand open in its entry, the innermost first, and what is whole
pub record State : Type 0 where
  pub place : Place
  pub frames : List Frame
  pub head : List Entry
  pub instances : List Instance

abbrev pub state : Place → Progress → State
state p progress = record { place = p; frames = reverse progress.frames.items; head = progress.head; instances = progress.instances }

abbrev pub next_state : Option Place → Progress → Option State
next_state None progress = None
next_state (Some p) progress = Some (state p progress)

abbrev pub place_if : Bool → Place → Option Place
place_if passes p = if passes then Some p else None

abbrev pub is_semicolon : Symbol → Bool
is_semicolon (symbol.Semicolon end) = true
is_semicolon symbol.StartWord = false
is_semicolon symbol.EndWord = false
is_semicolon (symbol.Keyword p n) = false
is_semicolon (symbol.Number n from) = false
is_semicolon (symbol.Atom a) = false
is_semicolon symbol.Equals = false
is_semicolon symbol.Open = false
is_semicolon symbol.Close = false
is_semicolon symbol.Comma = false

abbrev pub is_start : Symbol → Bool
is_start symbol.StartWord = true
is_start symbol.EndWord = false
is_start (symbol.Keyword p n) = false
is_start (symbol.Number n from) = false
is_start (symbol.Atom a) = false
is_start (symbol.Semicolon end) = false
is_start symbol.Equals = false
is_start symbol.Open = false
is_start symbol.Close = false
is_start symbol.Comma = false

abbrev pub is_end : Symbol → Bool
is_end symbol.EndWord = true
is_end symbol.StartWord = false
is_end (symbol.Keyword p n) = false
is_end (symbol.Number n from) = false
is_end (symbol.Atom a) = false
is_end (symbol.Semicolon end) = false
is_end symbol.Equals = false
is_end symbol.Open = false
is_end symbol.Close = false
is_end symbol.Comma = false

abbrev pub same_name : Name → Name → Bool
same_name name.Header name.Header = true
same_name name.Header name.Data = false
same_name name.Header name.EndSection = false
same_name name.Header name.Other = false
same_name name.Data name.Header = false
same_name name.Data name.Data = true
same_name name.Data name.EndSection = false
same_name name.Data name.Other = false
same_name name.EndSection name.Header = false
same_name name.EndSection name.Data = false
same_name name.EndSection name.EndSection = true
same_name name.EndSection name.Other = false
same_name name.Other name.Header = false
same_name name.Other name.Data = false
same_name name.Other name.EndSection = false
same_name name.Other name.Other = true

-- the keyword of this name
abbrev pub is_name : Symbol → Name → Bool
is_name (symbol.Keyword p n) wanted = same_name n wanted
is_name symbol.StartWord wanted = false
is_name symbol.EndWord wanted = false
is_name (symbol.Number n from) wanted = false
is_name (symbol.Atom a) wanted = false
is_name (symbol.Semicolon end) wanted = false
is_name symbol.Equals wanted = false
is_name symbol.Open wanted = false
is_name symbol.Close wanted = false
is_name symbol.Comma wanted = false

abbrev pub step_fixed : Fixed → Symbol → Option Place
step_fixed fixed.StartWord s = place_if (is_start s) (place.Fixed fixed.StartEnd)
step_fixed fixed.StartEnd s = place_if (is_semicolon s) (place.Fixed fixed.Header)
step_fixed fixed.Header s = place_if (is_name s name.Header) (place.Fixed fixed.HeaderStart)
step_fixed fixed.HeaderStart s = place_if (is_semicolon s) place.Head
step_fixed fixed.HeaderEnd s = place_if (is_semicolon s) (place.Fixed fixed.Data)
step_fixed fixed.Data s = place_if (is_name s name.Data) (place.Fixed fixed.DataStart)
step_fixed fixed.DataStart s = place_if (is_semicolon s) place.Instances
step_fixed fixed.DataEnd s = place_if (is_semicolon s) (place.Fixed fixed.EndWord)
step_fixed fixed.EndWord s = place_if (is_end s) (place.Fixed fixed.FileEnd)
step_fixed fixed.FileEnd s = place_if (is_semicolon s) (place.Fixed fixed.Nothing)
step_fixed fixed.Nothing s = None

abbrev pub head_keyword_place : Span → Name → Place
head_keyword_place p name.EndSection = place.Fixed fixed.HeaderEnd
head_keyword_place p name.Header = place.HeadEntry (spot.Named p)
head_keyword_place p name.Data = place.HeadEntry (spot.Named p)
head_keyword_place p name.Other = place.HeadEntry (spot.Named p)

abbrev pub step_head : Symbol → Option Place
step_head (symbol.Keyword p n) = Some (head_keyword_place p n)
step_head symbol.StartWord = None
step_head symbol.EndWord = None
step_head (symbol.Number n from) = None
step_head (symbol.Atom a) = None
step_head (symbol.Semicolon end) = None
step_head symbol.Equals = None
step_head symbol.Open = None
step_head symbol.Close = None
step_head symbol.Comma = None

abbrev pub instances_keyword_place : Name → Option Place
instances_keyword_place name.EndSection = Some (place.Fixed fixed.DataEnd)
instances_keyword_place name.Header = None
instances_keyword_place name.Data = None
instances_keyword_place name.Other = None

abbrev pub step_instances : Symbol → Option Place
step_instances (symbol.Number n from) = Some (place.Numbered (record { number = n; from = from }))
step_instances (symbol.Keyword p n) = instances_keyword_place n
step_instances symbol.StartWord = None
step_instances symbol.EndWord = None
step_instances (symbol.Atom a) = None
step_instances (symbol.Semicolon end) = None
step_instances symbol.Equals = None
step_instances symbol.Open = None
step_instances symbol.Close = None
step_instances symbol.Comma = None

abbrev pub step_numbered : Key → Symbol → Option Place
step_numbered key symbol.Equals = Some (place.Equated key)
step_numbered key symbol.StartWord = None
step_numbered key symbol.EndWord = None
step_numbered key (symbol.Keyword p n) = None
step_numbered key (symbol.Number n from) = None
step_numbered key (symbol.Atom a) = None
step_numbered key (symbol.Semicolon end) = None
step_numbered key symbol.Open = None
step_numbered key symbol.Close = None
step_numbered key symbol.Comma = None

abbrev pub step_equated : Key → Symbol → Option Place
step_equated key (symbol.Keyword p n) = Some (place.Simple key (spot.Named p))
step_equated key symbol.Open = Some (place.Opened key)
step_equated key symbol.StartWord = None
step_equated key symbol.EndWord = None
step_equated key (symbol.Number n from) = None
step_equated key (symbol.Atom a) = None
step_equated key (symbol.Semicolon end) = None
step_equated key symbol.Equals = None
step_equated key symbol.Close = None
step_equated key symbol.Comma = None

abbrev pub step_opened_instance : Key → Symbol → Option Place
step_opened_instance key (symbol.Keyword p n) = Some (place.Complex key [] (spot.Named p))
step_opened_instance key symbol.StartWord = None
step_opened_instance key symbol.EndWord = None
step_opened_instance key (symbol.Number n from) = None
step_opened_instance key (symbol.Atom a) = None
step_opened_instance key (symbol.Semicolon end) = None
step_opened_instance key symbol.Equals = None
step_opened_instance key symbol.Open = None
step_opened_instance key symbol.Close = None
step_opened_instance key symbol.Comma = None

-- a token that changes the place alone
abbrev pub at_place : State → Option Place → Option State
at_place q None = None
at_place q (Some p) = Some (record q { place = p })

-- a token of an entry
abbrev pub in_entry : State → (Spot → Place) → Option Stand → Option State
in_entry q around None = None
in_entry q around (Some stand) = Some (record q { place = around stand.0; frames = stand.1 })

abbrev pub with_head_entry : Entry → State → State
with_head_entry e q = record q { place = place.Head; head = q.head ++ e ∷ [] }

abbrev pub with_instance : Key → Body → ℕ → State → State
with_instance key b end q = record q {
  place = place.Instances;
  instances = q.instances ++ record { number = key.number; body = b; from = key.from; end = end } ∷ [];
}

abbrev pub with_entry : List Entry → Entry → List Entry
with_entry es e = es ++ e ∷ []

-- a token behind a head entry
abbrev pub behind_head_entry : State → Entry → Symbol → Option State
behind_head_entry q e (symbol.Semicolon end) = Some (with_head_entry e q)
behind_head_entry q e symbol.StartWord = None
behind_head_entry q e symbol.EndWord = None
behind_head_entry q e (symbol.Keyword p n) = None
behind_head_entry q e (symbol.Number n from) = None
behind_head_entry q e (symbol.Atom a) = None
behind_head_entry q e symbol.Equals = None
behind_head_entry q e symbol.Open = None
behind_head_entry q e symbol.Close = None
behind_head_entry q e symbol.Comma = None

abbrev pub step_head_entry : State → Spot → Symbol → Option State
step_head_entry q (spot.Read e) s = behind_head_entry q e s
step_head_entry q (spot.Named k) s = in_entry q place.HeadEntry (entry_step (spot.Named k) q.frames s)
step_head_entry q spot.Opened s = in_entry q place.HeadEntry (entry_step spot.Opened q.frames s)
step_head_entry q spot.Before s = in_entry q place.HeadEntry (entry_step spot.Before q.frames s)
step_head_entry q (spot.Typed k) s = in_entry q place.HeadEntry (entry_step (spot.Typed k) q.frames s)
step_head_entry q (spot.Behind p) s = in_entry q place.HeadEntry (entry_step (spot.Behind p) q.frames s)

-- a token behind what an instance is
abbrev pub behind_body : State → Key → Body → Symbol → Option State
behind_body q key b (symbol.Semicolon end) = Some (with_instance key b end q)
behind_body q key b symbol.StartWord = None
behind_body q key b symbol.EndWord = None
behind_body q key b (symbol.Keyword p n) = None
behind_body q key b (symbol.Number n from) = None
behind_body q key b (symbol.Atom a) = None
behind_body q key b symbol.Equals = None
behind_body q key b symbol.Open = None
behind_body q key b symbol.Close = None
behind_body q key b symbol.Comma = None

abbrev pub step_simple : State → Key → Spot → Symbol → Option State
step_simple q key (spot.Read e) s = behind_body q key (body.Simple e) s
step_simple q key (spot.Named k) s = in_entry q (place.Simple key) (entry_step (spot.Named k) q.frames s)
step_simple q key spot.Opened s = in_entry q (place.Simple key) (entry_step spot.Opened q.frames s)
step_simple q key spot.Before s = in_entry q (place.Simple key) (entry_step spot.Before q.frames s)
step_simple q key (spot.Typed k) s = in_entry q (place.Simple key) (entry_step (spot.Typed k) q.frames s)
step_simple q key (spot.Behind p) s = in_entry q (place.Simple key) (entry_step (spot.Behind p) q.frames s)

-- a token behind an entry of a complex instance
abbrev pub behind_part : State → Key → List Entry → Symbol → Option State
behind_part q key es (symbol.Keyword p n) = Some (record q { place = place.Complex key es (spot.Named p) })
behind_part q key es symbol.Close = Some (record q { place = place.Closed key es })
behind_part q key es symbol.StartWord = None
behind_part q key es symbol.EndWord = None
behind_part q key es (symbol.Number n from) = None
behind_part q key es (symbol.Atom a) = None
behind_part q key es (symbol.Semicolon end) = None
behind_part q key es symbol.Equals = None
behind_part q key es symbol.Open = None
behind_part q key es symbol.Comma = None

abbrev pub step_complex : State → Key → List Entry → Spot → Symbol → Option State
step_complex q key es (spot.Read e) s = behind_part q key (with_entry es e) s
step_complex q key es (spot.Named k) s = in_entry q (place.Complex key es) (entry_step (spot.Named k) q.frames s)
step_complex q key es spot.Opened s = in_entry q (place.Complex key es) (entry_step spot.Opened q.frames s)
step_complex q key es spot.Before s = in_entry q (place.Complex key es) (entry_step spot.Before q.frames s)
step_complex q key es (spot.Typed k) s = in_entry q (place.Complex key es) (entry_step (spot.Typed k) q.frames s)
step_complex q key es (spot.Behind p) s = in_entry q (place.Complex key es) (entry_step (spot.Behind p) q.frames s)

abbrev pub step_at : State → Place → Symbol → Option State
step_at q (place.Fixed f) s = at_place q (step_fixed f s)
step_at q place.Head s = at_place q (step_head s)
step_at q (place.HeadEntry p) s = step_head_entry q p s
step_at q place.Instances s = at_place q (step_instances s)
step_at q (place.Numbered key) s = at_place q (step_numbered key s)
step_at q (place.Equated key) s = at_place q (step_equated key s)
step_at q (place.Simple key p) s = step_simple q key p s
step_at q (place.Opened key) s = at_place q (step_opened_instance key s)
step_at q (place.Complex key es p) s = step_complex q key es p s
step_at q (place.Closed key es) s = behind_body q key (body.Complex es) s

-- what was read with one token more, where that token may stand here
abbrev pub step : State → Symbol → Option State
step q s = step_at q q.place s

-- what was read with these tokens more
abbrev pub run_on : Option State → List Symbol → Option State
run_on None ss = None
run_on (Some q) [] = Some q
run_on (Some q) (s ∷ ss) = run_on (step q s) ss

abbrev pub run : State → List Symbol → Option State
run q ss = run_on (Some q) ss

-- before the first token
abbrev pub start : State
start = record { place = place.Fixed fixed.StartWord; frames = []; head = []; instances = [] }

-- the parentheses of complex instances that stand open at a place
abbrev pub around : Place → ℕ
around (place.Fixed f) = 0
around place.Head = 0
around (place.HeadEntry p) = 0
around place.Instances = 0
around (place.Numbered key) = 0
around (place.Equated key) = 0
around (place.Simple key p) = 0
around (place.Opened key) = 1
around (place.Complex key es p) = 1
around (place.Closed key es) = 0

-- the parentheses that stand open
abbrev pub open_at : State → ℕ
open_at q = length q.frames + around q.place
