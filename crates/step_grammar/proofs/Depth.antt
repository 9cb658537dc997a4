-- The machine counts the parentheses that stand open.
use Rattle.std.proofs.Common.{◌≡◌, ℕ, ◌+◌, ◌-◌, true, false, List, [], ◌∷◌, Option, Some, None, All, map, length, refl, sym, ◌∙◌, ap, arith, subst}
use Rattle.std.proofs.lemmas.Bool.{true≢false, and_parts}
use Rattle.std.proofs.lemmas.List.Elements.{All-head, All-tail}
use Rattle.spec_step.specs.Spelling.{is_spelled, is_mark}
use Rattle.spec_step.specs.Lexemes.{Lexeme, IsToken}
use Rattle.spec_step.specs.Files.{open_after, open_behind}
use Rattle.spec_step.specs.declared.token.Span.{Span}
use Rattle.spec_step.specs.declared.token.TokenKind.{TokenKind}
use Rattle.spec_step.specs.declared.token.TokenKind.TheVariants as kind
use Rattle.spec_step.specs.declared.tree.Param.{Param}
use Rattle.spec_step.specs.declared.tree.Entry.{Entry}
use Rattle.spec_step.specs.declared.tree.Body.{Body}
use Rattle.step_grammar.specs.Symbols.{symbol_of, symbol_by, mark_symbol}
use Rattle.step_grammar.specs.Entries.{Stand, entry_step, step_named, step_before, step_opened, step_typed, step_behind, close_empty, close, go_on}
use Rattle.step_grammar.specs.Places.{State, start, step, step_at, step_fixed, step_head, step_instances, step_numbered, step_equated, step_opened_instance, step_head_entry, step_simple, step_complex, behind_head_entry, behind_body, behind_part, at_place, in_entry, with_entry, around, open_at, run_on}
use Rattle.step_grammar.specs.Runs.{runs}
use Rattle.step_grammar.specs.declared.symbol.Name.TheVariants as name
use Rattle.step_grammar.specs.declared.symbol.Symbol.{Symbol}
use Rattle.step_grammar.specs.declared.symbol.Symbol.TheVariants as symbol
use Rattle.step_grammar.specs.declared.entry.Frame.{Frame}
use Rattle.step_grammar.specs.declared.entry.Frame.TheVariants as frame
use Rattle.step_grammar.specs.declared.entry.Spot.{Spot}
use Rattle.step_grammar.specs.declared.entry.Spot.TheVariants as spot
use Rattle.step_grammar.specs.declared.place.Fixed.{Fixed}
use Rattle.step_grammar.specs.declared.place.Fixed.TheVariants as fixed
use Rattle.step_grammar.specs.declared.place.Key.{Key}
use Rattle.step_grammar.specs.declared.place.Place.{Place}
use Rattle.step_grammar.specs.declared.place.Place.TheVariants as place
use Rattle.step_grammar.proofs.Marks.{each_mark}

-- how many stand open behind a symbol, where n stand open before it
abbrev pub change : Symbol → ℕ → ℕ
change symbol.Open n = n + 1
change symbol.Close n = n - 1
change symbol.StartWord n = n
change symbol.EndWord n = n
change (symbol.Keyword p k) n = n
change (symbol.Number k from) n = n
change (symbol.Atom a) n = n
change (symbol.Semicolon end) n = n
change symbol.Equals n = n
change symbol.Comma n = n

-- a token changes it as its symbol does
token_change : (k : TokenKind) (p : Span) (text : List ℕ) → is_spelled k text ≡ true → (n : ℕ)
    → open_after n (record { kind = k; span = p; text = text }) ≡ change (symbol_by k p text) n
token_change kind.StartWord p text h n = refl
token_change kind.EndWord p text h n = refl
token_change kind.Keyword p text h n = refl
token_change kind.Number p text h n = refl
token_change kind.Int p text h n = refl
token_change kind.Real p text h n = refl
token_change kind.Text p text h n = refl
token_change kind.Enumeration p text h n = refl
token_change kind.Binary p text h n = refl
token_change kind.Mark p [] h n = absurd (true≢false (sym h))
token_change kind.Mark p (b ∷ []) h n =
    each_mark (λ m. open_after n (record { kind = kind.Mark; span = p; text = m ∷ [] }) ≡ change (mark_symbol m p.end) n)
    refl refl refl refl refl refl refl b (and_parts (is_mark b) true h).0
token_change kind.Mark p (b ∷ c ∷ cs) h n = absurd (true≢false (sym (and_parts (is_mark b) false h).1))

-- In an entry, where others stand open around it.

-- where the step exists, this many are open behind it
abbrev CountsStand : ℕ → ℕ → Option Stand → Type 0
CountsStand a n None = Unit {0}
CountsStand a n (Some stand) = length stand.1 + a ≡ n

-- the steps of each place in an entry change the count by their symbol
count_named : (a : ℕ) (k : Span) (frames : List Frame) (s : Symbol) → CountsStand a (change s (length frames + a)) (step_named k frames s)
count_named a k frames symbol.Open = omega arith
count_named a k frames s = tt

count_before : (a : ℕ) (frames : List Frame) (s : Symbol) → CountsStand a (change s (length frames + a)) (step_before frames s)
count_before a frames (symbol.Atom x) = refl
count_before a frames (symbol.Number n from) = refl
count_before a frames (symbol.Keyword p n) = refl
count_before a frames symbol.Open = omega arith
count_before a frames s = tt

count_close_empty : (a : ℕ) (frames : List Frame) → CountsStand a ((length frames + a) - 1) (close_empty frames)
count_close_empty a [] = tt
count_close_empty a (frame.List [] ∷ frames) = omega arith
count_close_empty a (frame.List (p ∷ ps) ∷ frames) = tt
count_close_empty a (frame.Entry k [] ∷ frames) = omega arith
count_close_empty a (frame.Entry k (p ∷ ps) ∷ frames) = tt
count_close_empty a (frame.Typed k ∷ frames) = tt

count_opened : (a : ℕ) (frames : List Frame) (s : Symbol) → CountsStand a (change s (length frames + a)) (step_opened frames s)
count_opened a frames symbol.Close = count_close_empty a frames
count_opened a frames (symbol.Atom x) = refl
count_opened a frames (symbol.Number n from) = refl
count_opened a frames (symbol.Keyword p n) = refl
count_opened a frames symbol.Open = omega arith
count_opened a frames s = tt

count_typed : (a : ℕ) (k : Span) (frames : List Frame) (s : Symbol) → CountsStand a (change s (length frames + a)) (step_typed k frames s)
count_typed a k frames symbol.Open = omega arith
count_typed a k frames s = tt

count_close : (a : ℕ) (p : Param) (frames : List Frame) → CountsStand a ((length frames + a) - 1) (close p frames)
count_close a p [] = tt
count_close a p (frame.List ps ∷ frames) = omega arith
count_close a p (frame.Typed k ∷ frames) = omega arith
count_close a p (frame.Entry k ps ∷ frames) = omega arith

count_go_on : (a : ℕ) (p : Param) (frames : List Frame) → CountsStand a (length frames + a) (go_on p frames)
count_go_on a p [] = tt
count_go_on a p (frame.List ps ∷ frames) = refl
count_go_on a p (frame.Typed k ∷ frames) = tt
count_go_on a p (frame.Entry k ps ∷ frames) = refl

count_behind : (a : ℕ) (p : Param) (frames : List Frame) (s : Symbol) → CountsStand a (change s (length frames + a)) (step_behind p frames s)
count_behind a p frames symbol.Close = count_close a p frames
count_behind a p frames symbol.Comma = count_go_on a p frames
count_behind a p frames s = tt

count_entry : (a : ℕ) (p : Spot) (frames : List Frame) (s : Symbol) → CountsStand a (change s (length frames + a)) (entry_step p frames s)
count_entry a (spot.Named k) frames s = count_named a k frames s
count_entry a spot.Opened frames s = count_opened a frames s
count_entry a spot.Before frames s = count_before a frames s
count_entry a (spot.Typed k) frames s = count_typed a k frames s
count_entry a (spot.Behind p) frames s = count_behind a p frames s
count_entry a (spot.Read e) frames s = tt

-- In a file.

-- the same of a state
abbrev Counts : ℕ → Option State → Type 0
Counts n None = Unit {0}
Counts n (Some q) = open_at q ≡ n

-- a count in an entry is one in the file
count_in_head : (q : State) (n : ℕ) (o : Option Stand) → CountsStand 0 n o → Counts n (in_entry q place.HeadEntry o)
count_in_head q n None h = tt
count_in_head q n (Some stand) h = h

count_in_simple : (q : State) (key : Key) (n : ℕ) (o : Option Stand) → CountsStand 0 n o → Counts n (in_entry q (place.Simple key) o)
count_in_simple q key n None h = tt
count_in_simple q key n (Some stand) h = h

count_in_complex : (q : State) (key : Key) (es : List Entry) (n : ℕ) (o : Option Stand) → CountsStand 1 n o → Counts n (in_entry q (place.Complex key es) o)
count_in_complex q key es n None h = tt
count_in_complex q key es n (Some stand) h = h

-- the steps of each place in a file change the count by their symbol
count_fixed : (q : State) (f : Fixed) (s : Symbol) → Counts (change s (length q.frames + 0)) (at_place q (step_fixed f s))
count_fixed q fixed.StartWord symbol.StartWord = refl
count_fixed q fixed.StartWord s = tt
count_fixed q fixed.StartEnd (symbol.Semicolon end) = refl
count_fixed q fixed.StartEnd s = tt
count_fixed q fixed.Header (symbol.Keyword p name.Header) = refl
count_fixed q fixed.Header s = tt
count_fixed q fixed.HeaderStart (symbol.Semicolon end) = refl
count_fixed q fixed.HeaderStart s = tt
count_fixed q fixed.HeaderEnd (symbol.Semicolon end) = refl
count_fixed q fixed.HeaderEnd s = tt
count_fixed q fixed.Data (symbol.Keyword p name.Data) = refl
count_fixed q fixed.Data s = tt
count_fixed q fixed.DataStart (symbol.Semicolon end) = refl
count_fixed q fixed.DataStart s = tt
count_fixed q fixed.DataEnd (symbol.Semicolon end) = refl
count_fixed q fixed.DataEnd s = tt
count_fixed q fixed.EndWord symbol.EndWord = refl
count_fixed q fixed.EndWord s = tt
count_fixed q fixed.FileEnd (symbol.Semicolon end) = refl
count_fixed q fixed.FileEnd s = tt
count_fixed q fixed.Nothing s = tt

count_head : (q : State) (s : Symbol) → Counts (change s (length q.frames + 0)) (at_place q (step_head s))
count_head q (symbol.Keyword p name.EndSection) = refl
count_head q (symbol.Keyword p name.Header) = refl
count_head q (symbol.Keyword p name.Data) = refl
count_head q (symbol.Keyword p name.Other) = refl
count_head q s = tt

count_instances : (q : State) (s : Symbol) → Counts (change s (length q.frames + 0)) (at_place q (step_instances s))
count_instances q (symbol.Number n from) = refl
count_instances q (symbol.Keyword p name.EndSection) = refl
count_instances q s = tt

count_numbered : (q : State) (key : Key) (s : Symbol) → Counts (change s (length q.frames + 0)) (at_place q (step_numbered key s))
count_numbered q key symbol.Equals = refl
count_numbered q key s = tt

count_equated : (q : State) (key : Key) (s : Symbol) → Counts (change s (length q.frames + 0)) (at_place q (step_equated key s))
count_equated q key (symbol.Keyword p n) = refl
count_equated q key symbol.Open = omega arith
count_equated q key s = tt

count_opened_instance : (q : State) (key : Key) (s : Symbol) → Counts (change s (length q.frames + 1)) (at_place q (step_opened_instance key s))
count_opened_instance q key (symbol.Keyword p n) = refl
count_opened_instance q key s = tt

count_behind_head_entry : (q : State) (e : Entry) (s : Symbol) → Counts (change s (length q.frames + 0)) (behind_head_entry q e s)
count_behind_head_entry q e (symbol.Semicolon end) = refl
count_behind_head_entry q e s = tt

count_behind_body : (q : State) (key : Key) (b : Body) (s : Symbol) → Counts (change s (length q.frames + 0)) (behind_body q key b s)
count_behind_body q key b (symbol.Semicolon end) = refl
count_behind_body q key b s = tt

count_behind_part : (q : State) (key : Key) (es : List Entry) (s : Symbol) → Counts (change s (length q.frames + 1)) (behind_part q key es s)
count_behind_part q key es (symbol.Keyword p n) = refl
count_behind_part q key es symbol.Close = omega arith
count_behind_part q key es s = tt

count_head_entry : (q : State) (p : Spot) (s : Symbol) → Counts (change s (length q.frames + 0)) (step_head_entry q p s)
count_head_entry q (spot.Read e) s = count_behind_head_entry q e s
count_head_entry q (spot.Named k) s = count_in_head q _ (entry_step (spot.Named k) q.frames s) (count_entry 0 (spot.Named k) q.frames s)
count_head_entry q spot.Opened s = count_in_head q _ (entry_step spot.Opened q.frames s) (count_entry 0 spot.Opened q.frames s)
count_head_entry q spot.Before s = count_in_head q _ (entry_step spot.Before q.frames s) (count_entry 0 spot.Before q.frames s)
count_head_entry q (spot.Typed k) s = count_in_head q _ (entry_step (spot.Typed k) q.frames s) (count_entry 0 (spot.Typed k) q.frames s)
count_head_entry q (spot.Behind p) s = count_in_head q _ (entry_step (spot.Behind p) q.frames s) (count_entry 0 (spot.Behind p) q.frames s)

count_simple : (q : State) (key : Key) (p : Spot) (s : Symbol) → Counts (change s (length q.frames + 0)) (step_simple q key p s)
count_simple q key (spot.Read e) s = count_behind_body q key _ s
count_simple q key (spot.Named k) s = count_in_simple q key _ (entry_step (spot.Named k) q.frames s) (count_entry 0 (spot.Named k) q.frames s)
count_simple q key spot.Opened s = count_in_simple q key _ (entry_step spot.Opened q.frames s) (count_entry 0 spot.Opened q.frames s)
count_simple q key spot.Before s = count_in_simple q key _ (entry_step spot.Before q.frames s) (count_entry 0 spot.Before q.frames s)
count_simple q key (spot.Typed k) s = count_in_simple q key _ (entry_step (spot.Typed k) q.frames s) (count_entry 0 (spot.Typed k) q.frames s)
count_simple q key (spot.Behind p) s = count_in_simple q key _ (entry_step (spot.Behind p) q.frames s) (count_entry 0 (spot.Behind p) q.frames s)

count_complex : (q : State) (key : Key) (es : List Entry) (p : Spot) (s : Symbol) → Counts (change s (length q.frames + 1)) (step_complex q key es p s)
count_complex q key es (spot.Read e) s = count_behind_part q key (with_entry es e) s
count_complex q key es (spot.Named k) s = count_in_complex q key es _ (entry_step (spot.Named k) q.frames s) (count_entry 1 (spot.Named k) q.frames s)
count_complex q key es spot.Opened s = count_in_complex q key es _ (entry_step spot.Opened q.frames s) (count_entry 1 spot.Opened q.frames s)
count_complex q key es spot.Before s = count_in_complex q key es _ (entry_step spot.Before q.frames s) (count_entry 1 spot.Before q.frames s)
count_complex q key es (spot.Typed k) s = count_in_complex q key es _ (entry_step (spot.Typed k) q.frames s) (count_entry 1 (spot.Typed k) q.frames s)
count_complex q key es (spot.Behind p) s = count_in_complex q key es _ (entry_step (spot.Behind p) q.frames s) (count_entry 1 (spot.Behind p) q.frames s)

count_step : (q : State) (p : Place) (s : Symbol) → Counts (change s (length q.frames + around p)) (step_at q p s)
count_step q (place.Fixed f) s = count_fixed q f s
count_step q place.Head s = count_head q s
count_step q (place.HeadEntry p) s = count_head_entry q p s
count_step q place.Instances s = count_instances q s
count_step q (place.Numbered key) s = count_numbered q key s
count_step q (place.Equated key) s = count_equated q key s
count_step q (place.Simple key p) s = count_simple q key p s
count_step q (place.Opened key) s = count_opened_instance q key s
count_step q (place.Complex key es p) s = count_complex q key es p s
count_step q (place.Closed key es) s = count_behind_body q key _ s

-- Over tokens.

-- the tokens change a right count to a right one
depth_from : (o : Option State) (n : ℕ) (ls : List Lexeme) (q : State) → Counts n o → All IsToken ls → run_on o (map symbol_of ls) ≡ Some q → open_behind n ls ≡ open_at q
depth_from None n ls q c are h = absurd (cc)
depth_from (Some p) n [] q c are h = let same : p ≡ q = cc in sym c ∙ ap open_at same
depth_from (Some p) n (l ∷ ls) q c are h =
    let token : IsToken l = All-head IsToken l ls are in
    let counted : change (symbol_of l) (open_at p) ≡ open_after n l = ap (change (symbol_of l)) c ∙ sym (token_change l.kind l.span l.text token n) in
    depth_from (step p (symbol_of l)) (open_after n l) ls q
    (subst (λ m. Counts m (step p (symbol_of l))) counted (count_step p p.place (symbol_of l))) (All-tail IsToken l ls are) h

-- from the first token on
pub depth_is : (ls : List Lexeme) (q : State) → All IsToken ls → runs ls ≡ Some q → open_behind 0 ls ≡ open_at q
depth_is ls q are h = depth_from (Some start) 0 ls q refl are h
