-- What was read of an entry so far, as the grammar wants it, and that each step adds one token.
use Rattle.std.proofs.Common.{◌≡◌, ℕ, List, [], ◌∷◌, ◌++◌, Option, Some, None, map, refl, sym, ◌∙◌, ap, append_assoc}
use Rattle.spec_step.specs.Lexemes.{Lexeme}
use Rattle.spec_step.specs.Grammar.{Want, spanned, reference, IsAs, opening, closing, comma, members, further, layer_spelling, spelling, arguments}
use Rattle.spec_step.specs.declared.token.Span.{Span}
use Rattle.spec_step.specs.declared.token.TokenKind.TheVariants as kind
use Rattle.spec_step.specs.declared.tree.Param.{Param}
use Rattle.spec_step.specs.declared.tree.Param as rolled
use Rattle.spec_step.specs.declared.tree.Param.TheVariants as param
use Rattle.spec_step.specs.declared.tree.Param.TheOpen as layer
use Rattle.spec_step.specs.declared.tree.Param.TheFolds.{fold-roll-Param}
use Rattle.step_grammar.specs.Entries.{Stand, entry_step, step_named, step_before, step_opened, step_typed, step_behind, close_empty, close, go_on, atom_param}
use Rattle.step_grammar.specs.declared.symbol.Atom.{Atom}
use Rattle.step_grammar.specs.declared.symbol.Atom.TheVariants as atom
use Rattle.step_grammar.specs.declared.symbol.Symbol.{Symbol}
use Rattle.step_grammar.specs.declared.symbol.Symbol.TheVariants as symbol
use Rattle.step_grammar.specs.declared.entry.Frame.{Frame}
use Rattle.step_grammar.specs.declared.entry.Frame.TheVariants as frame
use Rattle.step_grammar.specs.declared.entry.Spot.{Spot}
use Rattle.step_grammar.specs.declared.entry.Spot.TheVariants as spot
use Rattle.step_grammar.proofs.Spoken.{Spoken, atom_want}

-- Parameters.

-- the spelling of each kind of parameter
pub spelling_list : (ps : List Param) → spelling (param.List ps) ≡ opening ∷ members (map spelling ps)
unfolding rolled.roll-Param denote.Hole.Carrier.roll
spelling_list ps = fold-roll-Param (List Want) layer_spelling (layer.List ps)

pub spelling_typed : (k : Span) (p : Param) → spelling (param.Typed k p) ≡ spanned kind.Keyword k ∷ opening ∷ (spelling p ++ closing ∷ [])
unfolding rolled.roll-Param denote.Hole.Carrier.roll
spelling_typed k p = fold-roll-Param (List Want) layer_spelling (layer.Typed k p)

pub spelling_reference : (n : ℕ) → spelling (param.Reference n) ≡ reference n ∷ []
unfolding rolled.roll-Param denote.Hole.Carrier.roll
spelling_reference n = fold-roll-Param (List Want) layer_spelling (layer.Reference n)

pub spelling_atom : (a : Atom) → spelling (atom_param a) ≡ atom_want a ∷ []
unfolding rolled.roll-Param denote.Hole.Carrier.roll
spelling_atom atom.Unset = fold-roll-Param (List Want) layer_spelling layer.Unset
spelling_atom atom.Derived = fold-roll-Param (List Want) layer_spelling layer.Derived
spelling_atom (atom.Int p) = fold-roll-Param (List Want) layer_spelling (layer.Int p)
spelling_atom (atom.Real p) = fold-roll-Param (List Want) layer_spelling (layer.Real p)
spelling_atom (atom.Text p) = fold-roll-Param (List Want) layer_spelling (layer.Text p)
spelling_atom (atom.Enumeration p) = fold-roll-Param (List Want) layer_spelling (layer.Enumeration p)
spelling_atom (atom.Binary p) = fold-roll-Param (List Want) layer_spelling (layer.Binary p)

-- parameters, each with a comma behind it
abbrev listed : List Param → List Want
listed [] = []
listed (p ∷ ps) = spelling p ++ (comma ∷ listed ps)

-- one parameter more, and what stands behind it
listed_last : (ps : List Param) (p : Param) → listed (ps ++ p ∷ []) ≡ listed ps ++ (spelling p ++ comma ∷ [])
listed_last [] p = refl
listed_last (x ∷ ps) p = ap (λ l. spelling x ++ (comma ∷ l)) (listed_last ps p) ∙ sym (append_assoc (spelling x) (comma ∷ listed ps) (spelling p ++ comma ∷ []))

further_last : (ps : List Param) (p : Param) → further (map spelling (ps ++ p ∷ [])) ≡ comma ∷ members (map spelling (ps ++ p ∷ []))
further_last [] p = refl
further_last (x ∷ ps) p = refl

members_last : (ps : List Param) (p : Param) → members (map spelling (ps ++ p ∷ [])) ≡ listed ps ++ (spelling p ++ closing ∷ [])
members_last [] p = refl
members_last (x ∷ ps) p =
    ap (λ l. spelling x ++ l) (further_last ps p ∙ ap (λ l. comma ∷ l) (members_last ps p))
    ∙ sym (append_assoc (spelling x) (comma ∷ listed ps) (spelling p ++ closing ∷ []))

-- Entries. What is wanted of an entry's keyword depends on where the entry stands.

-- what stands up to the last comma or opening parenthesis
abbrev pub before : (Span → Want) → List Frame → List Want
before first [] = []
before first (frame.Entry k ps ∷ frames) = before first frames ++ (first k ∷ opening ∷ listed ps)
before first (frame.List ps ∷ frames) = before first frames ++ (opening ∷ listed ps)
before first (frame.Typed k ∷ frames) = before first frames ++ (spanned kind.Keyword k ∷ opening ∷ [])

-- what was read of an entry
abbrev pub read_entry : (Span → Want) → Spot → List Frame → List Want
read_entry first (spot.Named k) frames = before first frames ++ first k ∷ []
read_entry first spot.Opened frames = before first frames
read_entry first spot.Before frames = before first frames
read_entry first (spot.Typed k) frames = before first frames ++ spanned kind.Keyword k ∷ []
read_entry first (spot.Behind p) frames = before first frames ++ spelling p
read_entry first (spot.Read e) frames = before first frames ++ (first e.keyword ∷ arguments e.params)

-- where the step exists, its token is as some want says that is added to what was read
abbrev pub AddsStand : (Span → Want) → Lexeme → List Want → Option Stand → Type 0
AddsStand first l ws None = Unit {0}
AddsStand first l ws (Some stand) = (w : Want) × IsAs w l × (read_entry first stand.0 stand.1 ≡ ws ++ w ∷ [])

-- so it is at each place in an entry
add_named : (first : Span → Want) (k : Span) (frames : List Frame) (s : Symbol) (l : Lexeme) → Spoken s l → AddsStand first l (read_entry first (spot.Named k) frames) (step_named k frames s)
add_named first k frames symbol.Open l h = (opening, h, sym (append_assoc (before first frames) (first k ∷ []) (opening ∷ [])))
add_named first k frames s l h = tt

add_before : (first : Span → Want) (frames : List Frame) (s : Symbol) (l : Lexeme) → Spoken s l → AddsStand first l (before first frames) (step_before frames s)
add_before first frames (symbol.Atom a) l h = (atom_want a, h, ap (λ x. before first frames ++ x) (spelling_atom a))
add_before first frames (symbol.Number n from) l h = (reference n, (h.0, h.1), ap (λ x. before first frames ++ x) (spelling_reference n))
add_before first frames (symbol.Keyword p n) l h = (spanned kind.Keyword p, (h.0, h.1), refl)
add_before first frames symbol.Open l h = (opening, h, refl)
add_before first frames s l h = tt

add_close_empty : (first : Span → Want) (frames : List Frame) (l : Lexeme) → IsAs closing l → AddsStand first l (before first frames) (close_empty frames)
add_close_empty first [] l h = tt
add_close_empty first (frame.List [] ∷ frames) l h =
    (closing, h, ap (λ x. before first frames ++ x) (spelling_list []) ∙ sym (append_assoc (before first frames) (opening ∷ []) (closing ∷ [])))
add_close_empty first (frame.List (p ∷ ps) ∷ frames) l h = tt
add_close_empty first (frame.Entry k [] ∷ frames) l h = (closing, h, sym (append_assoc (before first frames) (first k ∷ opening ∷ []) (closing ∷ [])))
add_close_empty first (frame.Entry k (p ∷ ps) ∷ frames) l h = tt
add_close_empty first (frame.Typed k ∷ frames) l h = tt

add_opened : (first : Span → Want) (frames : List Frame) (s : Symbol) (l : Lexeme) → Spoken s l → AddsStand first l (before first frames) (step_opened frames s)
add_opened first frames symbol.Close l h = add_close_empty first frames l h
add_opened first frames (symbol.Atom a) l h = add_before first frames (symbol.Atom a) l h
add_opened first frames (symbol.Number n from) l h = add_before first frames (symbol.Number n from) l h
add_opened first frames (symbol.Keyword p n) l h = add_before first frames (symbol.Keyword p n) l h
add_opened first frames symbol.Open l h = add_before first frames symbol.Open l h
add_opened first frames s l h = tt

add_typed : (first : Span → Want) (k : Span) (frames : List Frame) (s : Symbol) (l : Lexeme) → Spoken s l → AddsStand first l (read_entry first (spot.Typed k) frames) (step_typed k frames s)
add_typed first k frames symbol.Open l h = (opening, h, sym (append_assoc (before first frames) (spanned kind.Keyword k ∷ []) (opening ∷ [])))
add_typed first k frames s l h = tt

regroup : (a b c d : List Want) → a ++ (b ++ (c ++ d)) ≡ ((a ++ b) ++ c) ++ d
regroup a b c d = sym (simp append_assoc)

add_close : (first : Span → Want) (p : Param) (frames : List Frame) (l : Lexeme) → IsAs closing l → AddsStand first l (before first frames ++ spelling p) (close p frames)
add_close first p [] l h = tt
add_close first p (frame.List ps ∷ frames) l h = (
  closing,
  h,
  ap (λ x. before first frames ++ x) (spelling_list (ps ++ p ∷ []) ∙ ap (λ x. opening ∷ x) (members_last ps p))
      ∙ regroup (before first frames) (opening ∷ listed ps) (spelling p) (closing ∷ []),
)
add_close first p (frame.Typed k ∷ frames) l h = (
  closing,
  h,
  ap (λ x. before first frames ++ x) (spelling_typed k p)
      ∙ regroup (before first frames) (spanned kind.Keyword k ∷ opening ∷ []) (spelling p) (closing ∷ []),
)
add_close first p (frame.Entry k ps ∷ frames) l h = (
  closing,
  h,
  ap (λ x. before first frames ++ (first k ∷ opening ∷ x)) (members_last ps p)
      ∙ regroup (before first frames) (first k ∷ opening ∷ listed ps) (spelling p) (closing ∷ []),
)

add_go_on : (first : Span → Want) (p : Param) (frames : List Frame) (l : Lexeme) → IsAs comma l → AddsStand first l (before first frames ++ spelling p) (go_on p frames)
add_go_on first p [] l h = tt
add_go_on first p (frame.List ps ∷ frames) l h =
    (comma, h, ap (λ x. before first frames ++ (opening ∷ x)) (listed_last ps p) ∙ regroup (before first frames) (opening ∷ listed ps) (spelling p) (comma ∷ []))
add_go_on first p (frame.Typed k ∷ frames) l h = tt
add_go_on first p (frame.Entry k ps ∷ frames) l h =
    (comma, h, ap (λ x. before first frames ++ (first k ∷ opening ∷ x)) (listed_last ps p) ∙ regroup (before first frames) (first k ∷ opening ∷ listed ps) (spelling p) (comma ∷ []))

add_behind : (first : Span → Want) (p : Param) (frames : List Frame) (s : Symbol) (l : Lexeme) → Spoken s l → AddsStand first l (before first frames ++ spelling p) (step_behind p frames s)
add_behind first p frames symbol.Close l h = add_close first p frames l h
add_behind first p frames symbol.Comma l h = add_go_on first p frames l h
add_behind first p frames s l h = tt

pub add_entry : (first : Span → Want) (p : Spot) (frames : List Frame) (s : Symbol) (l : Lexeme) → Spoken s l → AddsStand first l (read_entry first p frames) (entry_step p frames s)
add_entry first (spot.Named k) frames s l h = add_named first k frames s l h
add_entry first spot.Opened frames s l h = add_opened first frames s l h
add_entry first spot.Before frames s l h = add_before first frames s l h
add_entry first (spot.Typed k) frames s l h = add_typed first k frames s l h
add_entry first (spot.Behind p) frames s l h = add_behind first p frames s l h
add_entry first (spot.Read e) frames s l h = tt
