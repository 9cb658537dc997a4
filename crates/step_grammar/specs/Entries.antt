-- The places of an entry, and the tokens that may stand there.
use Rattle.std.specs.Prelude.{List, [], ◌∷◌, ◌++◌, Option, Some, None}
use Rattle.spec_step.specs.declared.token.Span.{Span}
use Rattle.spec_step.specs.declared.tree.Param.{Param}
use Rattle.spec_step.specs.declared.tree.Param.TheVariants as param
use Rattle.step_grammar.specs.declared.symbol.Atom.{Atom}
use Rattle.step_grammar.specs.declared.symbol.Atom.TheVariants as atom
use Rattle.step_grammar.specs.declared.symbol.Symbol.{Symbol}
use Rattle.step_grammar.specs.declared.symbol.Symbol.TheVariants as symbol
use Rattle.step_grammar.specs.declared.entry.Frame.{Frame}
use Rattle.step_grammar.specs.declared.entry.Frame.TheVariants as frame
use Rattle.step_grammar.specs.declared.entry.Spot.{Spot}
use Rattle.step_grammar.specs.declared.entry.Spot.TheVariants as spot

-- a place in an entry, with the parentheses that stand frames there, the innermost first
abbrev pub Stand : Type 0
Stand = Spot × List Frame

abbrev pub at : Option Spot → List Frame → Option Stand
at None frames = None
at (Some p) frames = Some (p, frames)

abbrev pub atom_param : Atom → Param
atom_param atom.Unset = param.Unset
atom_param atom.Derived = param.Derived
atom_param (atom.Int p) = param.Int p
atom_param (atom.Real p) = param.Real p
atom_param (atom.Text p) = param.Text p
atom_param (atom.Enumeration p) = param.Enumeration p
atom_param (atom.Binary p) = param.Binary p

abbrev pub with_last : List Param → Param → List Param
with_last ps p = ps ++ p ∷ []

abbrev pub step_named : Span → List Frame → Symbol → Option Stand
step_named k frames symbol.Open = Some (spot.Opened, frame.Entry k [] ∷ frames)
step_named k frames symbol.StartWord = None
step_named k frames symbol.EndWord = None
step_named k frames (symbol.Keyword p n) = None
step_named k frames (symbol.Number n from) = None
step_named k frames (symbol.Atom a) = None
step_named k frames (symbol.Semicolon end) = None
step_named k frames symbol.Equals = None
step_named k frames symbol.Close = None
step_named k frames symbol.Comma = None

abbrev pub step_before : List Frame → Symbol → Option Stand
step_before frames (symbol.Atom a) = Some (spot.Behind (atom_param a), frames)
step_before frames (symbol.Number n from) = Some (spot.Behind (param.Reference n), frames)
step_before frames (symbol.Keyword p n) = Some (spot.Typed p, frames)
step_before frames symbol.Open = Some (spot.Opened, frame.List [] ∷ frames)
step_before frames symbol.StartWord = None
step_before frames symbol.EndWord = None
step_before frames (symbol.Semicolon end) = None
step_before frames symbol.Equals = None
step_before frames symbol.Close = None
step_before frames symbol.Comma = None

-- a closing parenthesis behind the opening one
abbrev pub close_empty : List Frame → Option Stand
close_empty [] = None
close_empty (frame.List [] ∷ frames) = Some (spot.Behind (param.List []), frames)
close_empty (frame.List (p ∷ ps) ∷ frames) = None
close_empty (frame.Entry k [] ∷ frames) = Some (spot.Read (record { keyword = k; params = [] }), frames)
close_empty (frame.Entry k (p ∷ ps) ∷ frames) = None
close_empty (frame.Typed k ∷ frames) = None

abbrev pub step_opened : List Frame → Symbol → Option Stand
step_opened frames symbol.Close = close_empty frames
step_opened frames (symbol.Atom a) = step_before frames (symbol.Atom a)
step_opened frames (symbol.Number n from) = step_before frames (symbol.Number n from)
step_opened frames (symbol.Keyword p n) = step_before frames (symbol.Keyword p n)
step_opened frames symbol.Open = step_before frames symbol.Open
step_opened frames symbol.StartWord = None
step_opened frames symbol.EndWord = None
step_opened frames (symbol.Semicolon end) = None
step_opened frames symbol.Equals = None
step_opened frames symbol.Comma = None

abbrev pub step_typed : Span → List Frame → Symbol → Option Stand
step_typed k frames symbol.Open = Some (spot.Before, frame.Typed k ∷ frames)
step_typed k frames symbol.StartWord = None
step_typed k frames symbol.EndWord = None
step_typed k frames (symbol.Keyword p n) = None
step_typed k frames (symbol.Number n from) = None
step_typed k frames (symbol.Atom a) = None
step_typed k frames (symbol.Semicolon end) = None
step_typed k frames symbol.Equals = None
step_typed k frames symbol.Close = None
step_typed k frames symbol.Comma = None

-- a closing parenthesis behind a parameter
abbrev pub close : Param → List Frame → Option Stand
close p [] = None
close p (frame.List ps ∷ frames) = Some (spot.Behind (param.List (with_last ps p)), frames)
close p (frame.Typed k ∷ frames) = Some (spot.Behind (param.Typed k p), frames)
close p (frame.Entry k ps ∷ frames) = Some (spot.Read (record { keyword = k; params = with_last ps p }), frames)

-- a comma behind a parameter
abbrev pub go_on : Param → List Frame → Option Stand
go_on p [] = None
go_on p (frame.List ps ∷ frames) = Some (spot.Before, frame.List (with_last ps p) ∷ frames)
go_on p (frame.Typed k ∷ frames) = None
go_on p (frame.Entry k ps ∷ frames) = Some (spot.Before, frame.Entry k (with_last ps p) ∷ frames)

abbrev pub step_behind : Param → List Frame → Symbol → Option Stand
step_behind p frames symbol.Close = close p frames
step_behind p frames symbol.Comma = go_on p frames
step_behind p frames symbol.StartWord = None
step_behind p frames symbol.EndWord = None
step_behind p frames (symbol.Keyword k n) = None
step_behind p frames (symbol.Number n from) = None
step_behind p frames (symbol.Atom a) = None
step_behind p frames (symbol.Semicolon end) = None
step_behind p frames symbol.Equals = None
step_behind p frames symbol.Open = None

-- the place behind one token more, where that token may stand here
abbrev pub entry_step : Spot → List Frame → Symbol → Option Stand
entry_step (spot.Named k) frames s = step_named k frames s
entry_step spot.Opened frames s = step_opened frames s
entry_step spot.Before frames s = step_before frames s
entry_step (spot.Typed k) frames s = step_typed k frames s
entry_step (spot.Behind p) frames s = step_behind p frames s
entry_step (spot.Read e) frames s = None
