-- The rows of the table of keywords.
use Rattle.std.specs.Prelude.{ℕ, List, Option}
use Rattle.std.specs.Borrow.{Bor}
use Rattle.std.specs.List.{find}
use Rattle.std.specs.Option.{option_map}
use Rattle.ifc_kinds.specs.Keywords.{is_spelling_of}
use Rattle.ifc_kinds.specs.declared.kind.Kind.{Kind}
use Rattle.ifc_kinds.specs.declared.table.Group.{Group}

-- a row of the table
abbrev pub Row : Type 0
Row = Kind × Bor (List ℕ) × Group

-- a kind and its keyword
abbrev pub Word : Type 0
Word = Kind × List ℕ

abbrev pub plain : Row → Word
plain row = (row.0, row.1.now)

-- the kind of the first keyword that is this word
abbrev pub kind_with : List Word → List ℕ → Option Kind
kind_with words text = option_map (λ w. w.0) (find (λ w. is_spelling_of w.1 text) words)
