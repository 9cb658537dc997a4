-- What was read behind some tokens.
use Rattle.std.specs.Prelude.{List, [], map, Option}
use Rattle.spec_step.specs.Lexemes.{Lexeme}
use Rattle.spec_step.specs.declared.tree.Entry.{Entry}
use Rattle.spec_step.specs.declared.tree.Instance.{Instance}
use Rattle.step_grammar.specs.Symbols.{symbol_of}
use Rattle.step_grammar.specs.Places.{State, start, run}
use Rattle.step_grammar.specs.declared.place.Fixed.TheVariants.{Nothing}
use Rattle.step_grammar.specs.declared.place.Place.TheVariants.{Fixed}

-- what was read behind these tokens, where each may stand in its place
abbrev pub runs : List Lexeme → Option State
runs ls = run start (map symbol_of ls)

-- a whole file
abbrev pub whole : List Entry → List Instance → State
whole head instances = record { place = Fixed Nothing; frames = []; head = head; instances = instances }
