-- What the parser has read of a text.
use Rattle.std.specs.Prelude.{◌≡◌, ℕ, List, Some}
use Rattle.spec_step.specs.Lexemes.{Lexeme, Reads}
use Rattle.spec_step.specs.Files.{IsShallow}
use Rattle.step_grammar.specs.Places.{State}
use Rattle.step_grammar.specs.Runs.{runs}

-- the tokens up to this place may stand where they stand, are nowhere too deep, and are read as this
pub record HasRead (s : List ℕ) (at : ℕ) (q : State) : Type 0 where
  pub lexemes : List Lexeme
  pub tokens : Reads s 0 lexemes at
  pub read : runs lexemes ≡ Some q
  pub shallow : IsShallow lexemes
