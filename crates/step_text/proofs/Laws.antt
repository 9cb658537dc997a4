-- The laws of the machine of places, over tokens with their bytes.
use Rattle.std.proofs.Common.{◌≡◌, List, [], ◌++◌, Some, None, All, map, sym, ◌∙◌, ap}
use Rattle.spec_step.specs.Lexemes.{Lexeme, IsToken}
use Rattle.spec_step.specs.Grammar.{IsDerived}
use Rattle.spec_step.specs.Files.{BeginsFile, open_behind}
use Rattle.spec_step.specs.declared.tree.Entry.{Entry}
use Rattle.spec_step.specs.declared.tree.Instance.{Instance}
use Rattle.step_grammar.specs.Symbols.{symbol_of}
use Rattle.step_grammar.specs.Places.{State, open_at, run_on}
use Rattle.step_grammar.proofs.Runs.{runs_both, none_goes_on}
use Rattle.step_grammar.proofs.Complete.{complete_is}
use Rattle.step_grammar.proofs.Depth.{depth_is}
use Rattle.step_grammar.proofs.Ends.{begins_is}
use Rattle.step_grammar.proofs.Frames.{place_whole_is}
use Rattle.step_grammar.proofs.Sound.{sound_is}
use Rattle.step_grammar.specs.Runs.{runs, whole}

-- what was read behind the last semicolon are the trees of the tokens
pub sound : (ls : List Lexeme) (head : List Entry) (instances : List Instance) → All IsToken ls → runs ls ≡ Some (whole head instances) → IsDerived ls head instances
sound ls head instances are h = sound_is ls head instances are h

-- the tokens of a file lead behind its last semicolon, and give its trees
pub complete : (ls : List Lexeme) (head : List Entry) (instances : List Instance) → IsDerived ls head instances → runs ls ≡ Some (whole head instances)
complete ls head instances h = complete_is ls head instances h

-- tokens that may stand where they stand begin some file
pub begins : (ls : List Lexeme) (q : State) → All IsToken ls → runs ls ≡ Some q → BeginsFile ls
begins ls q are h = begins_is ls q are h

-- no other tokens begin one
pub no_begin : (ls : List Lexeme) → runs ls ≡ None → BeginsFile ls → ⊥
no_begin ls h b =
    none_goes_on (map symbol_of b.more) (whole b.head b.instances)
    (ap (λ o. run_on o (map symbol_of b.more)) (sym h) ∙ sym (runs_both ls b.more) ∙ complete (ls ++ b.more) b.head b.instances b.derived)

-- the machine counts the parentheses that stand open
pub depth : (ls : List Lexeme) (q : State) → All IsToken ls → runs ls ≡ Some q → open_behind 0 ls ≡ open_at q
depth ls q are h = depth_is ls q are h

-- behind the last semicolon nothing is open
pub place_whole : (ls : List Lexeme) (q : State) → runs ls ≡ Some q → q.place ≡ (whole [] []).place → q ≡ whole q.head q.instances
place_whole ls q h p = place_whole_is ls q h p
