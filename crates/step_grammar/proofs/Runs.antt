-- Runs of the machine over one list of tokens and then another.
use Rattle.std.proofs.Common.{◌≡◌, List, [], ◌∷◌, ◌++◌, Option, Some, None, map, refl, ◌∙◌, ap}
use Rattle.spec_step.specs.Lexemes.{Lexeme}
use Rattle.step_grammar.specs.Symbols.{symbol_of}
use Rattle.step_grammar.specs.Places.{State, start, step, run_on}
use Rattle.step_grammar.specs.Runs.{runs}
use Rattle.step_grammar.specs.declared.symbol.Symbol.{Symbol}

pub run_on-append : (o : Option State) (xs ys : List Symbol) → run_on o (xs ++ ys) ≡ run_on (run_on o xs) ys
run_on-append None xs ys = refl
run_on-append (Some p) [] ys = refl
run_on-append (Some p) (x ∷ xs) ys = run_on-append (step p x) xs ys

pub run_on-nil : (o : Option State) → run_on o [] ≡ o
run_on-nil None = refl
run_on-nil (Some q) = refl

pub map_both : (ls ms : List Lexeme) → map symbol_of (ls ++ ms) ≡ map symbol_of ls ++ map symbol_of ms
map_both [] ms = refl
map_both (x ∷ ls) ms = ap (λ xs. symbol_of x ∷ xs) (map_both ls ms)

pub runs_both : (ls ms : List Lexeme) → runs (ls ++ ms) ≡ run_on (runs ls) (map symbol_of ms)
runs_both ls ms = ap (run_on (Some start)) (map_both ls ms) ∙ run_on-append (Some start) (map symbol_of ls) (map symbol_of ms)

pub none_goes_on : (ss : List Symbol) (q : State) → run_on None ss ≡ Some q → ⊥
none_goes_on ss q h = cc
