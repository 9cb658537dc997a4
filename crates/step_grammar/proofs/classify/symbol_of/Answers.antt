use Rattle.std.proofs.Common.{◌≡◌, ◌-◌, List, ℕ, true, length, take, drop, arith, length-drop, sym, ◌∙◌, ap, subst}
use Rattle.std.proofs.lemmas.List.{take_all}
use Rattle.spec_step.specs.Spelling.{is_spelled}
use Rattle.spec_step.specs.declared.token.TokenKind.TheVariants.{Number}
use Rattle.step_grammar.proofs.Digits.{number_digits, FewDigits}
use Rattle.step_grammar.proofs.classify.symbol_of.Goals as goal

rest_digits : (text : List ℕ) → is_spelled Number text ≡ true → FewDigits 18 (take (length text - 1) (drop 1 text))
rest_digits text h = subst (FewDigits 18) (sym (take_all (length text - 1) (drop 1 text) (omega (arith, length-drop 1 text)))) (number_digits text h)

pub number-requires-clause-digits : goal.number-requires-clause-digits
number-requires-clause-digits c = (rest_digits c.args.text.now (ap (λ k. is_spelled k c.args.text.now) (sym c.in-Number.is) ∙ c.requires)).0

pub number-requires-clause-few : goal.number-requires-clause-few
number-requires-clause-few c = (rest_digits c.args.text.now (ap (λ k. is_spelled k c.args.text.now) (sym c.in-Number.is) ∙ c.requires)).1
