use Rattle.std.proofs.Common.{rules, ◌≡◌, true, sym, ◌∙◌, ap}
use Rattle.ix_words.specs.Words.{is_numeral}
use Rattle.ix_words.proofs.Numerals.{number_read}
use Rattle.ix_words.proofs.numbers.number.Goals as goal

pub returns-then-is_numeral : goal.returns-then-is_numeral
returns-then-is_numeral c =
    let numeral : is_numeral c.args.text.now ≡ true = ap is_numeral (sym c.as_bytes.ensures.value) ∙ sym c.is_numeral.ensures ∙ c.if-is_numeral.true in
    let read = number_read c.args.text.now c.parse.result c.parse.ensures.value.0 numeral in
    search rules
