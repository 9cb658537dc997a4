use Rattle.std.proofs.Common.{◌+◌, ◌∙◌, sym, ap, rules}
use Rattle.ix_words.specs.Words.{with_word}
use Rattle.ix_words.proofs.Choices.{option_more}
use Rattle.ix_words.proofs.job.options_of.Goals as goal

pub loop-at-preserved : goal.loop-at-preserved
loop-at-preserved c =
    option_more _ c.loop-at.at c.index-words-at.result c.loop-at.options c.in_ok-options.options _ (search rules) c.index-words-at.is
    (ap (with_word c.loop-at.options (c.loop-at.at + 2)) (sym c.as_str.ensures.value) ∙ sym c.with_word.ensures ∙ c.in_ok-options.was) c.loop-at.invariant
