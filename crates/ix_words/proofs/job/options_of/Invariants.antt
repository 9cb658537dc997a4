use Rattle.std.proofs.Common.{◌≡◌, ◌+◌, map, drop}
use Rattle.std.specs.Prelude.{string_bytes}
use Rattle.ix_words.specs.Words.{no_options, with_words}
use Rattle.ix_words.proofs.job.options_of.Given as goal

-- the options that were read, with the words that are still to come, are those of all words
abbrev pub invariant-loop-at : goal.invariant-loop-at
invariant-loop-at l = with_words l.options (l.at + 2) (map string_bytes (drop l.at l.words)) ≡ with_words no_options 2 (map string_bytes l.fn.words)
