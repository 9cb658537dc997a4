use Rattle.std.proofs.Common.{map, sym, ◌∙◌, subst, Global}
use Rattle.std.specs.Prelude.{string_bytes}
use Rattle.ix_words.specs.Words.{IsGrid}
use Rattle.ix_words.proofs.Grids.{grid_told}
use Rattle.ix_words.proofs.job.convert_job.Goals as goal

pub returns-clause-range : goal.returns-clause-range
returns-clause-range c =
    subst IsGrid (sym c.unwrap_or.ensures)
    (grid_told (map (string_bytes {Z = Global}) c.args.words.now) c.in_ok-options.options (sym c.options_of.ensures ∙ c.in_ok-options.was))
