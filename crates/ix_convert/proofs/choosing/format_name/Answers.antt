use Rattle.std.proofs.Common.{rules, ap, ◌∙◌, codes}
use Rattle.ix_words.specs.Words.{behind}
use Rattle.ix_convert.proofs.Named.{name_here, name_past}
use Rattle.ix_convert.proofs.choosing.format_name.Goals as goal

pub returns : goal.returns
returns c =
    name_here c.args.words.now c.args.format c.index-words-format.result _ c.requires (search rules) c.index-words-format.is
    (c.name_in.ensures ∙ ap (behind (codes "--format=")) c.as_str.ensures.value)
