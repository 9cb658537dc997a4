use Rattle.std.proofs.Common.{◌≡◌, ◌∙◌, sym, ap}
use Rattle.std.specs.Option.{option_copied}
use Rattle.ix_profile.proofs.Threes.{has_three_none, three_found}
use Rattle.ix_profile.proofs.curve.has_three.Goals as goal

pub returns-in_default-other_than : goal.returns-in_default-other_than
returns-in_default-other_than c = sym (has_three_none _ c.args.points.now (sym c.other_than.ensures ∙ ap option_copied c.in_default-other_than.is))

pub returns : goal.returns
returns c =
    c.is_some.ensures
    ∙ three_found c.args.points.now _ c.in-Some.second.now c.other_than-2.result c.in-len1-up.len_at_least (sym c.other_than.ensures ∙ ap option_copied c.in-Some.is) c.other_than-2.ensures
