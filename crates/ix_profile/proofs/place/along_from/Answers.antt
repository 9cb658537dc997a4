use Rattle.integer_laws.proofs.Computed.{arg, again, sum}
use Rattle.ix_profile.proofs.Small.{told_round}
use Rattle.ix_profile.proofs.place.along_from.Goals as goal

pub returns-clause-value : goal.returns-clause-value
returns-clause-value c =
    let first = arg c.args.first c.requires.first tt in
    let x = arg c.args.x c.requires.x tt in
    let second = arg c.args.second c.requires.second tt in
    let y = arg c.args.y c.requires.y tt in
    (again (sum (arg c.args.at c.requires.at tt) (again (told_round c.along.ensures.value c.along.ensures.within first.is x.is second.is y.is) tt)) tt).is
