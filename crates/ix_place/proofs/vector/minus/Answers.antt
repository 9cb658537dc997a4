use Rattle.spec_space.specs.Points.{minus}
use Rattle.ix_place.proofs.Passed.{passed, passed_within, difference_is, same_parts}
use Rattle.ix_place.proofs.vector.minus.Goals as goal

pub subtract-requires-clause-first : goal.subtract-requires-clause-first
subtract-requires-clause-first c = passed_within c.args.u.now.x c.requires.first.x tt tt

pub subtract-requires-clause-second : goal.subtract-requires-clause-second
subtract-requires-clause-second c = passed_within c.args.v.now.x c.requires.second.x tt tt

pub subtract-requires-2-clause-first : goal.subtract-requires-2-clause-first
subtract-requires-2-clause-first c = passed_within c.args.u.now.y c.requires.first.y tt tt

pub subtract-requires-2-clause-second : goal.subtract-requires-2-clause-second
subtract-requires-2-clause-second c = passed_within c.args.v.now.y c.requires.second.y tt tt

pub subtract-requires-3-clause-first : goal.subtract-requires-3-clause-first
subtract-requires-3-clause-first c = passed_within c.args.u.now.z c.requires.first.z tt tt

pub subtract-requires-3-clause-second : goal.subtract-requires-3-clause-second
subtract-requires-3-clause-second c = passed_within c.args.v.now.z c.requires.second.z tt tt

pub returns : goal.returns
returns c =
    let u = c.args.u.now in
    let v = c.args.v.now in
    same_parts (passed c.subtract.result) (passed c.subtract-2.result) (passed c.subtract-3.result) (minus u v)
    (difference_is u.x v.x c.subtract.result c.requires.first.x c.requires.second.x c.subtract.ensures)
    (difference_is u.y v.y c.subtract-2.result c.requires.first.y c.requires.second.y c.subtract-2.ensures)
    (difference_is u.z v.z c.subtract-3.result c.requires.first.z c.requires.second.z c.subtract-3.ensures)
