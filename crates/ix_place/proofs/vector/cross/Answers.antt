use Rattle.spec_space.specs.Points.{cross}
use Rattle.ix_place.proofs.Passed.{passed, passed_within, minor_is, same_parts}
use Rattle.ix_place.proofs.vector.cross.Goals as goal

pub minor-requires-clause-a : goal.minor-requires-clause-a
minor-requires-clause-a c = passed_within c.args.u.now.y c.requires.first.y tt tt

pub minor-requires-clause-b : goal.minor-requires-clause-b
minor-requires-clause-b c = passed_within c.args.v.now.z c.requires.second.z tt tt

pub minor-requires-clause-c : goal.minor-requires-clause-c
minor-requires-clause-c c = passed_within c.args.u.now.z c.requires.first.z tt tt

pub minor-requires-clause-d : goal.minor-requires-clause-d
minor-requires-clause-d c = passed_within c.args.v.now.y c.requires.second.y tt tt

pub minor-requires-2-clause-a : goal.minor-requires-2-clause-a
minor-requires-2-clause-a c = passed_within c.args.u.now.z c.requires.first.z tt tt

pub minor-requires-2-clause-b : goal.minor-requires-2-clause-b
minor-requires-2-clause-b c = passed_within c.args.v.now.x c.requires.second.x tt tt

pub minor-requires-2-clause-c : goal.minor-requires-2-clause-c
minor-requires-2-clause-c c = passed_within c.args.u.now.x c.requires.first.x tt tt

pub minor-requires-2-clause-d : goal.minor-requires-2-clause-d
minor-requires-2-clause-d c = passed_within c.args.v.now.z c.requires.second.z tt tt

pub minor-requires-3-clause-a : goal.minor-requires-3-clause-a
minor-requires-3-clause-a c = passed_within c.args.u.now.x c.requires.first.x tt tt

pub minor-requires-3-clause-b : goal.minor-requires-3-clause-b
minor-requires-3-clause-b c = passed_within c.args.v.now.y c.requires.second.y tt tt

pub minor-requires-3-clause-c : goal.minor-requires-3-clause-c
minor-requires-3-clause-c c = passed_within c.args.u.now.y c.requires.first.y tt tt

pub minor-requires-3-clause-d : goal.minor-requires-3-clause-d
minor-requires-3-clause-d c = passed_within c.args.v.now.x c.requires.second.x tt tt

pub returns : goal.returns
returns c =
    let u = c.args.u.now in
    let v = c.args.v.now in
    let p = c.requires.first in
    let q = c.requires.second in
    same_parts (passed c.minor.result) (passed c.minor-2.result) (passed c.minor-3.result) (cross u v)
    (minor_is u.y v.z u.z v.y c.minor.result p.y q.z p.z q.y c.minor.ensures)
    (minor_is u.z v.x u.x v.z c.minor-2.result p.z q.x p.x q.z c.minor-2.ensures)
    (minor_is u.x v.y u.y v.x c.minor-3.result p.x q.y p.y q.x c.minor-3.ensures)
