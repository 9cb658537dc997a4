use Rattle.spec_space.specs.Points.{cross}
use Rattle.ix_place.proofs.Sizes.{wider, cross_within}
use Rattle.ix_place.proofs.axes.across.Goals as goal

pub divided-requires-clause-vector : goal.divided-requires-clause-vector
divided-requires-clause-vector c = rw c.cross.ensures (wider (cross c.args.u.now c.args.v.now) (cross_within c.args.u.now c.args.v.now c.requires.first c.requires.second) tt)
