use Rattle.exact_mesh.proofs.Sizes.{cross_within}
use Rattle.exact_mesh.proofs.vectors.triple_product.Goals as goal

pub dot-requires-clause-second : goal.dot-requires-clause-second
dot-requires-clause-second c = rw c.cross.ensures (cross_within c.args.second.now c.args.third.now c.requires.second c.requires.third)
