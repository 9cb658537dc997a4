use Rattle.ix_place.proofs.Sizes.{coded_dot}
use Rattle.ix_place.proofs.matrix.turned.Goals as goal

pub returns-clause-within : goal.returns-clause-within
returns-clause-within c = record {
  x = coded_dot c.dot.result c.args.t.now.x c.args.v.now (record { sfits = c.dot.type_inv }) c.dot.ensures c.requires.map.x c.requires.vector tt;
  y = coded_dot c.dot-2.result c.args.t.now.y c.args.v.now (record { sfits = c.dot-2.type_inv }) c.dot-2.ensures c.requires.map.y c.requires.vector tt;
  z = coded_dot c.dot-3.result c.args.t.now.z c.args.v.now (record { sfits = c.dot-3.type_inv }) c.dot-3.ensures c.requires.map.z c.requires.vector tt;
}
