use Rattle.std.proofs.Common.{subst, sym, ◌∙◌}
use Rattle.corner_book.specs.Corners.{AreDistinct}
use Rattle.corner_book.proofs.Same.{distinct_keys}
use Rattle.edge_cut.proofs.builder.MeshBuilder.finish.Goals as goal

pub returns-clause-distinct : goal.returns-clause-distinct
returns-clause-distinct c = subst AreDistinct (sym (c.in_ok-corners.ensures.items ∙ c.as_slice.ensures.keys)) (distinct_keys c.args.self.corners.keys c.as_slice.ensures.unique)
