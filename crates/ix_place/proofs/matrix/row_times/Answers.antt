use Rattle.std.proofs.Common.{◌∙◌, ap}
use Rattle.spec_space.specs.Points.{dot}
use Rattle.spec_place.specs.Transforms.{first_column, second_column, third_column}
use Rattle.ix_place.proofs.Sizes.{coded_dot}
use Rattle.ix_place.proofs.Bounded.{first_column_within, second_column_within, third_column_within}
use Rattle.ix_place.proofs.matrix.row_times.Goals as goal

pub returns-clause-within : goal.returns-clause-within
returns-clause-within c = record {
  x = coded_dot c.dot.result c.args.row.now (first_column c.args.t.now) (record { sfits = c.dot.type_inv }) (c.dot.ensures ∙ ap (λ v. dot c.args.row.now v) c.first_column.ensures) c.requires.row (first_column_within c.args.t.now c.requires.map) tt;
  y = coded_dot c.dot-2.result c.args.row.now (second_column c.args.t.now) (record { sfits = c.dot-2.type_inv }) (c.dot-2.ensures ∙ ap (λ v. dot c.args.row.now v) c.second_column.ensures) c.requires.row (second_column_within c.args.t.now c.requires.map) tt;
  z = coded_dot c.dot-3.result c.args.row.now (third_column c.args.t.now) (record { sfits = c.dot-3.type_inv }) (c.dot-3.ensures ∙ ap (λ v. dot c.args.row.now v) c.third_column.ensures) c.requires.row (third_column_within c.args.t.now c.requires.map) tt;
}
