use Rattle.std.proofs.Common.{◌∙◌, ap}
use Rattle.spec_space.specs.Points.{dot}
use Rattle.spec_place.specs.Transforms.{first_column, second_column, third_column}
use Rattle.spec_place.specs.Transforms.{turned_back}
use Rattle.ix_place.proofs.Sizes.{coded_dot, wider}
use Rattle.ix_place.proofs.Passed.{passed, passed_is, same_parts}
use Rattle.ix_place.proofs.Bounded.{first_column_within, second_column_within, third_column_within}
use Rattle.ix_place.proofs.matrix.turned_back.Goals as goal

pub returns-clause-within : goal.returns-clause-within
returns-clause-within c = record {
  x = coded_dot c.dot.result (first_column c.args.t.now) c.args.v.now (record { sfits = c.dot.type_inv }) (c.dot.ensures ∙ ap (λ u. dot u c.args.v.now) c.first_column.ensures) (first_column_within c.args.t.now c.requires.map) c.requires.vector tt;
  y = coded_dot c.dot-2.result (second_column c.args.t.now) c.args.v.now (record { sfits = c.dot-2.type_inv }) (c.dot-2.ensures ∙ ap (λ u. dot u c.args.v.now) c.second_column.ensures) (second_column_within c.args.t.now c.requires.map) c.requires.vector tt;
  z = coded_dot c.dot-3.result (third_column c.args.t.now) c.args.v.now (record { sfits = c.dot-3.type_inv }) (c.dot-3.ensures ∙ ap (λ u. dot u c.args.v.now) c.third_column.ensures) (third_column_within c.args.t.now c.requires.map) c.requires.vector tt;
}

pub dot-requires-clause-first : goal.dot-requires-clause-first
dot-requires-clause-first c = rw c.first_column.ensures (wider (first_column c.args.t.now) (first_column_within c.args.t.now c.requires.map) tt)

pub dot-requires-clause-second : goal.dot-requires-clause-second
dot-requires-clause-second c = wider c.args.v.now c.requires.vector tt

pub dot-requires-2-clause-first : goal.dot-requires-2-clause-first
dot-requires-2-clause-first c = rw c.second_column.ensures (wider (second_column c.args.t.now) (second_column_within c.args.t.now c.requires.map) tt)

pub dot-requires-2-clause-second : goal.dot-requires-2-clause-second
dot-requires-2-clause-second c = wider c.args.v.now c.requires.vector tt

pub dot-requires-3-clause-first : goal.dot-requires-3-clause-first
dot-requires-3-clause-first c = rw c.third_column.ensures (wider (third_column c.args.t.now) (third_column_within c.args.t.now c.requires.map) tt)

pub dot-requires-3-clause-second : goal.dot-requires-3-clause-second
dot-requires-3-clause-second c = wider c.args.v.now c.requires.vector tt

pub returns-clause-value : goal.returns-clause-value
returns-clause-value c =
    let v = c.args.v.now in
    same_parts (passed c.dot.result) (passed c.dot-2.result) (passed c.dot-3.result) (turned_back c.args.t.now v)
    (passed_is c.dot.result _ (record { sfits = c.dot.type_inv }) (c.dot.ensures ∙ ap (λ u. dot u v) c.first_column.ensures))
    (passed_is c.dot-2.result _ (record { sfits = c.dot-2.type_inv }) (c.dot-2.ensures ∙ ap (λ u. dot u v) c.second_column.ensures))
    (passed_is c.dot-3.result _ (record { sfits = c.dot-3.type_inv }) (c.dot-3.ensures ∙ ap (λ u. dot u v) c.third_column.ensures))
