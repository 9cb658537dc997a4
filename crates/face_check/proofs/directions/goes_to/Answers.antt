use Rattle.std.proofs.Common.{ap, ◌∙◌, pos, int_lt, ◌*ℤ◌}
use Rattle.std.proofs.lemmas.Int.{to_z-of_z}
use Rattle.std.specs.declared.cmp.Ordering.TheVariants.{Less, Equal, Greater}
use mir.Syntax.{w128}
use Rattle.face_check.proofs.Ways.{passed, to_less, to_equal, to_greater}
use Rattle.face_check.proofs.directions.goes_to.Goals as goal

pub returns-in-Less : goal.returns-in-Less
returns-in-Less c =
    ap (λ s. int_lt s (pos 0)) (to_z-of_z w128 c.args.side c.ranges.side) ∙ to_less c.args.side (c.args.to *ℤ c.args.from_weight) (c.args.from *ℤ c.args.to_weight)
    (passed Less c.args.to c.args.to_weight c.args.from c.args.from_weight _ _ _ _ (to_z-of_z w128 c.args.to c.ranges.to) (to_z-of_z w128 c.args.to_weight c.ranges.to_weight)
    (to_z-of_z w128 c.args.from c.ranges.from) (to_z-of_z w128 c.args.from_weight c.ranges.from_weight) c.in-Less.ensures)

pub returns-in-Equal : goal.returns-in-Equal
returns-in-Equal c =
    to_equal c.args.side (c.args.to *ℤ c.args.from_weight) (c.args.from *ℤ c.args.to_weight)
    (passed Equal c.args.to c.args.to_weight c.args.from c.args.from_weight _ _ _ _ (to_z-of_z w128 c.args.to c.ranges.to) (to_z-of_z w128 c.args.to_weight c.ranges.to_weight)
    (to_z-of_z w128 c.args.from c.ranges.from) (to_z-of_z w128 c.args.from_weight c.ranges.from_weight) c.in-Equal.ensures)

pub returns-in-Greater : goal.returns-in-Greater
returns-in-Greater c =
    ap (λ s. int_lt (pos 0) s) (to_z-of_z w128 c.args.side c.ranges.side) ∙ to_greater c.args.side (c.args.to *ℤ c.args.from_weight) (c.args.from *ℤ c.args.to_weight)
    (passed Greater c.args.to c.args.to_weight c.args.from c.args.from_weight _ _ _ _ (to_z-of_z w128 c.args.to c.ranges.to) (to_z-of_z w128 c.args.to_weight c.ranges.to_weight)
    (to_z-of_z w128 c.args.from c.ranges.from) (to_z-of_z w128 c.args.from_weight c.ranges.from_weight) c.in-Greater.ensures)
