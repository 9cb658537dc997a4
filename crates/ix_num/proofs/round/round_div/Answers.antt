use Rattle.std.proofs.Common.{◌<ℤ◌, ◌*ℤ◌, ◌+ℤ◌, pos, FitsSigned, arith, ℤ}
use Rattle.std.proofs.lemmas.Int.{to_z-of_z, ints}
use Rattle.ix_num.proofs.Division.{floor_low, floor_high}
use mir.Syntax.{w128}
use Rattle.ix_num.proofs.round.round_div.Goals as goal

value : goal.returns-clause-value
value c =
    let first = c.ranges.a in
    let second = c.ranges.b in
    let twice : FitsSigned w128 (pos 2 *ℤ c.args.a) = omega (arith, ints) in
    let sum : FitsSigned w128 (pos 2 *ℤ c.args.a +ℤ c.args.b) = omega (arith, ints) in
    let divisor : FitsSigned w128 (pos 2 *ℤ c.args.b) = omega (arith, ints) in
    let answer : FitsSigned w128 c.div_euclid.result = record { sfits = c.div_euclid.type_inv } in
    simp to_z-of_z (simp to_z-of_z at c.div_euclid.ensures)

pub returns-clause-value : goal.returns-clause-value
returns-clause-value = value

twice_positive : (b : ℤ) → pos 0 <ℤ b → pos 0 <ℤ (pos 2 *ℤ b)
twice_positive b h = omega (arith, ints)

pub returns-clause-low : goal.returns-clause-low
returns-clause-low c = rw (value c) (floor_low (pos 2 *ℤ c.args.a +ℤ c.args.b) (pos 2 *ℤ c.args.b) (twice_positive c.args.b c.requires.positive))

pub returns-clause-high : goal.returns-clause-high
returns-clause-high c = rw (value c) (floor_high (pos 2 *ℤ c.args.a +ℤ c.args.b) (pos 2 *ℤ c.args.b) (twice_positive c.args.b c.requires.positive))
