use Rattle.std.proofs.Common.{◌<◌, ◌^◌, rules}
use Rattle.std.proofs.lemmas.Int.{to_z_pos, to_z-of_z}
use mir.Syntax.{w128}
use Rattle.ix_num.proofs.divisor.gcd.Goals as goal

pub returns-clause-divisor : goal.returns-clause-divisor
returns-clause-divisor c =
    let first = c.ranges.a in
    let second = c.ranges.b in
    let small : c.gcd_of_sizes.result < 2 ^ 127 = search rules in
    simp (to_z_pos w128 c.gcd_of_sizes.result small)
    (simp to_z-of_z at (simp (c.unsigned_abs.ensures.value, c.unsigned_abs-2.ensures.value) at c.gcd_of_sizes.ensures.divisor))
