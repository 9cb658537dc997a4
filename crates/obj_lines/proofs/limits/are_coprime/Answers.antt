use Rattle.std.proofs.Common.{unsigned_abs, FitsSigned}
use Rattle.std.specs.Int.{IsGcd}
use Rattle.std.proofs.lemmas.Int.{to_z-of_z}
use mir.Syntax.{w128}
use Rattle.obj_lines.proofs.Reduced.{coprime_by_one, one_by_coprime, one_is, one_tells}
use Rattle.obj_lines.proofs.limits.are_coprime.Goals as goal

pub returns : goal.returns
returns c =
    let a = c.args.a in
    let b = c.args.b in
    let p = c.args.c in
    let q = c.args.d in
    let g = unsigned_abs c.gcd.result in
    let h = unsigned_abs c.gcd-2.result in
    let k = unsigned_abs c.gcd-3.result in
    let first : IsGcd (unsigned_abs a) (unsigned_abs b) g = rw (to_z-of_z w128 a c.ranges.a, to_z-of_z w128 b c.ranges.b) at c.gcd.ensures.divisor in
    let second : IsGcd (unsigned_abs p) (unsigned_abs q) h = rw (to_z-of_z w128 p c.ranges.c, to_z-of_z w128 q c.ranges.d) at c.gcd-2.ensures.divisor in
    let fits_g : FitsSigned w128 c.gcd.result = record { sfits = c.gcd.type_inv } in
    let fits_h : FitsSigned w128 c.gcd-2.result = record { sfits = c.gcd-2.type_inv } in
    let third : IsGcd g h k = rw (to_z-of_z w128 c.gcd.result fits_g, to_z-of_z w128 c.gcd-2.result fits_h) at c.gcd-3.ensures.divisor in
    (λ t. coprime_by_one a b p q g h k first second third (one_is c.gcd-3.result c.gcd-3.ensures.sign t), λ coprime. one_tells c.gcd-3.result c.gcd-3.ensures.sign (one_by_coprime a b p q g h k first second third coprime))
