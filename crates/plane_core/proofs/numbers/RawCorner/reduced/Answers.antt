use Rattle.std.proofs.Common.{FitsSigned, le_trans, ◌*◌, ◌^◌, arith}
use Rattle.integer_laws.proofs.Sizes.{fits_by_size}
use Rattle.std.proofs.lemmas.Int.{to_z-of_z}
use mir.Syntax.{w128}
use Rattle.plane_core.proofs.Divisors.{gcd_positive, smaller, coprime_left}
use Rattle.integer_laws.proofs.Cancel.{positive_right}
use Rattle.plane_core.proofs.numbers.RawCorner.reduced.Goals as goal

pub quotient-requires-clause-positive : goal.quotient-requires-clause-positive
quotient-requires-clause-positive c =
    let x_fits : FitsSigned w128 c.args.self.now.x = fits_by_size c.args.self.now.x (6 * 2 ^ 96) c.args.self.now.x_small (omega arith) in
    let y_fits : FitsSigned w128 c.args.self.now.y = fits_by_size c.args.self.now.y (6 * 2 ^ 96) c.args.self.now.y_small (omega arith) in
    let z_fits : FitsSigned w128 c.args.self.now.z = fits_by_size c.args.self.now.z (6 * 2 ^ 96) c.args.self.now.z_small (omega arith) in
    let w_fits : FitsSigned w128 c.args.self.now.w = fits_by_size c.args.self.now.w (6 * 2 ^ 78) c.args.self.now.w_small (omega arith) in
    let g_fits : FitsSigned w128 c.common_divisor-divisor.result = record { sfits = c.common_divisor-divisor.type_inv } in
    let gcd = simp to_z-of_z at c.common_divisor-divisor.ensures.divisor in
    let some = gcd_positive c.args.self.now.x c.args.self.now.y c.args.self.now.z c.args.self.now.w c.common_divisor-divisor.result c.common_divisor-divisor.ensures.sign c.args.self.now.positive gcd in
    simp to_z-of_z some

pub quotient-requires-clause-divides : goal.quotient-requires-clause-divides
quotient-requires-clause-divides c =
    let x_fits : FitsSigned w128 c.args.self.now.x = fits_by_size c.args.self.now.x (6 * 2 ^ 96) c.args.self.now.x_small (omega arith) in
    let y_fits : FitsSigned w128 c.args.self.now.y = fits_by_size c.args.self.now.y (6 * 2 ^ 96) c.args.self.now.y_small (omega arith) in
    let z_fits : FitsSigned w128 c.args.self.now.z = fits_by_size c.args.self.now.z (6 * 2 ^ 96) c.args.self.now.z_small (omega arith) in
    let w_fits : FitsSigned w128 c.args.self.now.w = fits_by_size c.args.self.now.w (6 * 2 ^ 78) c.args.self.now.w_small (omega arith) in
    let g_fits : FitsSigned w128 c.common_divisor-divisor.result = record { sfits = c.common_divisor-divisor.type_inv } in
    let gcd = simp to_z-of_z at c.common_divisor-divisor.ensures.divisor in
    let some = gcd_positive c.args.self.now.x c.args.self.now.y c.args.self.now.z c.args.self.now.w c.common_divisor-divisor.result c.common_divisor-divisor.ensures.sign c.args.self.now.positive gcd in
    simp to_z-of_z gcd.divides_a

pub quotient-requires-2-clause-positive : goal.quotient-requires-2-clause-positive
quotient-requires-2-clause-positive c =
    let x_fits : FitsSigned w128 c.args.self.now.x = fits_by_size c.args.self.now.x (6 * 2 ^ 96) c.args.self.now.x_small (omega arith) in
    let y_fits : FitsSigned w128 c.args.self.now.y = fits_by_size c.args.self.now.y (6 * 2 ^ 96) c.args.self.now.y_small (omega arith) in
    let z_fits : FitsSigned w128 c.args.self.now.z = fits_by_size c.args.self.now.z (6 * 2 ^ 96) c.args.self.now.z_small (omega arith) in
    let w_fits : FitsSigned w128 c.args.self.now.w = fits_by_size c.args.self.now.w (6 * 2 ^ 78) c.args.self.now.w_small (omega arith) in
    let g_fits : FitsSigned w128 c.common_divisor-divisor.result = record { sfits = c.common_divisor-divisor.type_inv } in
    let gcd = simp to_z-of_z at c.common_divisor-divisor.ensures.divisor in
    let some = gcd_positive c.args.self.now.x c.args.self.now.y c.args.self.now.z c.args.self.now.w c.common_divisor-divisor.result c.common_divisor-divisor.ensures.sign c.args.self.now.positive gcd in
    simp to_z-of_z some

pub quotient-requires-2-clause-divides : goal.quotient-requires-2-clause-divides
quotient-requires-2-clause-divides c =
    let x_fits : FitsSigned w128 c.args.self.now.x = fits_by_size c.args.self.now.x (6 * 2 ^ 96) c.args.self.now.x_small (omega arith) in
    let y_fits : FitsSigned w128 c.args.self.now.y = fits_by_size c.args.self.now.y (6 * 2 ^ 96) c.args.self.now.y_small (omega arith) in
    let z_fits : FitsSigned w128 c.args.self.now.z = fits_by_size c.args.self.now.z (6 * 2 ^ 96) c.args.self.now.z_small (omega arith) in
    let w_fits : FitsSigned w128 c.args.self.now.w = fits_by_size c.args.self.now.w (6 * 2 ^ 78) c.args.self.now.w_small (omega arith) in
    let g_fits : FitsSigned w128 c.common_divisor-divisor.result = record { sfits = c.common_divisor-divisor.type_inv } in
    let gcd = simp to_z-of_z at c.common_divisor-divisor.ensures.divisor in
    let some = gcd_positive c.args.self.now.x c.args.self.now.y c.args.self.now.z c.args.self.now.w c.common_divisor-divisor.result c.common_divisor-divisor.ensures.sign c.args.self.now.positive gcd in
    simp to_z-of_z gcd.divides_b

pub quotient-requires-3-clause-positive : goal.quotient-requires-3-clause-positive
quotient-requires-3-clause-positive c =
    let x_fits : FitsSigned w128 c.args.self.now.x = fits_by_size c.args.self.now.x (6 * 2 ^ 96) c.args.self.now.x_small (omega arith) in
    let y_fits : FitsSigned w128 c.args.self.now.y = fits_by_size c.args.self.now.y (6 * 2 ^ 96) c.args.self.now.y_small (omega arith) in
    let z_fits : FitsSigned w128 c.args.self.now.z = fits_by_size c.args.self.now.z (6 * 2 ^ 96) c.args.self.now.z_small (omega arith) in
    let w_fits : FitsSigned w128 c.args.self.now.w = fits_by_size c.args.self.now.w (6 * 2 ^ 78) c.args.self.now.w_small (omega arith) in
    let g_fits : FitsSigned w128 c.common_divisor-divisor.result = record { sfits = c.common_divisor-divisor.type_inv } in
    let gcd = simp to_z-of_z at c.common_divisor-divisor.ensures.divisor in
    let some = gcd_positive c.args.self.now.x c.args.self.now.y c.args.self.now.z c.args.self.now.w c.common_divisor-divisor.result c.common_divisor-divisor.ensures.sign c.args.self.now.positive gcd in
    simp to_z-of_z some

pub quotient-requires-3-clause-divides : goal.quotient-requires-3-clause-divides
quotient-requires-3-clause-divides c =
    let x_fits : FitsSigned w128 c.args.self.now.x = fits_by_size c.args.self.now.x (6 * 2 ^ 96) c.args.self.now.x_small (omega arith) in
    let y_fits : FitsSigned w128 c.args.self.now.y = fits_by_size c.args.self.now.y (6 * 2 ^ 96) c.args.self.now.y_small (omega arith) in
    let z_fits : FitsSigned w128 c.args.self.now.z = fits_by_size c.args.self.now.z (6 * 2 ^ 96) c.args.self.now.z_small (omega arith) in
    let w_fits : FitsSigned w128 c.args.self.now.w = fits_by_size c.args.self.now.w (6 * 2 ^ 78) c.args.self.now.w_small (omega arith) in
    let g_fits : FitsSigned w128 c.common_divisor-divisor.result = record { sfits = c.common_divisor-divisor.type_inv } in
    let gcd = simp to_z-of_z at c.common_divisor-divisor.ensures.divisor in
    let some = gcd_positive c.args.self.now.x c.args.self.now.y c.args.self.now.z c.args.self.now.w c.common_divisor-divisor.result c.common_divisor-divisor.ensures.sign c.args.self.now.positive gcd in
    simp to_z-of_z gcd.divides_c

pub quotient-requires-4-clause-positive : goal.quotient-requires-4-clause-positive
quotient-requires-4-clause-positive c =
    let x_fits : FitsSigned w128 c.args.self.now.x = fits_by_size c.args.self.now.x (6 * 2 ^ 96) c.args.self.now.x_small (omega arith) in
    let y_fits : FitsSigned w128 c.args.self.now.y = fits_by_size c.args.self.now.y (6 * 2 ^ 96) c.args.self.now.y_small (omega arith) in
    let z_fits : FitsSigned w128 c.args.self.now.z = fits_by_size c.args.self.now.z (6 * 2 ^ 96) c.args.self.now.z_small (omega arith) in
    let w_fits : FitsSigned w128 c.args.self.now.w = fits_by_size c.args.self.now.w (6 * 2 ^ 78) c.args.self.now.w_small (omega arith) in
    let g_fits : FitsSigned w128 c.common_divisor-divisor.result = record { sfits = c.common_divisor-divisor.type_inv } in
    let gcd = simp to_z-of_z at c.common_divisor-divisor.ensures.divisor in
    let some = gcd_positive c.args.self.now.x c.args.self.now.y c.args.self.now.z c.args.self.now.w c.common_divisor-divisor.result c.common_divisor-divisor.ensures.sign c.args.self.now.positive gcd in
    simp to_z-of_z some

pub quotient-requires-4-clause-divides : goal.quotient-requires-4-clause-divides
quotient-requires-4-clause-divides c =
    let x_fits : FitsSigned w128 c.args.self.now.x = fits_by_size c.args.self.now.x (6 * 2 ^ 96) c.args.self.now.x_small (omega arith) in
    let y_fits : FitsSigned w128 c.args.self.now.y = fits_by_size c.args.self.now.y (6 * 2 ^ 96) c.args.self.now.y_small (omega arith) in
    let z_fits : FitsSigned w128 c.args.self.now.z = fits_by_size c.args.self.now.z (6 * 2 ^ 96) c.args.self.now.z_small (omega arith) in
    let w_fits : FitsSigned w128 c.args.self.now.w = fits_by_size c.args.self.now.w (6 * 2 ^ 78) c.args.self.now.w_small (omega arith) in
    let g_fits : FitsSigned w128 c.common_divisor-divisor.result = record { sfits = c.common_divisor-divisor.type_inv } in
    let gcd = simp to_z-of_z at c.common_divisor-divisor.ensures.divisor in
    let some = gcd_positive c.args.self.now.x c.args.self.now.y c.args.self.now.z c.args.self.now.w c.common_divisor-divisor.result c.common_divisor-divisor.ensures.sign c.args.self.now.positive gcd in
    simp to_z-of_z gcd.divides_d

pub invariant_of-result : goal.invariant_of-result
invariant_of-result c =
    let x_fits : FitsSigned w128 c.args.self.now.x = fits_by_size c.args.self.now.x (6 * 2 ^ 96) c.args.self.now.x_small (omega arith) in
    let y_fits : FitsSigned w128 c.args.self.now.y = fits_by_size c.args.self.now.y (6 * 2 ^ 96) c.args.self.now.y_small (omega arith) in
    let z_fits : FitsSigned w128 c.args.self.now.z = fits_by_size c.args.self.now.z (6 * 2 ^ 96) c.args.self.now.z_small (omega arith) in
    let w_fits : FitsSigned w128 c.args.self.now.w = fits_by_size c.args.self.now.w (6 * 2 ^ 78) c.args.self.now.w_small (omega arith) in
    let g_fits : FitsSigned w128 c.common_divisor-divisor.result = record { sfits = c.common_divisor-divisor.type_inv } in
    let gcd = simp to_z-of_z at c.common_divisor-divisor.ensures.divisor in
    let some = gcd_positive c.args.self.now.x c.args.self.now.y c.args.self.now.z c.args.self.now.w c.common_divisor-divisor.result c.common_divisor-divisor.ensures.sign c.args.self.now.positive gcd in
    let x_quotient_fits : FitsSigned w128 c.quotient.result = record { sfits = c.quotient.type_inv } in
    let x_is = simp to_z-of_z at c.quotient.ensures.value in
    let y_quotient_fits : FitsSigned w128 c.quotient-2.result = record { sfits = c.quotient-2.type_inv } in
    let y_is = simp to_z-of_z at c.quotient-2.ensures.value in
    let z_quotient_fits : FitsSigned w128 c.quotient-3.result = record { sfits = c.quotient-3.type_inv } in
    let z_is = simp to_z-of_z at c.quotient-3.ensures.value in
    let w_quotient_fits : FitsSigned w128 c.quotient-4.result = record { sfits = c.quotient-4.type_inv } in
    let w_is = simp to_z-of_z at c.quotient-4.ensures.value in
    record {
      x_small = simp to_z-of_z (le_trans (smaller c.args.self.now.x _ c.quotient.result some x_is) c.args.self.now.x_small);
      y_small = simp to_z-of_z (le_trans (smaller c.args.self.now.y _ c.quotient-2.result some y_is) c.args.self.now.y_small);
      z_small = simp to_z-of_z (le_trans (smaller c.args.self.now.z _ c.quotient-3.result some z_is) c.args.self.now.z_small);
      w_small = simp to_z-of_z (le_trans (smaller c.args.self.now.w _ c.quotient-4.result some w_is) c.args.self.now.w_small);
      positive = simp to_z-of_z (positive_right c.common_divisor-divisor.result c.quotient-4.result some (rw w_is at c.args.self.now.positive));
      coprime = simp to_z-of_z (coprime_left _ _ _ _ c.common_divisor-divisor.result c.quotient.result c.quotient-2.result c.quotient-3.result c.quotient-4.result some gcd x_is y_is z_is w_is);
    }

pub returns : goal.returns
returns c =
    let x_fits : FitsSigned w128 c.args.self.now.x = fits_by_size c.args.self.now.x (6 * 2 ^ 96) c.args.self.now.x_small (omega arith) in
    let y_fits : FitsSigned w128 c.args.self.now.y = fits_by_size c.args.self.now.y (6 * 2 ^ 96) c.args.self.now.y_small (omega arith) in
    let z_fits : FitsSigned w128 c.args.self.now.z = fits_by_size c.args.self.now.z (6 * 2 ^ 96) c.args.self.now.z_small (omega arith) in
    let w_fits : FitsSigned w128 c.args.self.now.w = fits_by_size c.args.self.now.w (6 * 2 ^ 78) c.args.self.now.w_small (omega arith) in
    let g_fits : FitsSigned w128 c.common_divisor-divisor.result = record { sfits = c.common_divisor-divisor.type_inv } in
    let gcd = simp to_z-of_z at c.common_divisor-divisor.ensures.divisor in
    let some = gcd_positive c.args.self.now.x c.args.self.now.y c.args.self.now.z c.args.self.now.w c.common_divisor-divisor.result c.common_divisor-divisor.ensures.sign c.args.self.now.positive gcd in
    let x_quotient_fits : FitsSigned w128 c.quotient.result = record { sfits = c.quotient.type_inv } in
    let x_is = simp to_z-of_z at c.quotient.ensures.value in
    let y_quotient_fits : FitsSigned w128 c.quotient-2.result = record { sfits = c.quotient-2.type_inv } in
    let y_is = simp to_z-of_z at c.quotient-2.ensures.value in
    let z_quotient_fits : FitsSigned w128 c.quotient-3.result = record { sfits = c.quotient-3.type_inv } in
    let z_is = simp to_z-of_z at c.quotient-3.ensures.value in
    let w_quotient_fits : FitsSigned w128 c.quotient-4.result = record { sfits = c.quotient-4.type_inv } in
    let w_is = simp to_z-of_z at c.quotient-4.ensures.value in
    record {
      same = record {
        factor = c.common_divisor-divisor.result;
        positive = some;
        x_is = simp to_z-of_z x_is;
        y_is = simp to_z-of_z y_is;
        z_is = simp to_z-of_z z_is;
        w_is = simp to_z-of_z w_is;
      };
    }
