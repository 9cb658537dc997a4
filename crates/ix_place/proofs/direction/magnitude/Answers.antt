use Rattle.std.proofs.Common.{◌≡◌, ℤ, pos, negsuc, ◌+ℤ◌, ◌*ℤ◌, ◌≤ℤ◌, ◌^◌, unsigned_abs, FitsSigned, to_z, of_z, ap, ◌∙◌, arith, subst, sym}
use Rattle.std.proofs.lemmas.Int.{ints, to_z-of_z}
use mir.Syntax.{w128}
use Rattle.spec_space.specs.declared.Vector.{Vector}
use Rattle.spec_space.specs.Points.{dot}
use Rattle.spec_place.specs.Vectors.{IsWithin}
use Rattle.spec_num.specs.Roots.{whole_root}
use Rattle.ix_place.proofs.Sizes.{wider, square_bound}
use Rattle.ix_place.proofs.Passed.{passed_is}
use Rattle.ix_place.proofs.direction.magnitude.Goals as goal

-- the same of the numbers that the code has at hand
root_small : (v : Vector) (r d : ℤ) → FitsSigned w128 r → FitsSigned w128 d → IsWithin (10 ^ 18) v → d ≡ dot v v → (r *ℤ r) ≤ℤ to_z w128 (of_z w128 d) → to_z w128 (of_z w128 r) ≤ℤ pos (2 ^ 62)
root_small v r d fits_root fits_dot h is low =
    simp to_z-of_z (square_bound v r h (rw (← is) (simp to_z-of_z at low)))

pub returns-clause-small : goal.returns-clause-small
returns-clause-small c =
    root_small c.args.v.now c.whole_root.result c.dot.result (record { sfits = c.whole_root.type_inv }) (record { sfits = c.dot.type_inv }) c.requires.small c.dot.ensures c.whole_root.ensures.low

pub dot-requires-clause-first : goal.dot-requires-clause-first
dot-requires-clause-first c = wider c.args.v.now c.requires.small tt

pub dot-requires-clause-second : goal.dot-requires-clause-second
dot-requires-clause-second c = wider c.args.v.now c.requires.small tt

pub returns-clause-value : goal.returns-clause-value
returns-clause-value c =
    passed_is c.whole_root.result _ (record { sfits = c.whole_root.type_inv })
    (c.whole_root.ensures.value ∙ ap (λ d. pos (whole_root (unsigned_abs d))) (passed_is c.dot.result _ (record { sfits = c.dot.type_inv }) c.dot.ensures))

square : (a : ℤ) → pos 0 ≤ℤ (a *ℤ a)
square (pos k) = omega (arith, ints)
square (negsuc k) = omega (arith, ints)

squares : (x y z : ℤ) → pos 0 ≤ℤ (x *ℤ x +ℤ y *ℤ y +ℤ z *ℤ z)
squares x y z = let p = square x in let q = square y in let r = square z in omega (arith, ints, p, q, r)

pub whole_root-requires : goal.whole_root-requires
whole_root-requires c =
    let v = c.args.v.now in
    subst (λ d. pos 0 ≤ℤ d) (sym (passed_is c.dot.result (dot v v) (record { sfits = c.dot.type_inv }) c.dot.ensures)) (squares v.x v.y v.z)
