use Rattle.std.proofs.Common.{◌≡◌, ◌≢◌, false, pos, negsuc, ◌*ℤ◌, sym, ap, ◌∙◌, arith}
use Rattle.std.proofs.lemmas.Int.{to_z-of_z, ints}
use Rattle.integer_laws.proofs.Computed.{arg}
use Rattle.plane_core.proofs.Sizes.{small}
use Rattle.plane_core.proofs.Signed.{opposite, opposite_leads, coprime-neg, times_one, times_minus_one}
use Rattle.plane_core.specs.Numbers.{leads_positive}
use Rattle.plane_core.proofs.reduced.oriented.Goals as goal

one_some : pos 1 ≢ pos 0
one_some e = omega (arith, ints)

minus_some : negsuc 0 ≢ pos 0
minus_some e = omega (arith, ints)

pub returns-then-leads : goal.returns-then-leads
returns-then-leads c =
    let a_fits = c.ranges.a in
    let b_fits = c.ranges.b in
    let c_fits = c.ranges.c in
    let d_fits = c.ranges.d in
    record {
      reduction = record {
        factor = pos 1;
        some = one_some;
        times = (
          simp to_z-of_z (times_one c.args.a),
          simp to_z-of_z (times_one c.args.b),
          simp to_z-of_z (times_one c.args.c),
          simp to_z-of_z (times_one c.args.d),
        );
      };
    }

pub returns : goal.returns
returns c =
    let a = opposite (arg c.args.a c.requires.a_small tt) tt in
    let b = opposite (arg c.args.b c.requires.b_small tt) tt in
    let k = opposite (arg c.args.c c.requires.c_small tt) tt in
    let d = opposite (arg c.args.d c.requires.d_small tt) tt in
    record {
      reduction = record {
        factor = negsuc 0;
        some = minus_some;
        times = (
          times_minus_one c.args.a ∙ ap (λ x. negsuc 0 *ℤ x) (sym a.is),
          times_minus_one c.args.b ∙ ap (λ x. negsuc 0 *ℤ x) (sym b.is),
          times_minus_one c.args.c ∙ ap (λ x. negsuc 0 *ℤ x) (sym k.is),
          times_minus_one c.args.d ∙ ap (λ x. negsuc 0 *ℤ x) (sym d.is),
        );
      };
    }

pub invariant_of-result : goal.invariant_of-result
invariant_of-result c =
    let a_fits = c.ranges.a in
    let b_fits = c.ranges.b in
    let c_fits = c.ranges.c in
    let d_fits = c.ranges.d in
    record {
      a_small = simp to_z-of_z c.requires.a_small;
      b_small = simp to_z-of_z c.requires.b_small;
      c_small = simp to_z-of_z c.requires.c_small;
      d_small = simp to_z-of_z c.requires.d_small;
      coprime = simp to_z-of_z c.requires.coprime;
      signed = sym c.leads.ensures ∙ c.if-leads.true;
    }

pub invariant_of-result-2 : goal.invariant_of-result-2
invariant_of-result-2 c =
    let a_fits = c.ranges.a in
    let b_fits = c.ranges.b in
    let c_fits = c.ranges.c in
    let d_fits = c.ranges.d in
    let a = opposite (arg c.args.a c.requires.a_small tt) tt in
    let b = opposite (arg c.args.b c.requires.b_small tt) tt in
    let k = opposite (arg c.args.c c.requires.c_small tt) tt in
    let d = opposite (arg c.args.d c.requires.d_small tt) tt in
    let no : leads_positive c.args.a c.args.b c.args.c ≡ false = sym (simp to_z-of_z at c.leads.ensures) ∙ c.if-leads.false in
    record {
      a_small = small a;
      b_small = small b;
      c_small = small k;
      d_small = small d;
      coprime = rw (a.is, b.is, k.is, d.is) (coprime-neg c.args.a c.args.b c.args.c c.args.d c.requires.coprime);
      signed = rw (a.is, b.is, k.is) (opposite_leads c.args.a c.args.b c.args.c c.requires.some no);
    }
