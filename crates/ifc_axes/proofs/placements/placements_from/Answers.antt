use Rattle.std.proofs.Common.{◌≡◌, length, arith}
use Rattle.ifc_axes.proofs.Upwards.{refused, goes_on, fewer, all_found, too_deep, one_more_simple}
use Rattle.ifc_axes.proofs.placements.placements_from.Goals as goal

pub returns-then-len-eq64-clause-value : goal.returns-then-len-eq64-clause-value
returns-then-len-eq64-clause-value c =
    let counted : c.len.result ≡ length c.loop-parent.found.items = omega (arith, c.len.ensures, c.loop-parent.found.ok.0) in
    too_deep c.args.table.now _ c.in-Some.number c.len.result c.loop-parent.parent c.loop-parent.found.items
    counted c.if-len-eq64.true c.in-Some.is c.loop-parent.invariant.rest

pub returns-in-Err-clause-value : goal.returns-in-Err-clause-value
returns-in-Err-clause-value c =
    let counted : c.len.result ≡ length c.loop-parent.found.items = omega (arith, c.len.ensures, c.loop-parent.found.ok.0) in
    refused c.args.table.now _ c.in-Some.number c.len.result c.loop-parent.parent c.loop-parent.found.items c.in-Err.refusal
    counted c.if-len-eq64.false c.loop-parent.invariant.few c.in-Some.is c.loop-parent.invariant.rest c.in-Err.ensures.value

pub loop-parent-preserved : goal.loop-parent-preserved
loop-parent-preserved c =
    let counted : c.len.result ≡ length c.loop-parent.found.items = omega (arith, c.len.ensures, c.loop-parent.found.ok.0) in
    record {
      few = fewer c.len.result c.in-Ok.read.0 c.loop-parent.found.items c.push.new.self.items counted c.if-len-eq64.false c.loop-parent.invariant.few c.in-Ok-push.ensures.items;
      simple = one_more_simple c.args.table.now c.in-Ok.read.0 c.loop-parent.found.items c.push.new.self.items c.in-Ok-push.ensures.items c.loop-parent.invariant.simple c.in-Ok.ensures.simple;
      rest = goes_on c.args.table.now _ c.in-Some.number c.len.result c.loop-parent.parent c.loop-parent.found.items c.push.new.self.items c.in-Ok.read
          counted c.if-len-eq64.false c.loop-parent.invariant.few c.in-Some.is c.loop-parent.invariant.rest c.in-Ok.ensures.value c.in-Ok-push.ensures.items;
    }

pub returns-clause-value : goal.returns-clause-value
returns-clause-value c = all_found c.args.table.now _ _ c.loop-parent.parent c.loop-parent.found.items c.in_default.is c.loop-parent.invariant.rest
