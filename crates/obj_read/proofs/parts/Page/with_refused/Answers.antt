use Rattle.std.proofs.Common.{◌≡◌, [], ◌∷◌, ◌++◌, arith}
use Rattle.obj_file.specs.declared.item.ObjItem.TheVariants as read
use Rattle.obj_read.proofs.Grown.{counted_push, summed_push}
use Rattle.obj_read.proofs.parts.Page.with_refused.Goals as goal

pub invariant_of-result : goal.invariant_of-result
invariant_of-result c =
    let is = c.args.self.items.items in
    let i = read.Refused c.args.number c.args.why in
    let grown : c.push.new.self.items ≡ is ++ i ∷ [] = c.in_ok-push.ensures.items in
    record {
      counted = counted_push is c.push.new.self.items i grown c.args.self.counted tt;
      summed = omega (arith, c.args.self.summed, summed_push is c.push.new.self.items i grown);
    }
