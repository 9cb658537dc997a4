use Rattle.std.proofs.Common.{◌≡◌, [], ◌∷◌, ◌++◌, length, ap, arith, rules, ◌∙◌}
use Rattle.world_print.specs.Elements.{page_corners}
use Rattle.obj_file.specs.declared.item.ObjItem.TheVariants as read
use Rattle.obj_read.proofs.Grown.{counted_push, summed_push, length-page_corners}
use Rattle.obj_read.proofs.parts.Page.with_element.Goals as goal

pub invariant_of-result : goal.invariant_of-result
invariant_of-result c =
    let is = c.args.self.items.items in
    let e = c.element.result in
    let i = read.Printed e in
    let grown : c.push.new.self.items ≡ is ++ i ∷ [] = c.in_ok-push.ensures.items in
    let some : length (page_corners e.corners.items e.printed.items) ≡ length e.corners.items = length-page_corners e.corners.items e.printed.items e.paired in
    let kept : length e.corners.items ≡ length c.args.block.corners.items = ap (λ v. length v.items) c.element.ensures.corners in
    let new : c.len.result ≡ length c.args.block.corners.items = search rules in
    record {
      counted = counted_push is c.push.new.self.items i grown c.args.self.counted (c.element.ensures.before ∙ c.args.self.summed, tt);
      summed = omega (arith, some, kept, new, c.args.self.summed, summed_push is c.push.new.self.items i grown);
    }
