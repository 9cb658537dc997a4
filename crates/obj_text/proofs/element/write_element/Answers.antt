use Rattle.std.proofs.Common.{◌≡◌, ◌++◌, subst}
use Rattle.spec_page.specs.Lines.{element_head, element_body}
use Rattle.world_print.specs.Elements.{element_of}
use Rattle.world_print.specs.Appended.{IsAppendedInPart}
use Rattle.world_print.specs.declared.element.ElementMesh.{ElementMesh}
use Rattle.world_print.proofs.Appended.{refused, begun_two, one_more, stopped_in, last}
use Rattle.obj_text.proofs.element.write_element.Goals as goal

pub returns-in_err-put_head : goal.returns-in_err-put_head
returns-in_err-put_head c =
    refused c.from_residual.result c.from_residual.ensures.0
    (stopped_in (element_head (element_of c.args.mesh.now)) (element_body c.args.before (element_of c.args.mesh.now)) (begun_two (element_head (element_of c.args.mesh.now)) (element_body c.args.before (element_of c.args.mesh.now)))
    (subst (λ (m : ElementMesh). IsAppendedInPart c.args.page.now.items c.put_head.new.page.items (element_head (element_of m))) c.mesh.view_is c.in_err-put_head.ensures))

pub returns : goal.returns
returns c =
    last c.put_mesh.new.page.items c.put_mesh.result
    (one_more (element_head (element_of c.args.mesh.now)) (begun_two (element_head (element_of c.args.mesh.now)) (element_body c.args.before (element_of c.args.mesh.now)))
    (subst (λ (m : ElementMesh). c.put_head.new.page.items ≡ c.args.page.now.items ++ element_head (element_of m)) c.mesh.view_is c.in_ok-put_head.ensures))
    c.put_mesh.ensures
