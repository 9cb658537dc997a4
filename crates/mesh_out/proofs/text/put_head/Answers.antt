use Rattle.std.proofs.Common.{◌≡◌, ◌++◌, ◌∙◌, ap, ap₂, length, codes, arith}
use Rattle.std.proofs.lemmas.List.{length-map}
use Rattle.std.specs.Fmt.{decimal}
use Rattle.spec_page.specs.Lines.{number_line}
use Rattle.exact_mesh.specs.Meshes.{face_of}
use Rattle.world_print.specs.Elements.{element_of}
use Rattle.mesh_out.specs.Off.{spaced_count, sizes_line}
use Rattle.mesh_out.proofs.Texts.{joined_three, page_count, on_ok}
use Rattle.mesh_out.proofs.text.put_head.Goals as goal

pub returns : goal.returns
returns c =
    let mesh = c.args.mesh.now in
    let corners : c.len.result ≡ length (element_of mesh).corners = omega (arith, page_count mesh.mesh.corners.items mesh.printed.items mesh.paired, mesh.printed.ok.0) in
    let faces : c.len-2.result ≡ length (element_of mesh).faces = omega (arith, length-map mesh.mesh.faces.items face_of, mesh.mesh.faces.ok.0) in
    let sizes : decimal c.len.result ++ spaced_count c.len-2.result ++ codes " 0\n" ≡ sizes_line (element_of mesh) =
    ap₂ (λ m n. decimal m ++ spaced_count n ++ codes " 0\n") corners faces in
    on_ok c.put_sizes.result
    (λ e. joined_three c.args.text.now.items c.put_name.new.text.items c.extend_from_slice.new.self.items c.put_sizes.new.text.items (number_line (codes "# ") mesh.number) (codes "OFF\n") (sizes_line (element_of mesh))
    c.in_ok-put_name.ensures c.in_ok-extend_from_slice.ensures.items (e ∙ ap (λ l. c.extend_from_slice.new.self.items ++ l) sizes))
    c.put_sizes.ensures
