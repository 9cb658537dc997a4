-- An element that is read has few triangles.
use Rattle.std.proofs.Common.{ℕ, ◌≤◌, Option, Some, None, Result, Ok, Err, IfOk, IfSome}
use Rattle.spec_shape.specs.Shapes.{element_count}
use Rattle.spec_geometry.specs.Files.{File}
use Rattle.spec_geometry.specs.Elements.{element_body}
use Rattle.solid_expr.specs.declared.solid.ElementSolid.{ElementSolid}
use Rattle.solid_expr.specs.Views.{element_of}
use Rattle.ifc_numbers.specs.declared.faults.ItemFault.{ItemFault}
use Rattle.ifc_elem.specs.Views.{ReadsBody}
use Rattle.triangle_counts.proofs.Counts.{body_has_few}

pub read_has_few : (file : File) (element : ℕ) (r : Result (Option ElementSolid) ItemFault) → ReadsBody r (element_body file element)
    → IfOk r (λ body. IfSome body (λ e. element_count (element_of e) ≤ 4096))
read_has_few file element (Ok (Some e)) is = body_has_few file element (element_of e) is
read_has_few file element (Ok None) is = tt
read_has_few file element (Err fault) is = tt
