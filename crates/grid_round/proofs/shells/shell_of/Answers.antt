use Rattle.std.proofs.Common.{◌∙◌, ap, sym, subst, map}
use Rattle.std.specs.List.{All}
use Rattle.spec_shell.specs.Edges.{open_edge}
use Rattle.spec_grid.specs.Rounded.{edges_of}
use Rattle.ray_law.specs.Shells.{IsClosed}
use Rattle.grid_solid.specs.Triangles.{triangle_of, IsNear, HasForms}
use Rattle.grid_round.proofs.ShellLaws.{triangles_near, closed_triangles, closed_none, triangles_formed}
use Rattle.grid_round.proofs.shells.shell_of.Goals as goal

pub invariant_of-result : goal.invariant_of-result
invariant_of-result c =
    let faces = c.args.faces.now in
    let same = sym (ap (map triangle_of) c.from_vec.ensures ∙ c.in_ok-triangles.ensures.0) in
    record {
      near = subst (All IsNear) same (triangles_near faces c.requires);
      closed = subst IsClosed same (closed_triangles faces c.in_ok-triangles.ensures.2 (closed_none c.args.at (open_edge (edges_of faces)) c.in_ok-closed.ensures));
      forms = subst (All HasForms) same (triangles_formed faces c.in_ok-triangles.ensures.1);
    }
