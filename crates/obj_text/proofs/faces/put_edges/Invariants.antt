use Rattle.std.proofs.Common.{drop, codes}
use Rattle.std.specs.List.{flat_map}
use Rattle.spec_page.specs.Lines.{plane_line}
use Rattle.exact_mesh.specs.Meshes.{numbered_plane}
use Rattle.world_print.proofs.Appended.{IsBegun}
use Rattle.obj_text.proofs.faces.put_edges.Given as goal

-- the lines so far stand behind the old text, and the others are still to come
abbrev pub invariant-loop-edge : goal.invariant-loop-edge
invariant-loop-edge l =
    IsBegun l.fn.page.items l.page.items (flat_map (λ e. plane_line (codes "#e") (numbered_plane e)) (drop l.edge-index l.edges)) (flat_map (λ e. plane_line (codes "#e") (numbered_plane e)) l.edges)
