use Rattle.std.proofs.Common.{length}
use Rattle.std.specs.List.{flat_map}
use Rattle.spec_page.specs.Lines.{corner_lines}
use Rattle.world_print.specs.Elements.{page_corners}
use Rattle.world_print.proofs.Appended.{IsBegun}
use Rattle.obj_text.proofs.faces.put_corners.Given as goal

-- the corners so far stand behind the old text, and the others are still to come
abbrev pub invariant-loop-corners : goal.invariant-loop-corners
invariant-loop-corners l =
    IsBegun l.fn.page.items l.page.items (flat_map corner_lines (page_corners l.corners l.printed)) (flat_map corner_lines (page_corners l.fn.corners l.fn.printed))

abbrev pub decreases-loop-corners : goal.decreases-loop-corners
decreases-loop-corners l = length l.corners
