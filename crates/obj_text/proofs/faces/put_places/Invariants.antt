use Rattle.std.proofs.Common.{drop}
use Rattle.std.specs.List.{flat_map}
use Rattle.spec_page.specs.Lines.{index_text}
use Rattle.world_print.proofs.Appended.{IsBegun}
use Rattle.obj_text.proofs.faces.put_places.Given as goal

-- the places so far stand behind the old text, and the others are still to come
abbrev pub invariant-loop-place : goal.invariant-loop-place
invariant-loop-place l = IsBegun l.fn.page.items l.page.items (flat_map (index_text l.before) (drop l.place-index l.places)) (flat_map (index_text l.before) l.places)
