use Rattle.std.proofs.Common.{◌≡◌, ◌++◌, drop}
use Rattle.std.specs.List.{flat_map}
use Rattle.mesh_out.specs.Off.{spaced_count}
use Rattle.mesh_out.proofs.text.put_places.Given as goal

-- what was put so far, with what is still to come, is the whole text
abbrev pub invariant-loop-place : goal.invariant-loop-place
invariant-loop-place l = l.text.items ++ flat_map spaced_count (drop l.place-index l.places) ≡ l.fn.text.items ++ flat_map spaced_count l.places
