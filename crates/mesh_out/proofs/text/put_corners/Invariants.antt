use Rattle.std.proofs.Common.{◌≡◌, ◌++◌, drop}
use Rattle.std.specs.List.{flat_map}
use Rattle.exact_mesh.specs.Meshes.{vector_of}
use Rattle.mesh_out.specs.Off.{place_line}
use Rattle.mesh_out.proofs.text.put_corners.Given as goal

-- what was put so far, with what is still to come, is the whole text
abbrev pub invariant-loop-corner : goal.invariant-loop-corner
invariant-loop-corner l = l.text.items ++ flat_map (λ v. place_line (vector_of v)) (drop l.corner-index l.corners) ≡ l.fn.text.items ++ flat_map (λ v. place_line (vector_of v)) l.corners
