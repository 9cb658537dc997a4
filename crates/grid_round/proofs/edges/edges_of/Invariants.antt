use Rattle.std.proofs.Common.{◌≡◌, ◌++◌, drop}
use Rattle.spec_grid.specs.Rounded.{edges_of}
use Rattle.grid_round.proofs.edges.edges_of.Given as goal

abbrev pub invariant-loop-face : goal.invariant-loop-face
invariant-loop-face l = l.edges.items ++ edges_of (drop l.face-index l.faces) ≡ edges_of l.faces
