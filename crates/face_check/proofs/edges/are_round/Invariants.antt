use Rattle.std.proofs.Common.{◌≡◌, ◌<◌, [], ◌∷◌, ◌++◌, drop, map, length}
use Rattle.exact_mesh.specs.Meshes.{numbered_plane}
use Rattle.face_check.specs.Sound.{are_edges}
use Rattle.face_check.proofs.edges.are_round.Given as goal

-- those that are left decide
abbrev pub invariant-loop-i : goal.invariant-loop-i
invariant-loop-i l = record {
  within : l.from < length l.corners;
  left : are_edges l.corners l.plane l.places (map numbered_plane (drop l.i l.edges)) (l.from ∷ drop l.i l.rest) (drop l.i l.rest ++ l.first ∷ [])
      ≡ are_edges l.corners l.plane l.places (map numbered_plane l.edges) (l.first ∷ l.rest) (l.rest ++ l.first ∷ []);
}
