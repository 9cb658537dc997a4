use Rattle.std.proofs.Common.{◌≡◌, ◌++◌, map, drop}
use Rattle.std.specs.List.{list_all}
use Rattle.spec_grid.specs.Rounded.{face_on_grid, is_face_near}
use Rattle.grid_round.proofs.faces.round_faces.Given as goal

abbrev pub invariant-loop-face : goal.invariant-loop-face
invariant-loop-face l = record {
  done : l.rounded.items ++ map (face_on_grid l.step l.under) (drop l.face-index l.faces) ≡ map (face_on_grid l.step l.under) l.faces;
  near : list_all is_face_near (map (face_on_grid l.step l.under) (drop l.face-index l.faces)) ≡ list_all is_face_near (map (face_on_grid l.step l.under) l.faces);
}
