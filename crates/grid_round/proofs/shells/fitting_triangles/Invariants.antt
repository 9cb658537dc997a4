use Rattle.std.proofs.Common.{◌≡◌, ◌++◌, map, drop, take, not}
use Rattle.std.specs.List.{find, All}
use Rattle.spec_grid.specs.Rounded.{triangles_of, is_face_fitting}
use Rattle.ray_law.specs.Faces.{BeginsWithCorner}
use Rattle.grid_solid.specs.Triangles.{triangle_of}
use Rattle.grid_round.proofs.shells.fitting_triangles.Given as goal

abbrev pub invariant-loop-face : goal.invariant-loop-face
invariant-loop-face l = record {
  done : map triangle_of l.triangles.items ++ triangles_of (drop l.face-index l.faces) ≡ triangles_of l.faces;
  fitting : find (λ f. not (is_face_fitting f)) (drop l.face-index l.faces) ≡ find (λ f. not (is_face_fitting f)) l.faces;
  begin : All (λ f. BeginsWithCorner f.loops) (take l.face-index l.faces);
}
