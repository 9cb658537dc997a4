use Rattle.std.proofs.Common.{◌≡◌, length, take}
use Rattle.edge_cut.specs.Rounds.{corners_of, IsGrown}
use Rattle.exact_mesh.specs.Order.{NamesNext}
use Rattle.edge_cut.specs.Seen.{AreAt}
use Rattle.edge_cut.proofs.builder.MeshBuilder.places.Given as goal

abbrev pub invariant-loop-corner : goal.invariant-loop-corner
invariant-loop-corner l = record {
  at : AreAt (corners_of l.self) l.places.items (take l.corner-index l.around);
  grown : IsGrown (corners_of l.fn.self) (corners_of l.self);
  next : NamesNext (length (corners_of l.fn.self)) l.places.items (length (corners_of l.self));
  faces : l.self.faces ≡ l.fn.self.faces;
}
