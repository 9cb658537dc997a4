use Rattle.std.proofs.Common.{◌<◌, length}
use Rattle.face_check.specs.Sizes.{IsSizedPlane}
use Rattle.exact_mesh.specs.Meshes.{numbered_plane}
use Rattle.face_check.proofs.Members.{each_image, behind_first}
use Rattle.face_check.proofs.edges.are_edges.Goals as goal

pub are_round-requires-clause-edges : goal.are_round-requires-clause-edges
are_round-requires-clause-edges c = each_image IsSizedPlane numbered_plane c.args.edges.now c.requires.edges

pub are_round-requires-clause-rest : goal.are_round-requires-clause-rest
are_round-requires-clause-rest c = behind_first (λ i. i < length c.args.corners.now) c.args.places.now c.requires.places
