use Rattle.std.proofs.Common.{length}
use Rattle.face_check.specs.Sizes.{IsSizedFace}
use Rattle.exact_mesh.specs.Meshes.{face_of}
use Rattle.face_check.proofs.Members.{image_of}
use Rattle.face_check.proofs.faces.first_unsound.Goals as goal

pub is_sound-requires : goal.is_sound-requires
is_sound-requires c = image_of (IsSizedFace (length c.args.corners.now)) face_of c.args.faces.now c.loop-i.i c.index-faces-i.result c.requires c.loop-i-test.true c.index-faces-i.is
