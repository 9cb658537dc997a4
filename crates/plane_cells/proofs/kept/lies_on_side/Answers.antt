use Rattle.plane_core.specs.Views.{plane_of, raw_point_of}
use Rattle.poly_frag.proofs.Kept.{kept_in_front, not_kept_on, kept_behind}
use Rattle.plane_cells.proofs.kept.lies_on_side.Goals as goal

pub returns-in-Front : goal.returns-in-Front
returns-in-Front c = record { value = kept_in_front c.args.in_front (plane_of c.args.plane.now) (raw_point_of c.args.corner.now) c.in-Front.ensures.value }

pub returns-in-On : goal.returns-in-On
returns-in-On c = record { value = not_kept_on c.args.in_front (plane_of c.args.plane.now) (raw_point_of c.args.corner.now) c.in-On.ensures.value }

pub returns-in-Back : goal.returns-in-Back
returns-in-Back c = record { value = kept_behind c.args.in_front (plane_of c.args.plane.now) (raw_point_of c.args.corner.now) c.in-Back.ensures.value }
