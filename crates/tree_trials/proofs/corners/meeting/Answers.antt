use Rattle.std.proofs.Common.{◌≡◌, List, [], ◌∷◌, Option, Some, None, map, slice_get}
use Rattle.std.specs.Prelude.{IfSome}
use Rattle.plane_core.specs.declared.numbers.Plane.{Plane}
use Rattle.plane_core.specs.declared.numbers.Corner.{Corner}
use Rattle.plane_core.specs.declared.book.PlaneId.{PlaneId}
use Rattle.plane_core.specs.Planes.{IsCommonPoint}
use Rattle.corner_book.specs.Corners.{MeetIn}
use Rattle.tree_trials.proofs.corners.meeting.Goals as goal

met : (planes : List Plane) (i j k : PlaneId) (p q r : Plane) (o : Option Corner) → slice_get planes i.k ≡ Some p → slice_get planes j.k ≡ Some q → slice_get planes k.k ≡ Some r
    → IfSome o (IsCommonPoint p q r) → IfSome o (MeetIn planes (i ∷ (j ∷ (k ∷ []))))
met planes i j k p q r None e f g h = tt
met planes i j k p q r (Some c) e f g h = record { first = p; second = q; third = r; at = λ n. e n ∷ (f n ∷ (g n ∷ [])); common = h }

pub returns : goal.returns
returns c = met c.args.book.now c.args.p c.args.q c.args.r c.plane.result.now c.plane-2.result.now c.plane-3.result.now c.meet.result c.plane.ensures.value c.plane-2.ensures.value c.plane-3.ensures.value c.meet.ensures.common
