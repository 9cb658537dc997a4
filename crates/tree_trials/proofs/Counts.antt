-- How many planes an element of few faces has.
use Rattle.std.proofs.Common.{◌≡◌, ℕ, ◌*◌, ◌≤◌, List, All, length, sum_by, arith}
use Rattle.std.proofs.lemmas.List.Sums.{sum_by-le}
use Rattle.spec_shape.specs.Shapes.{Face, face_count}
use Rattle.tree_trials.specs.Faces.{IsSmall}

bound : (planes count few faces : ℕ) → planes ≤ 4 * count → count ≡ few → few ≤ faces * 8 → faces ≤ 100 → planes ≤ 3200
bound planes count few faces l e m h = omega arith

pub few_planes : (faces : List Face) (planes count : ℕ) → All IsSmall faces → length faces ≤ 100 → count ≡ sum_by face_count faces → planes ≤ 4 * count → planes ≤ 3200
few_planes faces planes count small h e l = bound planes count (sum_by face_count faces) (length faces) l e (sum_by-le face_count 8 faces small) h
