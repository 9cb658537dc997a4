-- Indices of segments, and the points that they name.
use Rattle.std.specs.Prelude.{ℕ, ℤ, pos, min, ◌*◌, ◌^◌, ◌/◌, ◌&&◌, int_le, unsigned_abs, List, [], length, Ok}
use Rattle.spec_space.specs.declared.Vector.{Vector}
use Rattle.spec_table.specs.Sections.{DataSection}
use Rattle.spec_refusal.specs.declared.Refusal.TheVariants.{BadAttribute}
use Rattle.spec_refusal.specs.Reads.{Read, next, only_if}
use Rattle.spec_entity.specs.Reads.{members}
use Rattle.spec_geometry.specs.Curves.{segments_after, points_at}

-- the whole number that so many units of 10^-12 are, if it is from 1 to a count and at most 10^9
abbrev pub index_of : ℕ → ℕ → ℤ → Read ℕ
index_of n count units =
    only_if (int_le (pos (10 ^ 12)) units && int_le units (pos (min count (10 ^ 9) * 10 ^ 12))) (BadAttribute n 2) (Ok (unsigned_abs units / 10 ^ 12))

-- the points that the segments of a curve name
abbrev pub segmented : DataSection → ℕ → List Vector → Read (List Vector)
segmented section n points =
    next (members section n 2) (λ ps. next (segments_after section n (length points) [] ps) (λ is. Ok (points_at points is)))
