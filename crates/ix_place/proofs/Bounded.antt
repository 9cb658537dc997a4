-- Bounds of transforms: of their columns, of frames as maps, and by their tests.
use Rattle.std.proofs.Common.{◌≡◌, ℕ, ◌^◌, true}
use Rattle.std.specs.Prelude.{◌&&◌}
use Rattle.spec_space.specs.declared.Vector.{Vector}
use Rattle.spec_place.specs.declared.transform.Axes.{Axes}
use Rattle.spec_place.specs.declared.transform.Transform.{Transform}
use Rattle.spec_place.specs.Vectors.{is_within, IsWithin}
use Rattle.spec_place.specs.Transforms.{first_column, second_column, third_column, of_columns, inverse, has_entries_within, has_offset, IsBounded, IsFrame, IsMap}
use Rattle.ix_place.specs.Bounds.{AreSmall, AreStretched, HasSmallEntries}
use Rattle.ix_place.proofs.Sizes.{wider, within_true, and_left, and_right}

pub first_column_within : (t : Transform) {n m : ℕ} → IsBounded n m t → IsWithin n (first_column t)
first_column_within t h = record { x = h.x.x; y = h.y.x; z = h.z.x }

pub second_column_within : (t : Transform) {n m : ℕ} → IsBounded n m t → IsWithin n (second_column t)
second_column_within t h = record { x = h.x.y; y = h.y.y; z = h.z.y }

pub third_column_within : (t : Transform) {n m : ℕ} → IsBounded n m t → IsWithin n (third_column t)
third_column_within t h = record { x = h.x.z; y = h.y.z; z = h.z.z }

-- a frame is a map
pub frame_map : (t : Transform) → IsFrame t → IsMap t
frame_map t h = record { x = wider t.x h.x tt; y = wider t.y h.y tt; z = wider t.z h.z tt; off = h.off }

pub of_small_columns : (a : Axes) (off : Vector) → AreSmall a → IsWithin (10 ^ 16) off → IsFrame (of_columns a off)
of_small_columns a off h k = record {
  x = record { x = h.x.x; y = h.y.x; z = h.z.x };
  y = record { x = h.x.y; y = h.y.y; z = h.z.y };
  z = record { x = h.x.z; y = h.y.z; z = h.z.z };
  off = k;
}

pub of_stretched_columns : (a : Axes) (off : Vector) → AreStretched a → IsWithin (10 ^ 16) off → IsMap (of_columns a off)
of_stretched_columns a off h k = record {
  x = record { x = h.x.x; y = h.y.x; z = h.z.x };
  y = record { x = h.x.y; y = h.y.y; z = h.z.y };
  z = record { x = h.x.z; y = h.y.z; z = h.z.z };
  off = k;
}

-- by the tests of code
pub small_frame : (t : Transform) → HasSmallEntries t → has_offset t ≡ true → IsFrame t
small_frame t h e = record { x = h.x; y = h.y; z = h.z; off = within_true t.off (10 ^ 16) e }

pub inverse_frame : (t : Transform) → IsFrame t → has_offset (inverse t) ≡ true → IsFrame (inverse t)
inverse_frame t h e = record { x = first_column_within t h; y = second_column_within t h; z = third_column_within t h; off = within_true (inverse t).off (10 ^ 16) e }

pub tested_map : (t : Transform) → has_entries_within (10 ^ 12) t ≡ true → has_offset t ≡ true → IsMap t
tested_map t h e =
    let first = is_within (10 ^ 12) t.x in
    let second = is_within (10 ^ 12) t.y in
    let third = is_within (10 ^ 12) t.z in
    let both = and_left (first && second) third h in
    record {
      x = within_true t.x (10 ^ 12) (and_left first second both);
      y = within_true t.y (10 ^ 12) (and_right first second both);
      z = within_true t.z (10 ^ 12) (and_right (first && second) third h);
      off = within_true t.off (10 ^ 16) e;
    }
