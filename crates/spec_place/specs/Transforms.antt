-- Transforms: what frames and maps are. The rounding is a rule of this project.
use Rattle.std.specs.Prelude.{ℕ, ◌^◌, Bool, ◌&&◌}
use Rattle.spec_space.specs.declared.Vector.{Vector}
use Rattle.spec_space.specs.Points.{dot}
use Rattle.spec_place.specs.declared.transform.Axes.{Axes}
use Rattle.spec_place.specs.declared.transform.Transform.{Transform}
use Rattle.spec_place.specs.Vectors.{each, plus, times, divided, reversed, clamped, one, is_within, IsWithin, origin, along_x, along_y, along_z}

abbrev pub identity : Transform
identity = record { x = along_x; y = along_y; z = along_z; off = origin }

-- the columns of the matrix
abbrev pub first_column : Transform → Vector
first_column t = record { x = t.x.x; y = t.y.x; z = t.z.x }

abbrev pub second_column : Transform → Vector
second_column t = record { x = t.x.y; y = t.y.y; z = t.z.y }

abbrev pub third_column : Transform → Vector
third_column t = record { x = t.x.z; y = t.y.z; z = t.z.z }

-- the transform whose columns are these axes
abbrev pub of_columns : Axes → Vector → Transform
of_columns a off = record {
  x = record { x = a.x.x; y = a.y.x; z = a.z.x };
  y = record { x = a.x.y; y = a.y.y; z = a.z.y };
  z = record { x = a.x.z; y = a.y.z; z = a.z.z };
  off = off;
}

-- the matrix times a vector, exact, in units of 10^-9
abbrev pub turned : Transform → Vector → Vector
turned t v = record { x = dot t.x v; y = dot t.y v; z = dot t.z v }

-- a row times a matrix, exact, in units of 10^-18
abbrev pub row_times : Vector → Transform → Vector
row_times row t = record { x = dot row (first_column t); y = dot row (second_column t); z = dot row (third_column t) }

-- the image of a point in nanometres, exact, in units of 10^-9 nanometres
abbrev pub image : Transform → Vector → Vector
image t p = plus (turned t p) (times one t.off)

-- the transform that stands as b within a
abbrev pub composed : Transform → Transform → Transform
composed a b = record {
  x = divided (row_times a.x b) one;
  y = divided (row_times a.y b) one;
  z = divided (row_times a.z b) one;
  off = plus a.off (divided (turned a b.off) one);
}

-- each entry of the matrix clamped
abbrev pub with_clamped : Transform → Transform
with_clamped t = record { x = each clamped t.x; y = each clamped t.y; z = each clamped t.z; off = t.off }

-- the transposed matrix times a vector, exact, in units of 10^-9
abbrev pub turned_back : Transform → Vector → Vector
turned_back t v = record { x = dot (first_column t) v; y = dot (second_column t) v; z = dot (third_column t) v }

-- the transposed matrix, and the offset turned back
abbrev pub inverse : Transform → Transform
inverse t = record { x = first_column t; y = second_column t; z = third_column t; off = divided (reversed (turned_back t t.off)) one }

-- no entry of the matrix has a size above n
abbrev pub has_entries_within : ℕ → Transform → Bool
has_entries_within n t = is_within n t.x && is_within n t.y && is_within n t.z

-- the bounds of a transform: the entries of its matrix, and its offset
pub record IsBounded (n m : ℕ) (t : Transform) : Type 0 where
  pub x : IsWithin n t.x
  pub y : IsWithin n t.y
  pub z : IsWithin n t.z
  pub off : IsWithin m t.off

-- the offset has no part above 10^16 nanometres
abbrev pub has_offset : Transform → Bool
has_offset t = is_within (10 ^ 16) t.off

-- the bounds of a frame and of a map
abbrev pub IsFrame : Transform → Type 0
IsFrame t = IsBounded (10 ^ 9) (10 ^ 16) t

abbrev pub IsMap : Transform → Type 0
IsMap t = IsBounded (10 ^ 12) (10 ^ 16) t
