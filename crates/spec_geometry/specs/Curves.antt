-- Curves of straight lines (IFC4): their points in the plane, in nanometres. That an open curve is closed by a straight edge is a
-- rule of this project.
use Rattle.std.specs.Prelude.{ℕ, pos, ◌-◌, ◌*◌, ◌^◌, ◌/◌, ◌&&◌, nat_le, nat_eq, int_le, unsigned_abs, List, [], ◌∷◌, ◌++◌, map, length, drop, slice_index_or, Option, Some, None, Ok, Err, codes, if◌then◌else◌, min}
use Rattle.spec_num.specs.Decimals.{decimal_units}
use Rattle.spec_space.specs.declared.Vector.{Vector}
use Rattle.spec_step.specs.Spans.{bytes_at}
use Rattle.spec_step.specs.declared.tree.Param.{Param, out-Param}
use Rattle.spec_step.specs.declared.tree.Param.TheOpen.{Param-F}
use Rattle.spec_step.specs.declared.tree.Param.TheOpen as layer
use Rattle.spec_table.specs.Sections.{DataSection}
use Rattle.spec_table.specs.Innermost.{innermost}
use Rattle.spec_table.specs.Attributes.{attribute, read_list}
use Rattle.ifc_kinds.specs.declared.kind.Kind.{Kind}
use Rattle.ifc_kinds.specs.declared.kind.Kind.TheVariants as kind
use Rattle.spec_place.specs.Vectors.{origin}
use Rattle.spec_refusal.specs.declared.Refusal.TheVariants.{Curved, BadAttribute}
use Rattle.spec_refusal.specs.Reads.{Read, next, only_if}
use Rattle.spec_shape.specs.Loops.{open_loop, has_three}
use Rattle.spec_entity.specs.Reads.{as_read, has_kind, named_instance, instance_of_kinds, member_instance, members, each}
use Rattle.spec_geometry.specs.Files as files
use Rattle.spec_geometry.specs.Files.{File, is_word}
use Rattle.spec_geometry.specs.Points.{plane_point, in_plane}

-- the point that a member of a list names, read so
abbrev pub member_point : (ℕ → Read Vector) → DataSection → ℕ → Param → Read Vector
member_point read section n p =
    next (member_instance section n 1 p) (λ m. next (instance_of_kinds section (kind.CartesianPoint ∷ []) m) read)

-- IfcPolyline
abbrev pub polyline : File → ℕ → Read (List Vector)
polyline file n = next (members file.section n 1) (each (member_point (plane_point file) file.section n))

-- IfcCartesianPointList2D

abbrev pub pair : File → ℕ → Param → Read Vector
pair file n p =
    next (as_read (read_list n 1 p)) (λ ps.
    only_if (nat_eq (length ps) 2) (BadAttribute n 1) (next (each (files.length file n 1) ps) (λ xs. Ok (in_plane xs))))

abbrev pub point_list : File → ℕ → Read (List Vector)
point_list file n = next (members file.section n 1) (each (pair file n))

-- Segments of an IfcIndexedPolyCurve, whose points are so many.

-- the whole number that a decimal text is, if it is from 1 to a count and, as every number of a file, at most 10^9
abbrev pub index_in : ℕ → ℕ → List ℕ → Read ℕ
index_in n count text =
    only_if (int_le (pos (10 ^ 12)) (decimal_units text) && int_le (decimal_units text) (pos (min count (10 ^ 9) * 10 ^ 12))) (BadAttribute n 2)
    (Ok (unsigned_abs (decimal_units text) / 10 ^ 12))

abbrev pub layer_index : DataSection → ℕ → ℕ → Param-F Param → Read ℕ
layer_index section n count (layer.Int p) = index_in n count (bytes_at section.text p)
layer_index section n count x = Err (BadAttribute n 2)

-- an integer from 1 to the number of points
abbrev pub index : DataSection → ℕ → ℕ → Param → Read ℕ
index section n count p = layer_index section n count (out-Param (innermost p))

-- the indices of an IfcLineIndex, of which there must be at least two
abbrev pub line_index : DataSection → ℕ → ℕ → Param → Read (List ℕ)
line_index section n count p =
    next (as_read (read_list n 2 p)) (λ ps. only_if (nat_le 2 (length ps)) (BadAttribute n 2) (each (index section n count) ps))

-- a segment by its word: an arc is curved, and another word than these two is none
abbrev pub segment_named : DataSection → ℕ → ℕ → List ℕ → Param → Read (List ℕ)
segment_named section n count word p =
    if is_word (codes "IFCARCINDEX") word then Err (Curved n)
    else only_if (is_word (codes "IFCLINEINDEX") word) (BadAttribute n 2) (line_index section n count p)

abbrev pub layer_segment : DataSection → ℕ → ℕ → Param-F Param → Read (List ℕ)
layer_segment section n count (layer.Typed k p) = segment_named section n count (bytes_at section.text k) p
layer_segment section n count x = Err (BadAttribute n 2)

abbrev pub segment : DataSection → ℕ → ℕ → Param → Read (List ℕ)
segment section n count p = layer_segment section n count (out-Param p)

abbrev pub last_index : List ℕ → ℕ
last_index [] = 0
last_index (i ∷ []) = i
last_index (i ∷ j ∷ is) = last_index (j ∷ is)

abbrev pub first_index : List ℕ → ℕ
first_index [] = 0
first_index (i ∷ is) = i

-- a segment joins what stands before it: it begins where that ended, and its joint stands once
abbrev pub joined : ℕ → List ℕ → List ℕ → Read (List ℕ)
joined n [] is = Ok is
joined n (b ∷ before) is =
    only_if (nat_eq (first_index is) (last_index (b ∷ before))) (BadAttribute n 2) (Ok ((b ∷ before) ++ drop 1 is))

-- the indices of segments behind those that stand before
abbrev pub segments_after : DataSection → ℕ → ℕ → List ℕ → List Param → Read (List ℕ)
segments_after section n count before [] = Ok before
segments_after section n count before (p ∷ ps) =
    next (segment section n count p) (λ is. next (joined n before is) (λ all. segments_after section n count all ps))

-- the points of some indices, counted from 1
abbrev pub points_at : List Vector → List ℕ → List Vector
points_at points is = map (λ i. slice_index_or points (i - 1) origin) is

-- all points in order where Segments is unset, and else those of the segments
abbrev pub points_by_segments : DataSection → ℕ → List Vector → Option Param → Read (List Vector)
points_by_segments section n points None = Ok points
points_by_segments section n points (Some p) =
    next (members section n 2) (λ ps. next (segments_after section n (length points) [] ps) (λ is. Ok (points_at points is)))

-- IfcIndexedPolyCurve
abbrev pub indexed_curve : File → ℕ → Read (List Vector)
indexed_curve file n =
    next (named_instance file.section (kind.CartesianPointList2d ∷ []) n 1) (λ list.
    next (point_list file list) (λ points. points_by_segments file.section n points (attribute file.section n 2)))

abbrev pub curve_kinds : List Kind
curve_kinds = kind.Polyline ∷ kind.IndexedPolyCurve ∷ []

abbrev pub curve_points : File → ℕ → Read (List Vector)
curve_points file n = if has_kind file.section n kind.Polyline then polyline file n else indexed_curve file n

-- a loop without a last point that equals its first; three of its points must differ
abbrev pub as_loop : ℕ → List Vector → Read (List Vector)
as_loop n points = only_if (has_three (open_loop points)) (BadAttribute n 1) (Ok (open_loop points))

-- the loop of a curve
abbrev pub curve : File → ℕ → Read (List Vector)
curve file n = next (curve_points file n) (as_loop n)

-- the loop of the curve at a position
abbrev pub named_curve : File → ℕ → ℕ → Read (List Vector)
named_curve file at position = next (named_instance file.section curve_kinds at position) (curve file)
