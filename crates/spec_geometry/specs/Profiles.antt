-- Profiles (IFC4): their loops in the plane, in nanometres, and the count of triangles that their sweep adds.
use Rattle.std.specs.Prelude.{ℕ, ℤ, pos, ◌+◌, ◌*◌, ◌*ℤ◌, nat_le, int_lt, List, [], ◌∷◌, length, Option, Some, None, Ok, if◌then◌else◌}
use Rattle.spec_space.specs.declared.Vector.{Vector}
use Rattle.spec_step.specs.declared.tree.Param.{Param}
use Rattle.ifc_kinds.specs.declared.kind.Kind.{Kind}
use Rattle.ifc_kinds.specs.declared.kind.Kind.TheVariants as kind
use Rattle.spec_refusal.specs.declared.Refusal.TheVariants.{BadAttribute, ElementTooLarge}
use Rattle.spec_refusal.specs.Reads.{Read, next, only_if}
use Rattle.spec_shape.specs.Profiles.{rectangle, hollow, i_shape, placed_loops}
use Rattle.spec_entity.specs.Reads.{has_kind, instance_of_kinds, named_instance, member_instance, members}
use Rattle.spec_geometry.specs.Files.{File, positive, zero}
use Rattle.spec_geometry.specs.Axes.{PlaneAxes, if_plane_axes}
use Rattle.spec_geometry.specs.Curves.{curve, named_curve, curve_kinds}

-- Counts: an element may have 4096 triangles and half-spaces.

abbrev pub most_triangles : ℕ
most_triangles = 4096

-- a count that has grown
abbrev pub count_with : ℕ → ℕ → Read ℕ
count_with count more = only_if (nat_le (count + more) most_triangles) (ElementTooLarge (count + more)) (Ok (count + more))

-- six triangles for each edge of a loop that is swept
abbrev pub count_loop : ℕ → List Vector → Read ℕ
count_loop count points = count_with count (6 * length points)

abbrev pub count_loops : ℕ → List (List Vector) → Read ℕ
count_loops count [] = Ok count
count_loops count (l ∷ ls) = next (count_loop count l) (λ more. count_loops more ls)

-- what was read, and the count with it
abbrev pub Counted : Type 0 → Type 0
Counted T = Read (T × ℕ)

-- Profiles of curves.

-- a curve, counted
abbrev pub counted_curve : Read (List Vector) → ℕ → Counted (List Vector)
counted_curve read count = next read (λ points. next (count_loop count points) (λ more. Ok (points, more)))

-- the curve that a member of a list names, counted
abbrev pub inner_curve : File → ℕ → Param → ℕ → Counted (List Vector)
inner_curve file n p count =
    counted_curve (next (member_instance file.section n 4 p) (λ m. next (instance_of_kinds file.section curve_kinds m) (curve file))) count

abbrev pub inner_curves : File → ℕ → List Param → ℕ → Counted (List (List Vector))
inner_curves file n [] count = Ok ([], count)
inner_curves file n (p ∷ ps) count =
    next (inner_curve file n p count) (λ one. next (inner_curves file n ps one.1) (λ more. Ok (one.0 ∷ more.0, more.1)))

-- IfcArbitraryClosedProfileDef
abbrev pub closed_profile : File → ℕ → ℕ → Counted (List (List Vector))
closed_profile file n count = next (counted_curve (named_curve file n 3) count) (λ outer. Ok (outer.0 ∷ [], outer.1))

-- IfcArbitraryProfileDefWithVoids
abbrev pub profile_with_voids : File → ℕ → ℕ → Counted (List (List Vector))
profile_with_voids file n count =
    next (counted_curve (named_curve file n 3) count) (λ outer.
    next (members file.section n 4) (λ ps.
    next (inner_curves file n ps outer.1) (λ inner. Ok (outer.0 ∷ inner.0, inner.1))))

-- Profiles by their measures. The loops come after the attributes, and are counted before they are placed.

abbrev pub placed_by : Option PlaneAxes → List (List Vector) → List (List Vector)
placed_by None loops = loops
placed_by (Some a) loops = placed_loops a.at a.ref loops

abbrev pub profile_loops : ℕ → Option PlaneAxes → List (List Vector) → Counted (List (List Vector))
profile_loops count position loops = next (count_loops count loops) (λ more. Ok (placed_by position loops, more))

-- IfcRectangleProfileDef
abbrev pub rectangle_profile : File → ℕ → ℕ → Counted (List (List Vector))
rectangle_profile file n count =
    next (if_plane_axes file n 3) (λ position.
    next (positive file n 4) (λ x. next (positive file n 5) (λ y. profile_loops count position (rectangle x y))))

-- the length at a position, of which another must be more than so many times
abbrev pub positive_below : File → ℕ → ℕ → ℤ → ℤ → Read ℤ
positive_below file n position times most =
    next (positive file n position) (λ v. only_if (int_lt (times *ℤ v) most) (BadAttribute n position) (Ok v))

abbrev pub wall_thickness : File → ℕ → ℤ → ℤ → Read ℤ
wall_thickness file n x y =
    next (positive_below file n 6 (pos 2) x) (λ wall. only_if (int_lt (pos 2 *ℤ wall) y) (BadAttribute n 6) (Ok wall))

-- IfcRectangleHollowProfileDef
abbrev pub hollow_profile : File → ℕ → ℕ → Counted (List (List Vector))
hollow_profile file n count =
    next (if_plane_axes file n 3) (λ position.
    next (positive file n 4) (λ x. next (positive file n 5) (λ y. next (wall_thickness file n x y) (λ wall.
    next (zero file.section n 7) (λ _. next (zero file.section n 8) (λ _. profile_loops count position (hollow x y wall)))))))

-- IfcIShapeProfileDef
abbrev pub i_shape_profile : File → ℕ → ℕ → Counted (List (List Vector))
i_shape_profile file n count =
    next (if_plane_axes file n 3) (λ position.
    next (positive file n 4) (λ width. next (positive file n 5) (λ depth.
    next (positive_below file n 6 (pos 1) width) (λ web. next (positive_below file n 7 (pos 2) depth) (λ flange.
    next (zero file.section n 8) (λ _. next (zero file.section n 9) (λ _. next (zero file.section n 10) (λ _.
    profile_loops count position (i_shape width depth web flange)))))))))

abbrev pub profile_kinds : List Kind
profile_kinds =
    kind.ArbitraryClosedProfileDef ∷ kind.ArbitraryProfileDefWithVoids ∷ kind.RectangleProfileDef ∷ kind.RectangleHollowProfileDef
    ∷ kind.IShapeProfileDef ∷ []

-- the loops of a profile, the outer one first
abbrev pub profile : File → ℕ → ℕ → Counted (List (List Vector))
profile file n count =
    if has_kind file.section n kind.ArbitraryClosedProfileDef then closed_profile file n count
    else (if has_kind file.section n kind.ArbitraryProfileDefWithVoids then profile_with_voids file n count
    else (if has_kind file.section n kind.RectangleProfileDef then rectangle_profile file n count
    else (if has_kind file.section n kind.RectangleHollowProfileDef then hollow_profile file n count else i_shape_profile file n count)))

-- the profile at a position
abbrev pub named_profile : File → ℕ → ℕ → ℕ → Counted (List (List Vector))
named_profile file at position count =
    next (named_instance file.section profile_kinds at position) (λ n. profile file n count)
