-- Faceted breps (IFC4): their faces, each with its loops in space, in nanometres, and the count of their triangles.
use Rattle.std.specs.Prelude.{ℕ, List, [], ◌∷◌, ◌++◌, length, Ok, if◌then◌else◌}
use Rattle.spec_space.specs.declared.Vector.{Vector}
use Rattle.spec_step.specs.declared.tree.Param.{Param}
use Rattle.ifc_kinds.specs.declared.kind.Kind.TheVariants as kind
use Rattle.spec_refusal.specs.Reads.{Read, next}
use Rattle.spec_shape.specs.Shapes.{Face}
use Rattle.spec_entity.specs.Reads.{has_kind, instance_of_kinds, named_instance, member_instance, members, each}
use Rattle.spec_geometry.specs.Files.{File}
use Rattle.spec_geometry.specs.Points.{point}
use Rattle.spec_geometry.specs.Curves.{member_point, as_loop}
use Rattle.spec_geometry.specs.Profiles.{count_with, Counted}

-- each member of a list, one after the other, with the count
abbrev pub each_counted : {T : Type 0} → (Param → ℕ → Counted T) → List Param → ℕ → Counted (List T)
each_counted read [] count = Ok ([], count)
each_counted read (p ∷ ps) count = next (read p count) (λ one. next (each_counted read ps one.1) (λ more. Ok (one.0 ∷ more.0, more.1)))

-- IfcPolyLoop
abbrev pub poly_loop : File → ℕ → Read (List Vector)
poly_loop file n =
    next (members file.section n 1) (λ ps. next (each (member_point (point file) file.section n) ps) (as_loop n))

-- IfcFaceBound and IfcFaceOuterBound, whose Orientation is not looked at; a triangle for each edge of the loop
abbrev pub bound : File → ℕ → ℕ → Counted (List Vector)
bound file n count =
    next (named_instance file.section (kind.PolyLoop ∷ []) n 1) (λ l.
    next (poly_loop file l) (λ points. next (count_with count (length points)) (λ more. Ok (points, more))))

abbrev pub member_bound : File → ℕ → Param → ℕ → Counted (List Vector)
member_bound file face p count =
    next (member_instance file.section face 1 p) (λ m.
    next (instance_of_kinds file.section (kind.FaceBound ∷ kind.FaceOuterBound ∷ []) m) (λ n. bound file n count))

-- IfcFace
abbrev pub face : File → ℕ → ℕ → Counted Face
face file n count =
    next (members file.section n 1) (λ ps.
    next (each_counted (member_bound file n) ps count) (λ loops. Ok (record { at = n; loops = loops.0 }, loops.1)))

abbrev pub member_face : File → ℕ → Param → ℕ → Counted Face
member_face file shell p count =
    next (member_instance file.section shell 1 p) (λ m.
    next (instance_of_kinds file.section (kind.Face ∷ []) m) (λ n. face file n count))

-- IfcClosedShell
abbrev pub shell : File → ℕ → ℕ → Counted (List Face)
shell file n count = next (members file.section n 1) (λ ps. each_counted (member_face file n) ps count)

abbrev pub outer_shell : File → ℕ → ℕ → Counted (List Face)
outer_shell file n count = next (named_instance file.section (kind.ClosedShell ∷ []) n 1) (λ s. shell file s count)

abbrev pub member_shell : File → ℕ → Param → ℕ → Counted (List Face)
member_shell file n p count =
    next (member_instance file.section n 2 p) (λ m.
    next (instance_of_kinds file.section (kind.ClosedShell ∷ []) m) (λ s. shell file s count))

abbrev pub flat : List (List Face) → List Face
flat [] = []
flat (fs ∷ rest) = fs ++ flat rest

-- IfcFacetedBrepWithVoids: the faces of the outer shell, and those of its voids
abbrev pub faces_with_voids : File → ℕ → ℕ → Counted (List Face)
faces_with_voids file n count =
    next (outer_shell file n count) (λ outer.
    next (members file.section n 2) (λ ps.
    next (each_counted (member_shell file n) ps outer.1) (λ voids. Ok (outer.0 ++ flat voids.0, voids.1))))

-- IfcFacetedBrep and IfcFacetedBrepWithVoids
abbrev pub brep_faces : File → ℕ → ℕ → Counted (List Face)
brep_faces file n count =
    if has_kind file.section n kind.FacetedBrep then outer_shell file n count else faces_with_voids file n count
