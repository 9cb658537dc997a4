-- The solid of an instance (IFC4) under a map, and the count of triangles and half-spaces that it adds. The map of a mapped item,
-- and the reach of a bounded half-space, are rules of this project.
use Rattle.std.specs.Prelude.{ℕ, ℤ, pos, neg_ℤ, zero, suc, ◌*◌, ◌*ℤ◌, ◌^◌, List, [], ◌∷◌, map, Ok, Err, if◌then◌else◌}
use Rattle.spec_space.specs.declared.Vector.{Vector}
use Rattle.spec_solid.specs.declared.BoolOp.TheVariants.{Intersection}
use Rattle.spec_step.specs.declared.tree.Param.{Param}
use Rattle.ifc_kinds.specs.declared.kind.Kind.{Kind}
use Rattle.ifc_kinds.specs.declared.kind.Kind.TheVariants as kind
use Rattle.spec_place.specs.Vectors.{times, divided, one}
use Rattle.spec_place.specs.declared.transform.Transform.{Transform}
use Rattle.spec_refusal.specs.declared.Refusal.TheVariants.{Unsupported, TooDeep}
use Rattle.spec_refusal.specs.Reads.{Read, next}
use Rattle.spec_shape.specs.Shapes.{Shape, Faces, Half, Combined, Numbered, united, prism_faces, block_faces, lifted, upwards}
use Rattle.spec_entity.specs.Reads.{has_kind, is_one_of, named_instance, member_instance, members}
use Rattle.spec_entity.specs.Operators.{operator}
use Rattle.spec_geometry.specs.Files.{File, positive, boolean, wanted_instance}
use Rattle.spec_geometry.specs.Points.{direction}
use Rattle.spec_geometry.specs.Axes as axes
use Rattle.spec_geometry.specs.Axes.{named_axes, within, map_within, map_within_if}
use Rattle.spec_geometry.specs.Curves.{named_curve}
use Rattle.spec_geometry.specs.Profiles.{count_with, count_loop, Counted, named_profile}
use Rattle.spec_geometry.specs.Breps.{each_counted, brep_faces}

-- Primitives.

-- a direction times a depth
abbrev pub sweep : Vector → ℤ → Vector
sweep along depth = divided (times depth along) one

-- IfcExtrudedAreaSolid
abbrev pub extruded_area_solid : File → ℕ → Transform → ℕ → Counted Shape
extruded_area_solid file n map count =
    next (named_profile file n 1 count) (λ swept.
    next (map_within_if file map n 2) (λ placed.
    next (named_instance file.section (kind.Direction ∷ []) n 3) (λ d.
    next (direction file.section d) (λ along.
    next (positive file n 4) (λ depth. Ok (Faces n placed (prism_faces n swept.0 (sweep along depth)), swept.1))))))

abbrev pub sizes : File → ℕ → Read Vector
sizes file n =
    next (positive file n 2) (λ x. next (positive file n 3) (λ y. next (positive file n 4) (λ z. Ok (record { x = x; y = y; z = z }))))

-- IfcBlock
abbrev pub block : File → ℕ → Transform → ℕ → Counted Shape
block file n map count =
    next (map_within file map n 1) (λ placed.
    next (sizes file n) (λ size.
    next (count_with count 24) (λ more. Ok (Faces n placed (block_faces n size), more))))

-- IfcFacetedBrep and IfcFacetedBrepWithVoids
abbrev pub brep : File → ℕ → Transform → ℕ → Counted Shape
brep file n map count = next (brep_faces file n count) (λ faces. Ok (Faces n map faces.0, faces.1))

-- IfcHalfSpaceSolid, and IfcBoxedHalfSpace as the same: BaseSurface, an IfcPlane, and AgreementFlag
abbrev pub half_space : File → ℕ → Transform → ℕ → Counted Shape
half_space file n map count =
    next (named_instance file.section (kind.Plane ∷ []) n 1) (λ plane.
    next (named_axes file plane 1) (λ frame.
    next (within n map frame) (λ placed.
    next (boolean file.section n 2) (λ agreement.
    next (count_with count 1) (λ more. Ok (Half n placed agreement, more))))))

-- 2^19 steps of a grid of so many micrometres, in nanometres
abbrev pub reach : ℕ → ℤ
reach grid = pos (2 ^ 19 * (1000 * grid))

-- the sweep of a loop along z as far as a bounded half-space reaches, both ways
abbrev pub column : ℕ → ℕ → Transform → List Vector → Shape
column n grid map points = Faces n map (prism_faces n (lifted (neg_ℤ (reach grid)) (points ∷ [])) (upwards (pos 2 *ℤ reach grid)))

-- IfcPolygonalBoundedHalfSpace: the half-space, and what its boundary sweeps
abbrev pub bounded_half_space : File → ℕ → Transform → ℕ → Counted Shape
bounded_half_space file n map count =
    next (half_space file n map count) (λ half.
    next (map_within file map n 3) (λ placed.
    next (named_curve file n 4) (λ points.
    next (count_loop half.1 points) (λ more. Ok (Numbered n (Combined Intersection half.0 (column n file.grid placed points)), more)))))

-- Solids of other solids, each read under a map with the count so far.

abbrev pub Inner : Type 0
Inner = ℕ → Transform → ℕ → Counted Shape

-- the solid that a wanted attribute names
abbrev pub operand : File → Inner → ℕ → ℕ → Transform → ℕ → Counted Shape
operand file inner n position map count = next (wanted_instance file.section n position) (λ m. inner m map count)

-- IfcBooleanResult and IfcBooleanClippingResult
abbrev pub boolean_result : File → Inner → ℕ → Transform → ℕ → Counted Shape
boolean_result file inner n map count =
    next (operator file.section n) (λ o.
    next (operand file inner n 2 map count) (λ first.
    next (operand file inner n 3 map first.1) (λ second. Ok (Numbered n (Combined o first.0 second.0), second.1))))

-- IfcCsgSolid: a union whose one part is its root
abbrev pub csg_solid : File → Inner → ℕ → Transform → ℕ → Counted Shape
csg_solid file inner n map count = next (operand file inner n 1 map count) (λ root. Ok (Numbered n (united (root.0 ∷ [])), root.1))

-- an item of a representation
abbrev pub member_solid : File → Inner → ℕ → Transform → Param → ℕ → Counted Shape
member_solid file inner representation map p count = next (member_instance file.section representation 4 p) (λ m. inner m map count)

abbrev pub operator_kinds : List Kind
operator_kinds = kind.CartesianTransformationOperator3d ∷ kind.CartesianTransformationOperator3dNonUniform ∷ []

-- the map of a mapped item: what surrounds it, then the operator, then the axes of its origin
abbrev pub mapped : File → ℕ → Transform → Transform → Read Transform
mapped file n map origin =
    next (named_instance file.section operator_kinds n 2) (λ target.
    next (axes.operator file target) (λ moved.
    next (within target map moved) (λ surrounding. within n surrounding origin)))

-- IfcMappedItem, by its IfcRepresentationMap: the items of the representation, united
abbrev pub mapped_item : File → Inner → ℕ → Transform → ℕ → Counted Shape
mapped_item file inner n map count =
    next (named_instance file.section (kind.RepresentationMap ∷ []) n 1) (λ source.
    next (named_axes file source 1) (λ origin.
    next (named_instance file.section (kind.ShapeRepresentation ∷ []) source 2) (λ representation.
    next (members file.section representation 4) (λ ps.
    next (mapped file n map origin) (λ inwards.
    next (each_counted (member_solid file inner representation inwards) ps count) (λ parts. Ok (Numbered n (united parts.0), parts.1)))))))

-- the solid of an instance under a map, where what it names is read so
abbrev pub solid_by : File → Inner → Inner
solid_by file inner n map count =
    if has_kind file.section n kind.ExtrudedAreaSolid then extruded_area_solid file n map count
    else (if has_kind file.section n kind.Block then block file n map count
    else (if is_one_of file.section (kind.FacetedBrep ∷ kind.FacetedBrepWithVoids ∷ []) n then brep file n map count
    else (if is_one_of file.section (kind.HalfSpaceSolid ∷ kind.BoxedHalfSpace ∷ []) n then half_space file n map count
    else (if has_kind file.section n kind.PolygonalBoundedHalfSpace then bounded_half_space file n map count
    else (if is_one_of file.section (kind.BooleanResult ∷ kind.BooleanClippingResult ∷ []) n then boolean_result file inner n map count
    else (if has_kind file.section n kind.CsgSolid then csg_solid file inner n map count
    else (if has_kind file.section n kind.MappedItem then mapped_item file inner n map count else Err (Unsupported n))))))))

-- the solid of an instance that stands in others, where so many more may stand one in another
unfoldable pub solid : ℕ → File → Inner
solid zero file n map count = Err (TooDeep n)
solid (suc deeper) file n map count = solid_by file (solid deeper file) n map count

-- solids stand at most so deep
abbrev pub most_depth : ℕ
most_depth = 64
