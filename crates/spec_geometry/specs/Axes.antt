-- Axes in space and in the plane, and transformation operators (ISO 10303-42 in IFC4).
use Rattle.std.specs.Prelude.{ℕ, ℤ, List, [], ◌∷◌, Option, Some, None, Ok, if◌then◌else◌}
use Rattle.spec_space.specs.declared.Vector.{Vector}
use Rattle.spec_table.specs.Sections.{DataSection}
use Rattle.spec_table.specs.Attributes.{attr_ref}
use Rattle.ifc_kinds.specs.declared.kind.Kind.{Kind}
use Rattle.ifc_kinds.specs.declared.kind.Kind.TheVariants as kind
use Rattle.spec_place.specs.declared.transform.Transform.{Transform}
use Rattle.spec_place.specs.Frames.{frame_of_axes}
use Rattle.spec_place.specs.Maps.{map_then, scales, operator_map}
use Rattle.spec_refusal.specs.Reads.{Read, next}
use Rattle.spec_entity.specs.Reads.{as_read, has_kind, instance_of_kinds, named_instance}
use Rattle.spec_geometry.specs.Files.{File, placed, if_some, number_if_set}
use Rattle.spec_geometry.specs.Points.{named_point, plane_point, direction, plane_direction, if_direction}

-- Axes in space.

abbrev pub axes_kinds : List Kind
axes_kinds = kind.Axis2Placement3d ∷ kind.Axis2Placement2d ∷ []

-- IfcAxis2Placement3D
abbrev pub axes_3d : File → ℕ → Read Transform
axes_3d file n =
    next (named_point file n 1) (λ at.
    next (if_direction direction file.section n 2) (λ axis.
    next (if_direction direction file.section n 3) (λ ref. placed n (frame_of_axes at axis ref))))

-- IfcAxis2Placement2D, where axes in space are wanted
abbrev pub axes_2d : File → ℕ → Read Transform
axes_2d file n =
    next (named_point file n 1) (λ at.
    next (if_direction plane_direction file.section n 2) (λ ref. placed n (frame_of_axes at None ref)))

abbrev pub axes : File → ℕ → Read Transform
axes file n = if has_kind file.section n kind.Axis2Placement3d then axes_3d file n else axes_2d file n

-- axes at a position
abbrev pub named_axes : File → ℕ → ℕ → Read Transform
named_axes file at position = next (named_instance file.section axes_kinds at position) (axes file)

-- axes or none at a position
abbrev pub if_axes : File → ℕ → ℕ → Read (Option Transform)
if_axes file at position =
    next (as_read (attr_ref file.section at position)) (λ o. if_some (λ n. next (instance_of_kinds file.section axes_kinds n) (axes file)) o)

-- Maps.

-- what stands as axes within a map; a refusal names what is being added
abbrev pub within : ℕ → Transform → Transform → Read Transform
within at map inner = placed at (map_then map inner)

abbrev pub within_if : ℕ → Transform → Option Transform → Read Transform
within_if at map None = Ok map
within_if at map (Some inner) = within at map inner

-- the map with the axes at a position, and with those at a position if they are set
abbrev pub map_within : File → Transform → ℕ → ℕ → Read Transform
map_within file map at position = next (named_axes file at position) (within at map)

abbrev pub map_within_if : File → Transform → ℕ → ℕ → Read Transform
map_within_if file map at position = next (if_axes file at position) (within_if at map)

-- IfcCartesianTransformationOperator3D and its form that is not uniform

-- a scale of the form that is not uniform
abbrev pub further_scale : DataSection → ℕ → ℕ → Read (Option ℤ)
further_scale section n position =
    if has_kind section n kind.CartesianTransformationOperator3dNonUniform then number_if_set section n position else Ok None

abbrev pub operator : File → ℕ → Read Transform
operator file n =
    next (if_direction direction file.section n 1) (λ first.
    next (if_direction direction file.section n 2) (λ second.
    next (named_point file n 3) (λ at.
    next (number_if_set file.section n 4) (λ scale.
    next (if_direction direction file.section n 5) (λ third.
    next (further_scale file.section n 6) (λ scale2.
    next (further_scale file.section n 7) (λ scale3.
    placed n (operator_map at first second third (scales scale scale2 scale3)))))))))

-- Axes in the plane.

-- a place in the plane, and a direction, if it is set
pub record PlaneAxes : Type 0 where
  pub at : Vector
  pub ref : Option Vector

-- IfcAxis2Placement2D, where axes in the plane are wanted
abbrev pub plane_axes : File → ℕ → Read PlaneAxes
plane_axes file n =
    next (named_instance file.section (kind.CartesianPoint ∷ []) n 1) (λ p.
    next (plane_point file p) (λ at.
    next (if_direction plane_direction file.section n 2) (λ ref. Ok (record { at = at; ref = ref }))))

-- plane axes or none at a position
abbrev pub if_plane_axes : File → ℕ → ℕ → Read (Option PlaneAxes)
if_plane_axes file at position =
    next (as_read (attr_ref file.section at position)) (λ o.
    if_some (λ n. next (instance_of_kinds file.section (kind.Axis2Placement2d ∷ []) n) (plane_axes file)) o)
