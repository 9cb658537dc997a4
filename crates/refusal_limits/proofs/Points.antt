-- Lengths, points, directions, axes and operators, if the numbers of the section are short.
use Rattle.std.proofs.Common.{ℕ, ℤ, List, [], ◌∷◌, Option, Some, None, Result, Ok, Err, length, refl}
use Rattle.spec_space.specs.declared.Vector.{Vector}
use Rattle.spec_step.specs.declared.tree.Param.{Param}
use Rattle.spec_table.specs.Sections.{DataSection}
use Rattle.spec_table.specs.Attributes.{attr_enum}
use Rattle.ifc_kinds.specs.declared.kind.Kind.TheVariants as kind
use Rattle.spec_place.specs.declared.fault.PlaceFault.{PlaceFault}
use Rattle.spec_place.specs.declared.fault.PlaceFault.TheVariants as place
use Rattle.spec_place.specs.declared.transform.Transform.{Transform}
use Rattle.spec_place.specs.Lengths.{length_of}
use Rattle.spec_refusal.specs.declared.Refusal.{Refusal}
use Rattle.spec_refusal.specs.Reads.{Read}
use Rattle.spec_entity.specs.Reads.{each, has_kind}
use Rattle.spec_geometry.specs.Files as files
use Rattle.spec_geometry.specs.Files.{File, placed, if_some, found, length_within, positive, zero, number_if_set, boolean_named, boolean, wanted_instance}
use Rattle.spec_geometry.specs.Points.{coordinates, point, plane_point, named_point, ratios, direction, plane_direction, if_direction}
use Rattle.spec_geometry.specs.Axes as axes
use Rattle.spec_geometry.specs.Axes.{PlaneAxes, axes_kinds, axes_3d, axes_2d, named_axes, if_axes, within, within_if, map_within, map_within_if, further_scale, operator, plane_axes, if_plane_axes}
use Rattle.spec_check.specs.Limits.{IsShort, IsRefusalWithin}
use Rattle.table_limits.proofs.Kept.{IsKept, IsFew, few_short, AreRead, each_read, read, refused, weaker, onward, tested, either}
use Rattle.table_limits.proofs.Trees.{IsShortParam, IsShortList}
use Rattle.table_limits.proofs.Tables.{IsShortSection, Any, IfSet, wanted_kept, attr_ref_kept, attr_real_kept, attr_enum_kept}
use Rattle.table_limits.proofs.Entities.{kinds_kept, wanted_ref, named_kept, number_kept, wanted_number_kept, two_or_three_kept, ratio_kept}

-- Parts.

pub placed_kept : {T : Type 0} (at : ℕ) (r : Result T PlaceFault) → IsShort at → IsKept Any (placed at r)
placed_kept at (Ok x) h = read tt
placed_kept at (Err place.ZeroDirection) h = refused h
placed_kept at (Err place.Parallel) h = refused h
placed_kept at (Err place.OffsetTooLarge) h = refused h
placed_kept at (Err place.ScaleOutOfRange) h = refused h

found_kept : {T : Type 0} (why : Refusal) (o : Option T) → IsRefusalWithin why → IsKept Any (found why o)
found_kept why None h = refused h
found_kept why (Some x) h = read tt

if_some_kept : {T U : Type 0} {P : T → Type 0} {Q : U → Type 0} (go_on : T → Read U) (o : Option T) → IfSet P o → ((x : T) → P x → IsKept Q (go_on x)) → IsKept (IfSet Q) (if_some go_on o)
if_some_kept go_on None h k = read tt
if_some_kept go_on (Some x) h k = onward (k x h) (λ y q. read q)

-- any list of a file
pub each_of : {T : Type 0} {P : T → Type 0} {go_on : Param → Read T} (ps : List Param) → IsShortList ps → ((q : Param) → IsShortParam q → IsKept P (go_on q)) → IsKept (AreRead P (length ps)) (each go_on ps)
each_of ps h k = each_read k ps h.each

length_within_kept : (file : File) (at : ℕ) (v : ℤ) → IsShort at → IsKept Any (length_within file at v)
length_within_kept file at v h = found_kept _ (length_of file.unit v) h

pub within_kept : (at : ℕ) (map inner : Transform) → IsShort at → IsKept Any (within at map inner)
within_kept at map inner h = placed_kept at _ h

within_if_kept : (at : ℕ) (map : Transform) (o : Option Transform) → IsShort at → IsKept Any (within_if at map o)
within_if_kept at map None h = read tt
within_if_kept at map (Some inner) h = within_kept at map inner h

module _ (file : File) (short : IsShortSection file.section) where
  pub length_kept : (at position : ℕ) (q : Param) → IsShort at → IsFew position → IsKept Any (files.length file at position q)
  length_kept at position q a p = onward (number_kept file.section short at position q a p) (λ v _. length_within_kept file at v a)

  pub positive_kept : (at position : ℕ) → IsShort at → IsFew position → IsKept Any (positive file at position)
  positive_kept at position a p =
      onward (wanted_number_kept file.section short at position a p) (λ v _. tested _ _ (a, few_short p) (length_within_kept file at v a))

  pub zero_kept : (at position : ℕ) → IsShort at → IsFew position → IsKept Any (zero file.section at position)
  zero_kept at position a p = onward (attr_real_kept file.section short at position a (few_short p)) (λ o _. tested _ _ a (read tt))

  pub boolean_kept : (at position : ℕ) → IsShort at → IsFew position → IsKept Any (boolean file.section at position)
  boolean_kept at position a p =
      onward (wanted_kept at position (attr_enum file.section at position) a (few_short p) (attr_enum_kept file.section short at position a (few_short p)))
      (λ text _. tested _ _ (a, few_short p) (read tt))

  scale_kept : (n position : ℕ) → IsShort n → IsFew position → IsKept Any (number_if_set file.section n position)
  scale_kept n position a p = weaker (attr_real_kept file.section short n position a (few_short p)) (λ o _. tt)

  -- Points and directions.

  coordinates_kept : (n : ℕ) → IsShort n → IsKept Any (coordinates file n)
  coordinates_kept n h =
      onward (two_or_three_kept file.section short n h) (λ ps k.
      weaker (each_of ps k (λ q _. length_kept n 1 q h refl)) (λ xs _. tt))

  pub point_kept : (n : ℕ) → IsShort n → IsKept Any (point file n)
  point_kept n h = onward (coordinates_kept n h) (λ xs _. read tt)

  pub plane_point_kept : (n : ℕ) → IsShort n → IsKept Any (plane_point file n)
  plane_point_kept n h = onward (coordinates_kept n h) (λ xs _. read tt)

  named_point_kept : (at position : ℕ) → IsShort at → IsFew position → IsKept Any (named_point file at position)
  named_point_kept at position a p = onward (named_kept file.section short (kind.CartesianPoint ∷ []) at position a p) (λ n h. point_kept n h)

  ratios_kept : (n : ℕ) → IsShort n → IsKept Any (ratios file.section n)
  ratios_kept n h =
      onward (two_or_three_kept file.section short n h) (λ ps k.
      weaker (each_of ps k (λ q _. ratio_kept file.section short n q h)) (λ xs _. tt))

  pub direction_kept : (n : ℕ) → IsShort n → IsKept Any (direction file.section n)
  direction_kept n h = onward (ratios_kept n h) (λ rs _. placed_kept n _ h)

  plane_direction_kept : (n : ℕ) → IsShort n → IsKept Any (plane_direction file.section n)
  plane_direction_kept n h = onward (ratios_kept n h) (λ rs _. placed_kept n _ h)

  if_direction_kept : (go_on : DataSection → ℕ → Read Vector) → ((n : ℕ) → IsShort n → IsKept Any (go_on file.section n)) → (at position : ℕ) → IsShort at → IsFew position
      → IsKept (IfSet Any) (if_direction go_on file.section at position)
  if_direction_kept go_on k at position a p =
      onward (attr_ref_kept file.section short at position a (few_short p)) (λ o h.
      if_some_kept _ o h (λ n s. onward (kinds_kept file.section short (kind.Direction ∷ []) n s) (λ m t. k m t)))

  -- Axes.

  axes_3d_kept : (n : ℕ) → IsShort n → IsKept Any (axes_3d file n)
  axes_3d_kept n h =
      onward (named_point_kept n 1 h refl) (λ at _.
      onward (if_direction_kept direction direction_kept n 2 h refl) (λ axis _.
      onward (if_direction_kept direction direction_kept n 3 h refl) (λ ref _. placed_kept n _ h)))

  axes_2d_kept : (n : ℕ) → IsShort n → IsKept Any (axes_2d file n)
  axes_2d_kept n h =
      onward (named_point_kept n 1 h refl) (λ at _.
      onward (if_direction_kept plane_direction plane_direction_kept n 2 h refl) (λ ref _. placed_kept n _ h))

  axes_kept : (n : ℕ) → IsShort n → IsKept Any (axes.axes file n)
  axes_kept n h = either (has_kind file.section n kind.Axis2Placement3d) (axes_3d_kept n h) (axes_2d_kept n h)

  pub named_axes_kept : (at position : ℕ) → IsShort at → IsFew position → IsKept Any (named_axes file at position)
  named_axes_kept at position a p = onward (named_kept file.section short axes_kinds at position a p) (λ n h. axes_kept n h)

  if_axes_kept : (at position : ℕ) → IsShort at → IsFew position → IsKept (IfSet Any) (if_axes file at position)
  if_axes_kept at position a p =
      onward (attr_ref_kept file.section short at position a (few_short p)) (λ o h.
      if_some_kept _ o h (λ n s. onward (kinds_kept file.section short axes_kinds n s) (λ m t. axes_kept m t)))

  pub map_within_kept : (map : Transform) (at position : ℕ) → IsShort at → IsFew position → IsKept Any (map_within file map at position)
  map_within_kept map at position a p = onward (named_axes_kept at position a p) (λ inner _. within_kept at map inner a)

  pub map_within_if_kept : (map : Transform) (at position : ℕ) → IsShort at → IsFew position → IsKept Any (map_within_if file map at position)
  map_within_if_kept map at position a p = onward (if_axes_kept at position a p) (λ o _. within_if_kept at map o a)

  further_kept : (n position : ℕ) → IsShort n → IsFew position → IsKept Any (further_scale file.section n position)
  further_kept n position h p = either (has_kind file.section n kind.CartesianTransformationOperator3dNonUniform) (scale_kept n position h p) (read tt)

  pub map_kept : (n : ℕ) → IsShort n → IsKept Any (operator file n)
  map_kept n h =
      onward (if_direction_kept direction direction_kept n 1 h refl) (λ first _.
      onward (if_direction_kept direction direction_kept n 2 h refl) (λ second _.
      onward (named_point_kept n 3 h refl) (λ at _.
      onward (scale_kept n 4 h refl) (λ scale _.
      onward (if_direction_kept direction direction_kept n 5 h refl) (λ third _.
      onward (further_kept n 6 h refl) (λ scale2 _.
      onward (further_kept n 7 h refl) (λ scale3 _. placed_kept n _ h)))))))

  -- Axes in the plane.

  plane_axes_kept : (n : ℕ) → IsShort n → IsKept Any (plane_axes file n)
  plane_axes_kept n h =
      onward (named_kept file.section short (kind.CartesianPoint ∷ []) n 1 h refl) (λ p s.
      onward (plane_point_kept p s) (λ at _.
      onward (if_direction_kept plane_direction plane_direction_kept n 2 h refl) (λ ref _. read tt)))

  pub if_plane_axes_kept : (at position : ℕ) → IsShort at → IsFew position → IsKept (IfSet Any) (if_plane_axes file at position)
  if_plane_axes_kept at position a p =
      onward (attr_ref_kept file.section short at position a (few_short p)) (λ o h.
      if_some_kept _ o h (λ n s. onward (kinds_kept file.section short (kind.Axis2Placement2d ∷ []) n s) (λ m t. plane_axes_kept m t)))

  pub wanted_instance_kept : (at position : ℕ) → IsShort at → IsFew position → IsKept IsShort (wanted_instance file.section at position)
  wanted_instance_kept at position a p = wanted_ref file.section short at position a p
