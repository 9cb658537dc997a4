-- Solids, if the numbers of the section are short: what is read of them names instances by short numbers.
use Rattle.std.proofs.Common.{◌^◌, ℕ, pos, neg_ℤ, ◌*ℤ◌, zero, suc, List, [], ◌∷◌, map, refl}
use Rattle.std.proofs.lemmas.Bool.{leb-true}
use Rattle.spec_space.specs.declared.Vector.{Vector}
use Rattle.spec_solid.specs.Extrusions.{extrusion}
use Rattle.spec_step.specs.declared.tree.Param.{Param}
use Rattle.ifc_kinds.specs.declared.kind.Kind.TheVariants as kind
use Rattle.spec_place.specs.declared.transform.Transform.{Transform}
use Rattle.spec_shape.specs.Profiles.{planar}
use Rattle.spec_shape.specs.Shapes.{Shape, Faces, Half, Combined, Numbered, united, prism_faces, upwards, lifted, block_faces}
use Rattle.spec_entity.specs.Reads.{has_kind, is_one_of}
use Rattle.spec_geometry.specs.Files.{File}
use Rattle.spec_geometry.specs.Solids as solids
use Rattle.spec_geometry.specs.Solids.{extruded_area_solid, sizes, brep, half_space, reach, column, bounded_half_space, Inner, operand, boolean_result, csg_solid, member_solid, operator_kinds, mapped, mapped_item, solid_by, solid}
use Rattle.spec_check.specs.Limits.{IsShort}
use Rattle.table_limits.proofs.Kept.{IsKept, IsFew, few_short, Each, read, refused, onward, either}
use Rattle.table_limits.proofs.Trees.{IsShortParam}
use Rattle.table_limits.proofs.Tables.{IsShortSection, Any}
use Rattle.table_limits.proofs.Entities.{named_kept, member_kept, members_kept, operator_kept}
use Rattle.refusal_limits.proofs.Points.{positive_kept, boolean_kept, direction_kept, named_axes_kept, within_kept, map_within_kept, map_within_if_kept, map_kept, wanted_instance_kept}
use Rattle.refusal_limits.proofs.Curves.{named_curve_kept}
use Rattle.refusal_limits.proofs.Profiles.{IsCount, IsCounted, count_kept, loop_counted, named_profile_kept}
use Rattle.refusal_limits.proofs.Breps.{each_counted_kept, IsShortFace, brep_faces_kept}

-- the numbers of the instances that a solid names are short
abbrev pub IsShortShape : Shape → Type 0
IsShortShape (Faces at map faces) = IsShort at × Each IsShortFace faces
IsShortShape (Half at map agreement) = IsShort at
IsShortShape (Combined operator first second) = IsShortShape first × IsShortShape second
IsShortShape (Numbered at shape) = IsShortShape shape

faces_each : (at : ℕ) (all : List (List (List Vector))) → IsShort at → Each IsShortFace (map (λ loops. record { at = at; loops = loops }) all)
faces_each at [] h = tt
faces_each at (loops ∷ all) h = (h, faces_each at all h)

prism_short : (at : ℕ) (loops : List (List Vector)) (sweep : Vector) → IsShort at → Each IsShortFace (prism_faces at loops sweep)
prism_short at loops sweep h = faces_each at (extrusion loops sweep) h

block_short : (at : ℕ) (size : Vector) → IsShort at → Each IsShortFace (block_faces at size)
block_short at size h =
    let loop : List Vector = planar (pos 0) (pos 0) ∷ planar size.x (pos 0) ∷ planar size.x size.y ∷ planar (pos 0) size.y ∷ [] in
    prism_short at (loop ∷ []) (upwards size.z) h

column_short : (at grid : ℕ) (map : Transform) (points : List Vector) → IsShort at → IsShortShape (column at grid map points)
column_short at grid map points h = (h, prism_short at (lifted (neg_ℤ (reach grid)) (points ∷ [])) (upwards (pos 2 *ℤ reach grid)) h)

united_short : (parts : List Shape) → Each IsShortShape parts → IsShortShape (united parts)
united_short [] h = (few_short refl, tt)
united_short (s ∷ ss) h = (h.0, united_short ss h.1)

abbrev pub AllKept : Inner → Type 0
AllKept inner = (n : ℕ) (map : Transform) (count : ℕ) → IsShort n → IsCount count → IsKept (IsCounted IsShortShape) (inner n map count)

module _ (file : File) (short : IsShortSection file.section) where
  -- Primitives.

  extrusion_kept : AllKept (extruded_area_solid file)
  extrusion_kept n map count h c =
      onward (named_profile_kept file short n 1 count h refl c) (λ swept k.
      onward (map_within_if_kept file short map n 2 h refl) (λ placed _.
      onward (named_kept file.section short (kind.Direction ∷ []) n 3 h refl) (λ d s.
      onward (direction_kept file short d s) (λ along _.
      onward (positive_kept file short n 4 h refl) (λ depth _. read (record { value = (h, prism_short n swept.0 _ h); count = k.count }))))))

  sizes_kept : (n : ℕ) → IsShort n → IsKept Any (sizes file n)
  sizes_kept n h =
      onward (positive_kept file short n 2 h refl) (λ x _.
      onward (positive_kept file short n 3 h refl) (λ y _.
      onward (positive_kept file short n 4 h refl) (λ z _. read tt)))

  block_kept : AllKept (solids.block file)
  block_kept n map count h c =
      onward (map_within_kept file short map n 1 h refl) (λ placed _.
      onward (sizes_kept n h) (λ size _.
      onward (count_kept count 24 c (leb-true 24 (2 ^ 60) refl)) (λ more m. read (record { value = (h, block_short n size h); count = m }))))

  brep_kept : AllKept (brep file)
  brep_kept n map count h c = onward (brep_faces_kept file short n count h c) (λ faces k. read (record { value = (h, k.value); count = k.count }))

  half_kept : AllKept (half_space file)
  half_kept n map count h c =
      onward (named_kept file.section short (kind.Plane ∷ []) n 1 h refl) (λ plane s.
      onward (named_axes_kept file short plane 1 s refl) (λ frame _.
      onward (within_kept n map frame h) (λ placed _.
      onward (boolean_kept file short n 2 h refl) (λ agreement _.
      onward (count_kept count 1 c (leb-true 1 (2 ^ 60) refl)) (λ more m. read (record { value = h; count = m }))))))

  bounded_kept : AllKept (bounded_half_space file)
  bounded_kept n map count h c =
      onward (half_kept n map count h c) (λ half k.
      onward (map_within_kept file short map n 3 h refl) (λ placed _.
      onward (named_curve_kept file short n 4 h refl) (λ points few.
      onward (loop_counted half.1 points k.count few) (λ more m. read (record { value = (k.value, column_short n file.grid placed points h); count = m })))))

  -- Solids of other solids.

  module _ (inner : Inner) (all : AllKept inner) where
    operand_kept : (n position : ℕ) (map : Transform) (count : ℕ) → IsShort n → IsFew position → IsCount count → IsKept (IsCounted IsShortShape) (operand file inner n position map count)
    operand_kept n position map count h p c = onward (wanted_instance_kept file short n position h p) (λ m s. all m map count s c)

    result_kept : AllKept (boolean_result file inner)
    result_kept n map count h c =
        onward (operator_kept file.section short n h) (λ o _.
        onward (operand_kept n 2 map count h refl c) (λ first k.
        onward (operand_kept n 3 map first.1 h refl k.count) (λ second m. read (record { value = (k.value, m.value); count = m.count }))))

    csg_kept : AllKept (csg_solid file inner)
    csg_kept n map count h c = onward (operand_kept n 1 map count h refl c) (λ root k. read (record { value = united_short (root.0 ∷ []) (k.value, tt); count = k.count }))

    member_solid_kept : (representation : ℕ) (map : Transform) (q : Param) (count : ℕ) → IsShort representation → IsShortParam q → IsCount count
        → IsKept (IsCounted IsShortShape) (member_solid file inner representation map q count)
    member_solid_kept representation map q count h s c = onward (member_kept file.section short representation 4 q h refl s) (λ m a. all m map count a c)

    mapped_kept : (n : ℕ) (map origin : Transform) → IsShort n → IsKept Any (mapped file n map origin)
    mapped_kept n map origin h =
        onward (named_kept file.section short operator_kinds n 2 h refl) (λ target s.
        onward (map_kept file short target s) (λ moved _.
        onward (within_kept target map moved s) (λ surrounding _. within_kept n surrounding origin h)))

    mapped_item_kept : AllKept (mapped_item file inner)
    mapped_item_kept n map count h c =
        onward (named_kept file.section short (kind.RepresentationMap ∷ []) n 1 h refl) (λ source s.
        onward (named_axes_kept file short source 1 s refl) (λ origin _.
        onward (named_kept file.section short (kind.ShapeRepresentation ∷ []) source 2 s refl) (λ representation r.
        onward (members_kept file.section short representation 4 r refl) (λ ps k.
        onward (mapped_kept n map origin h) (λ inwards _.
        onward (each_counted_kept (λ q more t m. member_solid_kept representation inwards q more r t m) ps count k.each c) (λ parts m.
        read (record { value = united_short parts.0 m.value; count = m.count })))))))

    solid_by_kept : AllKept (solid_by file inner)
    solid_by_kept n map count h c =
        either (has_kind file.section n kind.ExtrudedAreaSolid) (extrusion_kept n map count h c)
        (either (has_kind file.section n kind.Block) (block_kept n map count h c)
        (either (is_one_of file.section (kind.FacetedBrep ∷ kind.FacetedBrepWithVoids ∷ []) n) (brep_kept n map count h c)
        (either (is_one_of file.section (kind.HalfSpaceSolid ∷ kind.BoxedHalfSpace ∷ []) n) (half_kept n map count h c)
        (either (has_kind file.section n kind.PolygonalBoundedHalfSpace) (bounded_kept n map count h c)
        (either (is_one_of file.section (kind.BooleanResult ∷ kind.BooleanClippingResult ∷ []) n) (result_kept n map count h c)
        (either (has_kind file.section n kind.CsgSolid) (csg_kept n map count h c)
        (either (has_kind file.section n kind.MappedItem) (mapped_item_kept n map count h c) (refused h))))))))

  pub solid_kept : (deeper : ℕ) → AllKept (solid deeper file)
  unfolding solid
  solid_kept zero n map count h c = refused h
  solid_kept (suc deeper) n map count h c = solid_by_kept (solid deeper file) (solid_kept deeper) n map count h c
