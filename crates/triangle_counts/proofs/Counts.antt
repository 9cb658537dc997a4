-- How many triangles and half-spaces the solids have that are read: at most 4096.
use Rattle.std.proofs.Common.{◌≡◌, ℕ, ℤ, zero, suc, ◌+◌, ◌*◌, ◌≤◌, Bool, List, [], ◌∷◌, ◌++◌, length, sum_by, Option, Some, None, Result, Ok, Err, IfOk, IfSome, if◌then◌else◌, refl, sym, ◌∙◌, ap, arith}
use Rattle.std.proofs.lemmas.List.Sums.{sum_by-cons, sum_by-append}
use Rattle.std.proofs.lemmas.Result.{IfOk-at_ok}
use Rattle.std.specs.Option.{option_map}
use Rattle.spec_space.specs.declared.Vector.{Vector}
use Rattle.spec_solid.specs.declared.BoolOp.{BoolOp}
use Rattle.spec_solid.specs.declared.BoolOp.TheVariants.{Intersection}
use Rattle.spec_step.specs.declared.tree.Param.{Param}
use Rattle.spec_table.specs.Attributes.{attr_ref}
use Rattle.ifc_kinds.specs.declared.kind.Kind.TheVariants as kind
use Rattle.spec_place.specs.declared.transform.Transform.{Transform}
use Rattle.spec_place.specs.Transforms.{identity}
use Rattle.spec_place.specs.Chains.{Link}
use Rattle.spec_refusal.specs.declared.Refusal.TheVariants.{Unsupported}
use Rattle.spec_refusal.specs.Reads.{Read, next}
use Rattle.spec_shape.specs.Shapes.{Face, face_count, Shape, Faces, Half, Combined, Numbered, nothing, united, ShapeItem, ElementShape, count_triangles, item_count, element_count, prism_faces, block_faces}
use Rattle.spec_entity.specs.Reads.{has_kind, is_one_of, instance_of_kinds, named_instance, member_instance, members, wanted_value}
use Rattle.spec_entity.specs.Operators.{operator}
use Rattle.spec_entity.specs.Elements.{Representation, representation}
use Rattle.spec_geometry.specs.Files.{File, positive, boolean, wanted_instance}
use Rattle.spec_geometry.specs.Points.{direction}
use Rattle.spec_geometry.specs.Axes.{named_axes, within, map_within, map_within_if}
use Rattle.spec_geometry.specs.Curves.{named_curve}
use Rattle.spec_geometry.specs.Profiles.{Counted, count_with, count_loop, named_profile}
use Rattle.spec_geometry.specs.Breps as breps
use Rattle.spec_geometry.specs.Breps.{each_counted, brep_faces, flat}
use Rattle.spec_geometry.specs.Solids as solids
use Rattle.spec_geometry.specs.Solids.{Inner, solid, solid_by, sweep, operand, mapped, member_solid, column}
use Rattle.spec_geometry.specs.Placements.{chain, world_frame, opening_frame}
use Rattle.spec_geometry.specs.Elements as elements
use Rattle.spec_geometry.specs.Elements.{item, items, opening_items, openings, voiding, opening_kinds, shape_of_body, element_body}
use Rattle.triangle_counts.proofs.Reaches.{keeps, either, Reaches, Adds, no_more, then_more, as_many, count_reaches, each_adds}
use Rattle.triangle_counts.proofs.Swept.{edge_count, prism_count, column_count}
use Rattle.triangle_counts.proofs.Profiles.{Loops, all_edges, named_profile_adds}

-- Breps.

bound_adds : (file : File) (n count : ℕ) → IfOk (breps.bound file n count) (Adds length count)
bound_adds file n count =
    let made : List Vector → ℕ → Counted (List Vector) = λ points more. Ok (points, more) in
    let counted : List Vector → Counted (List Vector) = λ points. next (count_with count (length points)) (made points) in
    let read : ℕ → Counted (List Vector) = λ l. next (breps.poly_loop file l) counted in
    keeps (Adds length count) (named_instance file.section (kind.PolyLoop ∷ []) n 1) read (λ l _.
    keeps (Adds length count) (breps.poly_loop file l) counted (λ points _.
    keeps (Adds length count) (count_with count (length points)) (made points) (λ more e. IfOk-at_ok (Reaches count (length points)) e (count_reaches count (length points)))))

member_bound_adds : (file : File) (face : ℕ) (p : Param) (count : ℕ) → IfOk (breps.member_bound file face p count) (Adds length count)
member_bound_adds file face p count =
    let read : ℕ → Counted (List Vector) = λ n. breps.bound file n count in
    let found : ℕ → Counted (List Vector) = λ m. next (instance_of_kinds file.section (kind.FaceBound ∷ kind.FaceOuterBound ∷ []) m) read in
    keeps (Adds length count) (member_instance file.section face 1 p) found (λ m _.
    keeps (Adds length count) (instance_of_kinds file.section (kind.FaceBound ∷ kind.FaceOuterBound ∷ []) m) read (λ n _. bound_adds file n count))

face_adds : (file : File) (n count : ℕ) → IfOk (breps.face file n count) (Adds face_count count)
face_adds file n count =
    let made : Loops × ℕ → Counted Face = λ loops. Ok (record { at = n; loops = loops.0 }, loops.1) in
    let read : List Param → Counted Face = λ ps. next (each_counted (breps.member_bound file n) ps count) made in
    keeps (Adds face_count count) (members file.section n 1) read (λ ps _.
    keeps (Adds face_count count) (each_counted (breps.member_bound file n) ps count) made (λ loops e.
    IfOk-at_ok (Adds edge_count count) e (each_adds length (breps.member_bound file n) (member_bound_adds file n) ps count)))

member_face_adds : (file : File) (shell : ℕ) (p : Param) (count : ℕ) → IfOk (breps.member_face file shell p count) (Adds face_count count)
member_face_adds file shell p count =
    let read : ℕ → Counted Face = λ n. breps.face file n count in
    let found : ℕ → Counted Face = λ m. next (instance_of_kinds file.section (kind.Face ∷ []) m) read in
    keeps (Adds face_count count) (member_instance file.section shell 1 p) found (λ m _.
    keeps (Adds face_count count) (instance_of_kinds file.section (kind.Face ∷ []) m) read (λ n _. face_adds file n count))

abbrev all_faces : List Face → ℕ
all_faces faces = sum_by face_count faces

shell_adds : (file : File) (n count : ℕ) → IfOk (breps.shell file n count) (Adds all_faces count)
shell_adds file n count =
    let read : List Param → Counted (List Face) = λ ps. each_counted (breps.member_face file n) ps count in
    keeps (Adds all_faces count) (members file.section n 1) read (λ ps _. each_adds face_count (breps.member_face file n) (member_face_adds file n) ps count)

outer_adds : (file : File) (n count : ℕ) → IfOk (breps.outer_shell file n count) (Adds all_faces count)
outer_adds file n count =
    keeps (Adds all_faces count) (named_instance file.section (kind.ClosedShell ∷ []) n 1) (λ s. breps.shell file s count) (λ s _. shell_adds file s count)

member_shell_adds : (file : File) (n : ℕ) (p : Param) (count : ℕ) → IfOk (breps.member_shell file n p count) (Adds all_faces count)
member_shell_adds file n p count =
    let read : ℕ → Counted (List Face) = λ s. breps.shell file s count in
    let found : ℕ → Counted (List Face) = λ m. next (instance_of_kinds file.section (kind.ClosedShell ∷ []) m) read in
    keeps (Adds all_faces count) (member_instance file.section n 2 p) found (λ m _.
    keeps (Adds all_faces count) (instance_of_kinds file.section (kind.ClosedShell ∷ []) m) read (λ s _. shell_adds file s count))

flat_count : (shells : List (List Face)) → sum_by all_faces shells ≡ all_faces (flat shells)
flat_count [] = refl
flat_count (fs ∷ rest) = omega (arith, sum_by-cons all_faces fs rest, sum_by-append face_count fs (flat rest), flat_count rest)

with_voids : (count : ℕ) (outer : List Face × ℕ) (voids : List (List Face) × ℕ) → Adds all_faces count outer → Adds (sum_by all_faces) outer.1 voids
    → Adds all_faces count (outer.0 ++ flat voids.0, voids.1)
with_voids count outer voids h k =
    as_many count (all_faces outer.0 + sum_by all_faces voids.0) (all_faces (outer.0 ++ flat voids.0)) voids.1
    (ap (λ n. all_faces outer.0 + n) (flat_count voids.0) ∙ sym (sum_by-append face_count outer.0 (flat voids.0)))
    (then_more count (all_faces outer.0) outer.1 (sum_by all_faces voids.0) voids.1 h k)

voids_add : (file : File) (n count : ℕ) → IfOk (breps.faces_with_voids file n count) (Adds all_faces count)
voids_add file n count =
    let made : List Face × ℕ → List (List Face) × ℕ → Counted (List Face) = λ outer voids. Ok (outer.0 ++ flat voids.0, voids.1) in
    let read : List Face × ℕ → List Param → Counted (List Face) = λ outer ps. next (each_counted (breps.member_shell file n) ps outer.1) (made outer) in
    let listed : List Face × ℕ → Counted (List Face) = λ outer. next (members file.section n 2) (read outer) in
    keeps (Adds all_faces count) (breps.outer_shell file n count) listed (λ outer e.
    keeps (Adds all_faces count) (members file.section n 2) (read outer) (λ ps _.
    keeps (Adds all_faces count) (each_counted (breps.member_shell file n) ps outer.1) (made outer) (λ voids d.
    with_voids count outer voids (IfOk-at_ok (Adds all_faces count) e (outer_adds file n count))
    (IfOk-at_ok (Adds (sum_by all_faces) outer.1) d (each_adds all_faces (breps.member_shell file n) (member_shell_adds file n) ps outer.1)))))

-- Primitives.

abbrev Counts : ℕ → Shape × ℕ → Type 0
Counts count read = Adds count_triangles count read

brep_adds : (file : File) (n : ℕ) (map : Transform) (count : ℕ) → IfOk (solids.brep file n map count) (Counts count)
brep_adds file n map count =
    let made : List Face × ℕ → Counted Shape = λ faces. Ok (Faces n map faces.0, faces.1) in
    keeps (Counts count) (brep_faces file n count) made (λ faces e.
    IfOk-at_ok (Adds all_faces count) e (either (Adds all_faces count) (has_kind file.section n kind.FacetedBrep) (breps.outer_shell file n count) (breps.faces_with_voids file n count) (outer_adds file n count) (voids_add file n count)))

extrusion_adds : (file : File) (n : ℕ) (map : Transform) (count : ℕ) → IfOk (solids.extruded_area_solid file n map count) (Counts count)
extrusion_adds file n map count =
    let made : Loops × ℕ → Transform → Vector → ℤ → Counted Shape = λ swept placed along depth. Ok (Faces n placed (prism_faces n swept.0 (sweep along depth)), swept.1) in
    let deep : Loops × ℕ → Transform → Vector → Counted Shape = λ swept placed along. next (positive file n 4) (made swept placed along) in
    let directed : Loops × ℕ → Transform → ℕ → Counted Shape = λ swept placed d. next (direction file.section d) (deep swept placed) in
    let named : Loops × ℕ → Transform → Counted Shape = λ swept placed. next (named_instance file.section (kind.Direction ∷ []) n 3) (directed swept placed) in
    let outlined : Loops × ℕ → Counted Shape = λ swept. next (map_within_if file map n 2) (named swept) in
    keeps (Counts count) (named_profile file n 1 count) outlined (λ swept e.
    keeps (Counts count) (map_within_if file map n 2) (named swept) (λ placed _.
    keeps (Counts count) (named_instance file.section (kind.Direction ∷ []) n 3) (directed swept placed) (λ d _.
    keeps (Counts count) (direction file.section d) (deep swept placed) (λ along _.
    keeps (Counts count) (positive file n 4) (made swept placed along) (λ depth _.
    as_many count (all_edges swept.0) (all_faces (prism_faces n swept.0 (sweep along depth))) swept.1 (sym (prism_count n swept.0 (sweep along depth)))
    (IfOk-at_ok (Adds all_edges count) e (named_profile_adds file n 1 count)))))))

block_adds : (file : File) (n : ℕ) (map : Transform) (count : ℕ) → IfOk (solids.block file n map count) (Counts count)
block_adds file n map count =
    let made : Transform → Vector → ℕ → Counted Shape = λ placed size more. Ok (Faces n placed (block_faces n size), more) in
    let sized : Transform → Vector → Counted Shape = λ placed size. next (count_with count 24) (made placed size) in
    let read : Transform → Counted Shape = λ placed. next (solids.sizes file n) (sized placed) in
    keeps (Counts count) (map_within file map n 1) read (λ placed _.
    keeps (Counts count) (solids.sizes file n) (sized placed) (λ size _.
    keeps (Counts count) (count_with count 24) (made placed size) (λ more e.
    as_many count 24 (all_faces (block_faces n size)) more refl (IfOk-at_ok (Reaches count 24) e (count_reaches count 24)))))

half_adds : (file : File) (n : ℕ) (map : Transform) (count : ℕ) → IfOk (solids.half_space file n map count) (Counts count)
half_adds file n map count =
    let made : Transform → Bool → ℕ → Counted Shape = λ placed agreement more. Ok (Half n placed agreement, more) in
    let counted : Transform → Bool → Counted Shape = λ placed agreement. next (count_with count 1) (made placed agreement) in
    let turned : Transform → Counted Shape = λ placed. next (boolean file.section n 2) (counted placed) in
    let stood : Transform → Counted Shape = λ frame. next (within n map frame) turned in
    let read : ℕ → Counted Shape = λ plane. next (named_axes file plane 1) stood in
    keeps (Counts count) (named_instance file.section (kind.Plane ∷ []) n 1) read (λ plane _.
    keeps (Counts count) (named_axes file plane 1) stood (λ frame _.
    keeps (Counts count) (within n map frame) turned (λ placed _.
    keeps (Counts count) (boolean file.section n 2) (counted placed) (λ agreement _.
    keeps (Counts count) (count_with count 1) (made placed agreement) (λ more e. IfOk-at_ok (Reaches count 1) e (count_reaches count 1))))))

column_triangles : (n grid : ℕ) (map : Transform) (points : List Vector) → 6 * length points ≡ count_triangles (column n grid map points)
column_triangles n grid map points = sym (column_count n points _ _)

bounded_adds : (file : File) (n : ℕ) (map : Transform) (count : ℕ) → IfOk (solids.bounded_half_space file n map count) (Counts count)
bounded_adds file n map count =
    let made : Shape × ℕ → Transform → List Vector → ℕ → Counted Shape = λ half placed points more. Ok (Numbered n (Combined Intersection half.0 (column n file.grid placed points)), more) in
    let counted : Shape × ℕ → Transform → List Vector → Counted Shape = λ half placed points. next (count_loop half.1 points) (made half placed points) in
    let stood : Shape × ℕ → Transform → Counted Shape = λ half placed. next (named_curve file n 4) (counted half placed) in
    let read : Shape × ℕ → Counted Shape = λ half. next (map_within file map n 3) (stood half) in
    keeps (Counts count) (solids.half_space file n map count) read (λ half e.
    keeps (Counts count) (map_within file map n 3) (stood half) (λ placed _.
    keeps (Counts count) (named_curve file n 4) (counted half placed) (λ points _.
    keeps (Counts count) (count_loop half.1 points) (made half placed points) (λ more d.
    then_more count (count_triangles half.0) half.1 (count_triangles (column n file.grid placed points)) more
    (IfOk-at_ok (Counts count) e (half_adds file n map count))
    (as_many half.1 (6 * length points) (count_triangles (column n file.grid placed points)) more (column_triangles n file.grid placed points)
    (IfOk-at_ok (Reaches half.1 (6 * length points)) d (count_reaches half.1 (6 * length points))))))))

-- Solids of other solids.

abbrev AllAdd : Inner → Type 0
AllAdd inner = (n : ℕ) (map : Transform) (count : ℕ) → IfOk (inner n map count) (Counts count)

operand_adds : (file : File) (inner : Inner) (n position : ℕ) (map : Transform) (count : ℕ) → AllAdd inner → IfOk (operand file inner n position map count) (Counts count)
operand_adds file inner n position map count all =
    keeps (Counts count) (wanted_instance file.section n position) (λ m. inner m map count) (λ m _. all m map count)

pair_adds : (file : File) (inner : Inner) (n : ℕ) (map : Transform) (count : ℕ) → AllAdd inner → IfOk (solids.boolean_result file inner n map count) (Counts count)
pair_adds file inner n map count all =
    let made : BoolOp → Shape × ℕ → Shape × ℕ → Counted Shape = λ o first second. Ok (Numbered n (Combined o first.0 second.0), second.1) in
    let half : BoolOp → Shape × ℕ → Counted Shape = λ o first. next (operand file inner n 3 map first.1) (made o first) in
    let read : BoolOp → Counted Shape = λ o. next (operand file inner n 2 map count) (half o) in
    keeps (Counts count) (operator file.section n) read (λ o _.
    keeps (Counts count) (operand file inner n 2 map count) (half o) (λ first e.
    keeps (Counts count) (operand file inner n 3 map first.1) (made o first) (λ second d.
    then_more count (count_triangles first.0) first.1 (count_triangles second.0) second.1
    (IfOk-at_ok (Counts count) e (operand_adds file inner n 2 map count all))
    (IfOk-at_ok (Counts first.1) d (operand_adds file inner n 3 map first.1 all)))))

alone : (n : ℕ) → n ≡ n + 0
alone n = omega arith

root_adds : (file : File) (inner : Inner) (n : ℕ) (map : Transform) (count : ℕ) → AllAdd inner → IfOk (solids.csg_solid file inner n map count) (Counts count)
root_adds file inner n map count all =
    let made : Shape × ℕ → Counted Shape = λ root. Ok (Numbered n (united (root.0 ∷ [])), root.1) in
    keeps (Counts count) (operand file inner n 1 map count) made (λ root e.
    as_many count (count_triangles root.0) (count_triangles (united (root.0 ∷ []))) root.1 (alone (count_triangles root.0)) (IfOk-at_ok (Counts count) e (operand_adds file inner n 1 map count all)))

united_count : (parts : List Shape) → sum_by count_triangles parts ≡ count_triangles (united parts)
united_count [] = refl
united_count (s ∷ ss) = sum_by-cons count_triangles s ss ∙ ap (λ n. count_triangles s + n) (united_count ss)

member_adds : (file : File) (inner : Inner) (representation : ℕ) (map : Transform) (p : Param) (count : ℕ) → AllAdd inner → IfOk (member_solid file inner representation map p count) (Counts count)
member_adds file inner representation map p count all =
    keeps (Counts count) (member_instance file.section representation 4 p) (λ m. inner m map count) (λ m _. all m map count)

mapped_adds : (file : File) (inner : Inner) (n : ℕ) (map : Transform) (count : ℕ) → AllAdd inner → IfOk (solids.mapped_item file inner n map count) (Counts count)
mapped_adds file inner n map count all =
    let made : List Shape × ℕ → Counted Shape = λ parts. Ok (Numbered n (united parts.0), parts.1) in
    let read : ℕ → List Param → Transform → Counted Shape = λ representation ps inwards. next (each_counted (member_solid file inner representation inwards) ps count) made in
    let moved : Transform → ℕ → List Param → Counted Shape = λ origin representation ps. next (mapped file n map origin) (read representation ps) in
    let listed : Transform → ℕ → Counted Shape = λ origin representation. next (members file.section representation 4) (moved origin representation) in
    let shown : ℕ → Transform → Counted Shape = λ source origin. next (named_instance file.section (kind.ShapeRepresentation ∷ []) source 2) (listed origin) in
    let sourced : ℕ → Counted Shape = λ source. next (named_axes file source 1) (shown source) in
    keeps (Counts count) (named_instance file.section (kind.RepresentationMap ∷ []) n 1) sourced (λ source _.
    keeps (Counts count) (named_axes file source 1) (shown source) (λ origin _.
    keeps (Counts count) (named_instance file.section (kind.ShapeRepresentation ∷ []) source 2) (listed origin) (λ representation _.
    keeps (Counts count) (members file.section representation 4) (moved origin representation) (λ ps _.
    keeps (Counts count) (mapped file n map origin) (read representation ps) (λ inwards _.
    keeps (Counts count) (each_counted (member_solid file inner representation inwards) ps count) made (λ parts e.
    as_many count (sum_by count_triangles parts.0) (count_triangles (united parts.0)) parts.1 (united_count parts.0)
    (IfOk-at_ok (Adds (sum_by count_triangles) count) e
    (each_adds count_triangles (member_solid file inner representation inwards) (λ p more. member_adds file inner representation inwards p more all) ps count))))))))

solid_by_adds : (file : File) (inner : Inner) (n : ℕ) (map : Transform) (count : ℕ) → AllAdd inner → IfOk (solid_by file inner n map count) (Counts count)
solid_by_adds file inner n map count all =
    let refused : Counted Shape = Err (Unsupported n) in
    let eighth : Counted Shape = if has_kind file.section n kind.MappedItem then solids.mapped_item file inner n map count else refused in
    let seventh : Counted Shape = if has_kind file.section n kind.CsgSolid then solids.csg_solid file inner n map count else eighth in
    let sixth : Counted Shape = if is_one_of file.section (kind.BooleanResult ∷ kind.BooleanClippingResult ∷ []) n then solids.boolean_result file inner n map count else seventh in
    let fifth : Counted Shape = if has_kind file.section n kind.PolygonalBoundedHalfSpace then solids.bounded_half_space file n map count else sixth in
    let fourth : Counted Shape = if is_one_of file.section (kind.HalfSpaceSolid ∷ kind.BoxedHalfSpace ∷ []) n then solids.half_space file n map count else fifth in
    let third : Counted Shape = if is_one_of file.section (kind.FacetedBrep ∷ kind.FacetedBrepWithVoids ∷ []) n then solids.brep file n map count else fourth in
    let second : Counted Shape = if has_kind file.section n kind.Block then solids.block file n map count else third in
    either (Counts count) (has_kind file.section n kind.ExtrudedAreaSolid) (solids.extruded_area_solid file n map count) second (extrusion_adds file n map count)
    (either (Counts count) (has_kind file.section n kind.Block) (solids.block file n map count) third (block_adds file n map count)
    (either (Counts count) (is_one_of file.section (kind.FacetedBrep ∷ kind.FacetedBrepWithVoids ∷ []) n) (solids.brep file n map count) fourth (brep_adds file n map count)
    (either (Counts count) (is_one_of file.section (kind.HalfSpaceSolid ∷ kind.BoxedHalfSpace ∷ []) n) (solids.half_space file n map count) fifth (half_adds file n map count)
    (either (Counts count) (has_kind file.section n kind.PolygonalBoundedHalfSpace) (solids.bounded_half_space file n map count) sixth (bounded_adds file n map count)
    (either (Counts count) (is_one_of file.section (kind.BooleanResult ∷ kind.BooleanClippingResult ∷ []) n) (solids.boolean_result file inner n map count) seventh (pair_adds file inner n map count all)
    (either (Counts count) (has_kind file.section n kind.CsgSolid) (solids.csg_solid file inner n map count) eighth (root_adds file inner n map count all)
    (either (Counts count) (has_kind file.section n kind.MappedItem) (solids.mapped_item file inner n map count) refused (mapped_adds file inner n map count all) tt)))))))

solid_adds : (deeper : ℕ) (file : File) → AllAdd (solid deeper file)
unfolding solid
solid_adds zero file n map count = tt
solid_adds (suc deeper) file n map count = solid_by_adds file (solid deeper file) n map count (solid_adds deeper file)

-- Elements.

abbrev all_items : List ShapeItem → ℕ
all_items items = sum_by item_count items

item_adds : (file : File) (r : ℕ) (map : Transform) (p : Param) (count : ℕ) → IfOk (item file r map p count) (Adds item_count count)
item_adds file r map p count =
    let made : ℕ → Shape × ℕ → Counted ShapeItem = λ n read. Ok (record { at = n; shape = read.0 }, read.1) in
    let found : ℕ → Counted ShapeItem = λ n. next (solid 64 file n map count) (made n) in
    keeps (Adds item_count count) (member_instance file.section r 4 p) found (λ n _.
    keeps (Adds item_count count) (solid 64 file n map count) (made n) (λ read e. IfOk-at_ok (Counts count) e (solid_adds 64 file n map count)))

items_add : (file : File) (r : Representation) (map : Transform) (count : ℕ) → IfOk (items file r map count) (Adds all_items count)
items_add file r map count = each_adds item_count (item file r.0 map) (item_adds file r.0 map) r.1 count

of_opening_adds : (file : File) (element : List Link) (opening count : ℕ) (o : Option Representation) → IfOk (elements.items_of_opening file element opening count o) (Adds all_items count)
of_opening_adds file element opening count None = no_more count
of_opening_adds file element opening count (Some r) =
    let read : Transform → Counted (List ShapeItem) = λ frame. items file r frame count in
    let seen : List Link → Counted (List ShapeItem) = λ own. next (opening_frame opening element own) read in
    keeps (Adds all_items count) (chain file opening) seen (λ own _.
    keeps (Adds all_items count) (opening_frame opening element own) read (λ frame _. items_add file r frame count))

opening_adds : (file : File) (element : List Link) (relation count : ℕ) → IfOk (opening_items file element relation count) (Adds all_items count)
opening_adds file element relation count =
    let found : ℕ → Counted (List ShapeItem) = λ opening. next (representation file.section opening) (elements.items_of_opening file element opening count) in
    keeps (Adds all_items count) (named_instance file.section opening_kinds relation 6) found (λ opening _.
    keeps (Adds all_items count) (representation file.section opening) (elements.items_of_opening file element opening count) (λ o _. of_opening_adds file element opening count o))

openings_add : (file : File) (element : List Link) (rs : List ℕ) (count : ℕ) → IfOk (openings file element rs count) (Adds all_items count)
openings_add file element [] count = no_more count
openings_add file element (r ∷ rs) count =
    let made : List ShapeItem × ℕ → List ShapeItem × ℕ → Counted (List ShapeItem) = λ own more. Ok (own.0 ++ more.0, more.1) in
    let later : List ShapeItem × ℕ → Counted (List ShapeItem) = λ own. next (openings file element rs own.1) (made own) in
    keeps (Adds all_items count) (opening_items file element r count) later (λ own e.
    keeps (Adds all_items count) (openings file element rs own.1) (made own) (λ more d.
    as_many count (all_items own.0 + all_items more.0) (all_items (own.0 ++ more.0)) more.1 (sym (sum_by-append item_count own.0 more.0))
    (then_more count (all_items own.0) own.1 (all_items more.0) more.1
    (IfOk-at_ok (Adds all_items count) e (opening_adds file element r count))
    (IfOk-at_ok (Adds all_items own.1) d (openings_add file element rs own.1)))))

abbrev HasFew : Option ElementShape → Type 0
HasFew o = IfSome o (λ e. element_count e ≤ 4096)

few_of_both : (own reached cut last : ℕ) → Reaches 0 own reached → Reaches reached cut last → own + cut ≤ 4096
few_of_both own reached cut last h k =
    let all = then_more 0 own reached cut last h k in
    omega (arith, all.sum, all.few (omega arith))

few_of_body : (file : File) (element : ℕ) (o : Option Representation) → IfOk (shape_of_body file element o) HasFew
few_of_body file element None = tt
few_of_body file element (Some r) =
    let made : Transform → List ShapeItem × ℕ → List ShapeItem × ℕ → Read (Option ElementShape) = λ frame own cut. Ok (Some (record { items = own.0; openings = cut.0; frame = frame })) in
    let opened : List Link → Transform → List ShapeItem × ℕ → Read (Option ElementShape) = λ links frame own. next (openings file links (voiding file.section element) own.1) (made frame own) in
    let filled : List Link → Transform → Read (Option ElementShape) = λ links frame. next (items file r identity 0) (opened links frame) in
    let stood : List Link → Read (Option ElementShape) = λ links. next (world_frame links) (filled links) in
    keeps HasFew (chain file element) stood (λ links _.
    keeps HasFew (world_frame links) (filled links) (λ frame _.
    keeps HasFew (items file r identity 0) (opened links frame) (λ own e.
    keeps HasFew (openings file links (voiding file.section element) own.1) (made frame own) (λ cut d.
    few_of_both (all_items own.0) own.1 (all_items cut.0) cut.1
    (IfOk-at_ok (Adds all_items 0) e (items_add file r identity 0))
    (IfOk-at_ok (Adds all_items own.1) d (openings_add file links (voiding file.section element) own.1))))))

-- the solids of an element and of its openings have at most 4096 triangles and half-spaces
pub body_has_few : (file : File) (element : ℕ) (e : ElementShape) → element_body file element ≡ Ok (Some e) → element_count e ≤ 4096
body_has_few file element e is = IfOk-at_ok HasFew is (keeps HasFew (representation file.section element) (shape_of_body file element) (λ o _. few_of_body file element o))
