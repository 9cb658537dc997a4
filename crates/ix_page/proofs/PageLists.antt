-- Lists of items that grow by one.
use Rattle.std.proofs.Common.{◌≡◌, ℕ, ◌+◌, ◌<◌, Vec, Result, Err, IfOk, OnOk, List, [], ◌∷◌, ◌++◌, length, get_or, take, Bool, refl, sym, ap, ◌∙◌, append_assoc, append-nil, arith, ℤ, min, Ok, length-append, zero-add, add_assoc, add-zero, subst}
use Rattle.std.specs.Prelude.{sum_by, count_by, if◌then◌else◌, true, nat_eq, All}
use Rattle.std.specs.List.{filter}
use Rattle.std.proofs.lemmas.List.Elements.{All-weaker, All-filter}
use Rattle.spec_table.specs.Sections.{DataSection}
use Rattle.spec_entity.specs.Elements.{has_element_kind}
use Rattle.ifc_kinds.specs.Keywords.{element_kinds}
use Rattle.entity_reader.proofs.Simple.{simple_kinds}
use Rattle.plane_core.specs.declared.numbers.Corner.{Corner}
use Rattle.world_print.specs.Elements.{page_corners}
use Rattle.spec_geometry.specs.Files.{File}
use Rattle.spec_place.specs.declared.transform.Transform.{Transform}
use Rattle.spec_solid.specs.Solids.{Body}
use Rattle.spec_refusal.specs.Reads.{Read}
use Rattle.spec_page.specs.Element.{Element}
use Rattle.spec_page.specs.Items.{Item, Printed, Skipped, Refused, is_printed, is_skipped, is_refused, corner_count, face_count}
use Rattle.spec_page.specs.Page.{item_lines, items_lines, if_refused, kinds_text, sizes_text, counts_line}
use Rattle.spec_outcome.specs.Outcomes.{IsItemOf, AreItemsOf, IsElementOf, StandsFor, rounded_outcome}
use Rattle.std.proofs.lemmas.List.{take_more}
use Rattle.std.proofs.lemmas.List.Sums.{sum_by-append, sum_by-cons}
use Rattle.std.proofs.lemmas.Grind.{flat_map-append}
use Rattle.spec_entity.specs.Reads.{has_kind}
use Rattle.ifc_kinds.specs.declared.kind.Kind.{Kind}
use Rattle.world_print.specs.Elements.{Mesh}
use Rattle.spec_meshes.specs.Meshes.{AreMeshesOf}
use Rattle.ix_page.specs.declared.element.Made.{Made}
use Rattle.ix_page.specs.declared.element.Made.TheVariants as made
use Rattle.ix_page.specs.Made.{item_of, meshes_of, IsMeshAs}
use Rattle.ix_page.specs.Counts.{IsTallyOf, Counts, AddsElement, HasElements, TakesElement, HasTaken, IsElement}
use Rattle.ix_page.specs.declared.tally.Tally.{Tally}

-- as many corners of a page as there are exact and printed ones
pub length-page_corners : (cs : List Corner) (vs : List (List ℤ)) → length (page_corners cs vs) ≡ min (length cs) (length vs)
length-page_corners [] vs = sym (omega arith)
length-page_corners (c ∷ cs) [] = sym (omega arith)
length-page_corners (c ∷ cs) (v ∷ vs) = let rest = length-page_corners cs vs in omega (arith, rest)

-- the lines of one item more
pub lines_more : (before : ℕ) (items : List Item) (item : Item)
    → items_lines before (items ++ item ∷ []) ≡ items_lines before items ++ item_lines (before + sum_by corner_count items) item
lines_more before [] item = append-nil (item_lines before item) ∙ ap (λ n. item_lines n item) (sym (add-zero before))
lines_more before (i ∷ is) item =
    ap (λ l. item_lines before i ++ l) (lines_more (before + corner_count i) is item)
    ∙ sym (append_assoc (item_lines before i) (items_lines (before + corner_count i) is) (item_lines (before + corner_count i + sum_by corner_count is) item))
    ∙ ap (λ n. (item_lines before i ++ items_lines (before + corner_count i) is) ++ item_lines n item)
    (add_assoc before (corner_count i) (sum_by corner_count is) ∙ ap (λ n. before + n) (sym (sum_by-cons corner_count i is)))

-- the items of one element more
pub items_more : (file : File) (ns : List ℕ) (n : ℕ) (is : List Item) (i : Item)
    → AreItemsOf file ns is → IsItemOf file n i → AreItemsOf file (ns ++ n ∷ []) (is ++ i ∷ [])
items_more file [] n [] i h k = (k, tt)
items_more file [] n (j ∷ is) i h k = absurd h
items_more file (m ∷ ns) n [] i h k = absurd h
items_more file (m ∷ ns) n (j ∷ is) i h k = (h.0, items_more file ns n is i h.1 k)

-- one element more
pub elements_more : (file : File) (ns : List ℕ) (k d : ℕ) (before page page' : List ℕ) (tally tally' : Tally) → k < length ns
    → HasElements file (take k ns) before page tally → AddsElement file (get_or ns k d) page page' tally tally'
    → HasElements file (take (k + 1) ns) before page' tally'
elements_more file ns k d before page page' tally tally' lt old one = record {
  items = old.items ++ one.item ∷ [];
  outcomes =
      subst (λ (l : List ℕ). AreItemsOf file l (old.items ++ one.item ∷ [])) (sym (take_more ns k d lt))
      (items_more file (take k ns) (get_or ns k d) old.items one.item old.outcomes one.outcome);
  lines =
      one.lines ∙ ap (λ n. page ++ item_lines n one.item) old.counts.corners ∙ ap (λ l. l ++ item_lines (sum_by corner_count old.items) one.item) old.lines
      ∙ append_assoc before (items_lines 0 old.items) (item_lines (sum_by corner_count old.items) one.item)
      ∙ ap (λ n. before ++ (items_lines 0 old.items ++ item_lines n one.item)) (sym (zero-add (sum_by corner_count old.items)))
      ∙ ap (λ l. before ++ l) (sym (lines_more 0 old.items one.item));
  counts = one.counted old.items old.counts;
}

sum_more : (f : Item → ℕ) (items : List Item) (item : Item) → sum_by f (items ++ item ∷ []) ≡ sum_by f items + f item
sum_more f items item = sum_by-append f items (item ∷ []) ∙ ap (λ n. sum_by f items + n) (sum_by-cons f item [] ∙ add-zero (f item))

count_more : (p : Item → Bool) (items : List Item) (item : Item) → count_by p (items ++ item ∷ []) ≡ count_by p items + (if p item then 1 else 0)
count_more p items item = sum_more (λ x. if p x then 1 else 0) items item

-- a converted element more is counted
pub counts_mesh : (t t' : Tally) (e : Element) → t'.elements ≡ t.elements + 1 → t'.converted ≡ t.converted + 1 → t'.skipped ≡ t.skipped → t'.refused ≡ t.refused
    → t'.corners ≡ t.corners + length e.corners → t'.faces ≡ t.faces + length e.faces → t'.refused_lines.items ≡ t.refused_lines.items → Counts t (Printed e) t'
counts_mesh t t' e elements converted skipped refused corners faces lines items h = record {
  elements = elements ∙ ap (λ n. n + 1) h.elements ∙ sym (length-append items (Printed e ∷ []));
  converted = converted ∙ ap (λ n. n + 1) h.converted ∙ sym (count_more is_printed items (Printed e));
  skipped = skipped ∙ h.skipped ∙ sym (add-zero _) ∙ sym (count_more is_skipped items (Printed e));
  refused = refused ∙ h.refused ∙ sym (add-zero _) ∙ sym (count_more is_refused items (Printed e));
  corners = corners ∙ ap (λ n. n + length e.corners) h.corners ∙ sym (sum_more corner_count items (Printed e));
  faces = faces ∙ ap (λ n. n + length e.faces) h.faces ∙ sym (sum_more face_count items (Printed e));
  lines = lines ∙ h.lines ∙ sym (append-nil _) ∙ sym (flat_map-append if_refused items (Printed e ∷ []));
}

-- what stands for an element that was rounded and meshed
pub converted_item : (grid n : ℕ) (frame : Transform) (rounded : Read Body) (body : Body) (e : Element) → rounded ≡ Ok body → IsElementOf grid n frame body e
    → StandsFor grid n (rounded_outcome frame rounded) (Printed e)
converted_item grid n frame rounded body e same h =
    subst (λ (r : Read Body). StandsFor grid n (rounded_outcome frame r) (Printed e)) (sym same) (e, refl, h)

-- the line of the counts of a tally
pub line_of_tally : (t : Tally) (items : List Item) → IsTallyOf t items
    → kinds_text t.elements t.converted t.skipped t.refused ++ sizes_text t.corners t.faces ≡ counts_line items
line_of_tally t items h i =
    kinds_text (h.elements i) (h.converted i) (h.skipped i) (h.refused i) ++ sizes_text (h.corners i) (h.faces i)

-- Which elements are wanted.

-- an element is an instance with one entry
pub are_elements : (section : DataSection) (ns : List ℕ) → All (λ n. has_element_kind section n ≡ true) ns → All (IsElement section) ns
are_elements section ns kinds =
    All-weaker (λ n. has_element_kind section n ≡ true) (IsElement section) (λ n h. record { simple = simple_kinds section n element_kinds h; kind = h }) ns kinds

-- those that are wanted are too
pub only_elements : {E A : Type 0} (section : DataSection) (ns : List ℕ) (only : ℕ) (r : Result (Vec ℕ A) E)
    → IfOk r (λ kept. kept.items ≡ filter (λ n. nat_eq n only) ns) → All (λ n. has_element_kind section n ≡ true) ns → IfOk r (λ kept. All (IsElement section) kept.items)
only_elements section ns only (Ok kept) e kinds =
    subst (All (IsElement section)) (sym e) (All-filter (λ n. nat_eq n only) (IsElement section) ns (are_elements section ns kinds))
only_elements section ns only (Err error) e kinds = tt

-- Meshes that a writer takes.

-- the meshes of one item more
pub meshes_more : (file : File) (is : List Item) (i : Item) (ms ns : List Mesh) → AreMeshesOf file is ms → AreMeshesOf file (i ∷ []) ns
    → AreMeshesOf file (is ++ i ∷ []) (ms ++ ns)
meshes_more file [] i [] ns h k = k
meshes_more file [] i (m ∷ ms) ns h k = absurd h
meshes_more file (Printed e ∷ is) i [] ns h k = absurd h
meshes_more file (Printed e ∷ is) i (m ∷ ms) ns h k = (h.0, meshes_more file is i ms ns h.1 k)
meshes_more file (Skipped n ∷ is) i ms ns h k = meshes_more file is i ms ns h k
meshes_more file (Refused n why ∷ is) i ms ns h k = meshes_more file is i ms ns h k

-- one element more
pub taken_more : (file : File) (ns : List ℕ) (k d : ℕ) (had taken taken' : List Mesh) (tally tally' : Tally) → k < length ns
    → HasTaken file (take k ns) had taken tally → TakesElement file (get_or ns k d) taken taken' tally tally'
    → HasTaken file (take (k + 1) ns) had taken' tally'
taken_more file ns k d had taken taken' tally tally' lt old one = record {
  items = old.items ++ one.item ∷ [];
  meshes = old.meshes ++ one.meshes;
  outcomes =
      subst (λ (l : List ℕ). AreItemsOf file l (old.items ++ one.item ∷ [])) (sym (take_more ns k d lt))
      (items_more file (take k ns) (get_or ns k d) old.items one.item old.outcomes one.outcome);
  converted = meshes_more file old.items one.item old.meshes one.meshes old.converted one.converted;
  took = one.took ∙ ap (λ (l : List Mesh). l ++ one.meshes) old.took ∙ append_assoc had old.meshes one.meshes;
  counts = one.counted old.items old.counts;
}

-- the mesh of an element that was converted
pub mesh_marked : (file : File) (n : ℕ) (kind : Kind) (made : Made) → has_kind file.section n kind ≡ true → IsMeshAs n kind file.grid made
    → AreMeshesOf file (item_of n made ∷ []) (meshes_of made)
mesh_marked file n kind made.Nothing h k = tt
mesh_marked file n kind (made.Refusal why) h k = tt
mesh_marked file n kind (made.Mesh mesh) h k = (
  record {
    element = refl;
    kind = (λ i. has_kind file.section (k.number i) (k.kind_kept i)) ∙ h;
    step = k.step_kept;
  },
  tt,
)

-- one element that was made, given to a writer and counted
pub takes_one : {E : Type 0} (file : File) (n : ℕ) (made : Made) (taken taken' : List Mesh) (tally tally' : Tally) (r : Result (Unit {0}) E)
    → IsItemOf file n (item_of n made) → AreMeshesOf file (item_of n made ∷ []) (meshes_of made) → taken' ≡ taken ++ meshes_of made
    → OnOk r (Counts tally (item_of n made) tally') → OnOk r (tally'.elements ≡ tally.elements + 1) → OnOk r (TakesElement file n taken taken' tally tally')
takes_one file n made taken taken' tally tally' (Ok u) item mesh took counts one = record {
  item = item_of n made;
  meshes = meshes_of made;
  outcome = item;
  converted = mesh;
  took = took;
  counted = counts;
  one = one;
}
takes_one file n made taken taken' tally tally' (Err e) item mesh took counts one = tt
