-- Curves, if the numbers of the section are short: what is read of them, and that their points are few enough to be counted.
use Rattle.std.proofs.Common.{◌≡◌, ◌≤◌, ◌^◌, ◌+◌, ◌*◌, ◌-◌, suc, ℕ, Bool, true, false, if◌then◌else◌, List, [], ◌∷◌, drop, take, codes, Option, Some, None, Err, length, refl, arith}
use Rattle.std.proofs.lemmas.List.{length-map, length-append, length-drop, length-take-le}
use Rattle.spec_space.specs.declared.Vector.{Vector}
use Rattle.spec_step.specs.Spans.{bytes_at}
use Rattle.spec_step.specs.declared.tree.Param.{Param, out-Param}
use Rattle.spec_step.specs.declared.tree.Param.TheOpen.{Param-F}
use Rattle.spec_step.specs.declared.tree.Param.TheOpen as layer
use Rattle.spec_table.specs.Sections.{DataSection}
use Rattle.spec_table.specs.Innermost.{innermost}
use Rattle.spec_table.specs.Attributes.{attribute}
use Rattle.ifc_kinds.specs.declared.kind.Kind.TheVariants as kind
use Rattle.spec_shape.specs.Loops.{repeats_first}
use Rattle.spec_refusal.specs.declared.Refusal.TheVariants.{BadAttribute}
use Rattle.spec_refusal.specs.Reads.{Read}
use Rattle.spec_entity.specs.Reads.{has_kind}
use Rattle.spec_geometry.specs.Files.{File, is_word}
use Rattle.spec_geometry.specs.Curves.{member_point, polyline, pair, point_list, index_in, layer_index, index, line_index, segment_named, layer_segment, segment, joined, segments_after, points_at, points_by_segments, indexed_curve, curve_kinds, as_loop, curve, named_curve}
use Rattle.spec_check.specs.Limits.{IsShort}
use Rattle.table_limits.proofs.Kept.{IsKept, IsFew, few_short, Each, AreRead, read, refused, weaker, onward, tested, either}
use Rattle.table_limits.proofs.Trees.{IsShortParam, IsShortList, IsShortLayer, out_short}
use Rattle.table_limits.proofs.Tables.{IsShortSection, Any, list_kept}
use Rattle.table_limits.proofs.Entities.{kinds_kept, named_kept, member_kept, members_kept}
use Rattle.refusal_limits.proofs.Points.{each_of, length_kept, plane_point_kept}

-- so many that they can be counted
abbrev pub AreFew : List Vector → Type 0
AreFew points = length points ≤ 2 ^ 54

many_few : (n count : ℕ) → n ≡ count → count ≤ 2 ^ 27 → n ≤ 2 ^ 54
many_few n count e h = omega (arith, e, h)

-- the points that so many members of a list name
pub read_few : {P : Vector → Type 0} (ps : List Param) (points : List Vector) → IsShortList ps → AreRead P (length ps) points → AreFew points
read_few ps points h k = many_few (length points) (length ps) k.many h.many

open_few : (b : Bool) (points : List Vector) → AreFew points → AreFew (if b then take (length points - 1) points else points)
open_few true points h = omega (arith, h, length-take-le (length points - 1) points (omega arith))
open_few false points h = h

pub loop_kept : (n : ℕ) (points : List Vector) → IsShort n → AreFew points → IsKept AreFew (as_loop n points)
loop_kept n points h few = tested _ _ (h, few_short refl) (read (open_few (repeats_first points) points few))

-- Indices.

index_in_kept : (n count : ℕ) (text : List ℕ) → IsShort n → IsKept Any (index_in n count text)
index_in_kept n count text h = tested _ _ (h, few_short refl) (read tt)

wrong_index : {T : Type 0} {P : T → Type 0} (n : ℕ) → IsShort n → IsKept P (Err (BadAttribute n 2))
wrong_index n h = refused (h, few_short refl)

index_layer : (section : DataSection) (n count : ℕ) (x : Param-F Param) → IsShort n → IsKept Any (layer_index section n count x)
index_layer section n count (layer.Int s) h = index_in_kept n count (bytes_at section.text s) h
index_layer section n count layer.Unset h = wrong_index n h
index_layer section n count layer.Derived h = wrong_index n h
index_layer section n count (layer.Real s) h = wrong_index n h
index_layer section n count (layer.Text s) h = wrong_index n h
index_layer section n count (layer.Enumeration s) h = wrong_index n h
index_layer section n count (layer.Binary s) h = wrong_index n h
index_layer section n count (layer.Reference m) h = wrong_index n h
index_layer section n count (layer.List ps) h = wrong_index n h
index_layer section n count (layer.Typed k q) h = wrong_index n h

index_kept : (section : DataSection) (n count : ℕ) (q : Param) → IsShort n → IsKept Any (index section n count q)
index_kept section n count q h = index_layer section n count (out-Param (innermost q)) h

-- as many indices as a list of a file has members
abbrev FewIndices : List ℕ → Type 0
FewIndices is = length is ≤ 2 ^ 27

line_kept : (section : DataSection) (n count : ℕ) (q : Param) → IsShort n → IsShortParam q → IsKept FewIndices (line_index section n count q)
line_kept section n count q h s =
    onward (list_kept n 2 q h (few_short refl) s) (λ ps k.
    tested _ _ (h, few_short refl) (weaker (each_of ps k (λ p _. index_kept section n count p h)) (λ is a. omega (arith, a.many, k.many))))

word_kept : (section : DataSection) (n count : ℕ) (word : List ℕ) (q : Param) → IsShort n → IsShortParam q → IsKept FewIndices (segment_named section n count word q)
word_kept section n count word q h s =
    either (is_word (codes "IFCARCINDEX") word) (refused h) (tested _ _ (h, few_short refl) (line_kept section n count q h s))

segment_layer : (section : DataSection) (n count : ℕ) (x : Param-F Param) → IsShort n → IsShortLayer x → IsKept FewIndices (layer_segment section n count x)
segment_layer section n count (layer.Typed k q) h s = word_kept section n count (bytes_at section.text k) q h s
segment_layer section n count layer.Unset h s = wrong_index n h
segment_layer section n count layer.Derived h s = wrong_index n h
segment_layer section n count (layer.Int p) h s = wrong_index n h
segment_layer section n count (layer.Real p) h s = wrong_index n h
segment_layer section n count (layer.Text p) h s = wrong_index n h
segment_layer section n count (layer.Enumeration p) h s = wrong_index n h
segment_layer section n count (layer.Binary p) h s = wrong_index n h
segment_layer section n count (layer.Reference m) h s = wrong_index n h
segment_layer section n count (layer.List ps) h s = wrong_index n h

segment_kept : (section : DataSection) (n count : ℕ) (q : Param) → IsShort n → IsShortParam q → IsKept FewIndices (segment section n count q)
segment_kept section n count q h s = segment_layer section n count (out-Param q) h (out_short q s)

abbrev AtMost : ℕ → List ℕ → Type 0
AtMost most is = length is ≤ most

joined_kept : (n : ℕ) (before is : List ℕ) → IsShort n → IsKept (AtMost (length before + length is)) (joined n before is)
joined_kept n [] is h = read (omega arith)
joined_kept n (b ∷ before) is h =
    tested _ _ (h, few_short refl) (read (omega (arith, length-append (b ∷ before) (drop 1 is), length-drop 1 is)))

grown : (last all before one more : ℕ) → last ≤ all + more * 2 ^ 27 → all ≤ before + one → one ≤ 2 ^ 27 → last ≤ before + suc more * 2 ^ 27
grown last all before one more h k m = omega (arith, h, k, m)

segments_kept : (section : DataSection) (n count : ℕ) (before : List ℕ) (ps : List Param) → IsShort n → Each IsShortParam ps → IsKept (AtMost (length before + length ps * 2 ^ 27)) (segments_after section n count before ps)
segments_kept section n count before [] h s = read (omega arith)
segments_kept section n count before (p ∷ ps) h s =
    onward (segment_kept section n count p h s.0) (λ is few.
    onward (joined_kept n before is h) (λ all most.
    weaker (segments_kept section n count all ps h s.1) (λ last k. grown (length last) (length all) (length before) (length is) (length ps) k most few)))

all_few : (points indices members : ℕ) → points ≡ indices → indices ≤ 0 + members * 2 ^ 27 → members ≤ 2 ^ 27 → points ≤ 2 ^ 54
all_few points indices members e h k = omega (arith, e, h, k)

by_segments_kept : (section : DataSection) → IsShortSection section → (n : ℕ) (points : List Vector) (o : Option Param) → IsShort n → AreFew points → IsKept AreFew (points_by_segments section n points o)
by_segments_kept section short n points None h few = read few
by_segments_kept section short n points (Some p) h few =
    onward (members_kept section short n 2 h refl) (λ ps k.
    onward (segments_kept section n (length points) [] ps h k.each) (λ is most.
    read (all_few (length (points_at points is)) (length is) (length ps) (length-map is _) most k.many)))

module _ (file : File) (short : IsShortSection file.section) where
  pub member_point_kept : (go_on : ℕ → Read Vector) → ((n : ℕ) → IsShort n → IsKept Any (go_on n)) → (n : ℕ) (q : Param) → IsShort n → IsShortParam q → IsKept Any (member_point go_on file.section n q)
  member_point_kept go_on k n q h s =
      onward (member_kept file.section short n 1 q h refl s) (λ m a.
      onward (kinds_kept file.section short (kind.CartesianPoint ∷ []) m a) (λ p b. k p b))

  polyline_kept : (n : ℕ) → IsShort n → IsKept AreFew (polyline file n)
  polyline_kept n h =
      onward (members_kept file.section short n 1 h refl) (λ ps k.
      weaker (each_of ps k (λ q s. member_point_kept _ (plane_point_kept file short) n q h s)) (λ points a. read_few ps points k a))

  pair_kept : (n : ℕ) (q : Param) → IsShort n → IsShortParam q → IsKept Any (pair file n q)
  pair_kept n q h s =
      onward (list_kept n 1 q h (few_short refl) s) (λ ps k.
      tested _ _ (h, few_short refl) (onward (each_of ps k (λ p _. length_kept file short n 1 p h refl)) (λ xs _. read tt)))

  list_points_kept : (n : ℕ) → IsShort n → IsKept AreFew (point_list file n)
  list_points_kept n h =
      onward (members_kept file.section short n 1 h refl) (λ ps k.
      weaker (each_of ps k (λ q s. pair_kept n q h s)) (λ points a. read_few ps points k a))

  indexed_kept : (n : ℕ) → IsShort n → IsKept AreFew (indexed_curve file n)
  indexed_kept n h =
      onward (named_kept file.section short (kind.CartesianPointList2d ∷ []) n 1 h refl) (λ list s.
      onward (list_points_kept list s) (λ points few. by_segments_kept file.section short n points (attribute file.section n 2) h few))

  pub curve_kept : (n : ℕ) → IsShort n → IsKept AreFew (curve file n)
  curve_kept n h =
      onward (either (has_kind file.section n kind.Polyline) (polyline_kept n h) (indexed_kept n h)) (λ points few. loop_kept n points h few)

  pub named_curve_kept : (at position : ℕ) → IsShort at → IsFew position → IsKept AreFew (named_curve file at position)
  named_curve_kept at position a p = onward (named_kept file.section short curve_kinds at position a p) (λ n h. curve_kept n h)
