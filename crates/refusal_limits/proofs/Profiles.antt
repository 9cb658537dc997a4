-- Profiles and counts, if the numbers of the section are short: a count that is refused has at most 20 digits.
use Rattle.std.proofs.Common.{◌≤◌, ◌<◌, ◌^◌, ◌+◌, ◌*◌, ℕ, ℤ, pos, List, [], ◌∷◌, Option, IsTrue, length, nat_le, refl, arith}
use Rattle.std.proofs.lemmas.Bool.{leb-true}
use Rattle.spec_space.specs.declared.Vector.{Vector}
use Rattle.spec_step.specs.declared.tree.Param.{Param}
use Rattle.ifc_kinds.specs.declared.kind.Kind.TheVariants as kind
use Rattle.spec_refusal.specs.Reads.{Read}
use Rattle.spec_shape.specs.Profiles.{rectangle, hollow, i_shape}
use Rattle.spec_entity.specs.Reads.{has_kind}
use Rattle.spec_geometry.specs.Files.{File}
use Rattle.spec_geometry.specs.Axes.{PlaneAxes}
use Rattle.spec_geometry.specs.Curves.{curve_kinds, named_curve}
use Rattle.spec_geometry.specs.Profiles as profiles
use Rattle.spec_geometry.specs.Profiles.{count_with, count_loop, count_loops, Counted, counted_curve, inner_curve, inner_curves, closed_profile, profile_with_voids, profile_loops, rectangle_profile, positive_below, wall_thickness, hollow_profile, i_shape_profile, profile_kinds, named_profile}
use Rattle.spec_check.specs.Limits.{IsShort}
use Rattle.table_limits.proofs.Kept.{IsKept, IsFew, few_short, Each, read, onward, tested, tested_so, either}
use Rattle.table_limits.proofs.Trees.{IsShortParam}
use Rattle.table_limits.proofs.Tables.{IsShortSection, Any}
use Rattle.table_limits.proofs.Entities.{kinds_kept, named_kept, member_kept, members_kept}
use Rattle.refusal_limits.proofs.Points.{positive_kept, zero_kept, if_plane_axes_kept}
use Rattle.refusal_limits.proofs.Curves.{AreFew, curve_kept, named_curve_kept}

-- Counts.

abbrev pub IsCount : ℕ → Type 0
IsCount count = count ≤ 4096

too_large : (count more : ℕ) → count ≤ 4096 → more ≤ 2 ^ 60 → count + more < 10 ^ 21
too_large count more h k = omega (arith, h, k)

pub count_kept : (count more : ℕ) → IsCount count → more ≤ 2 ^ 60 → IsKept IsCount (count_with count more)
count_kept count more h k = tested_so (nat_le (count + more) 4096) _ (too_large count more h k) (λ e. read (leb-true (count + more) 4096 e))

-- what is read with a count has a property, and the count is not past its limit
pub record IsCounted {T : Type 0} (P : T → Type 0) (r : T × ℕ) : Type 0 where
  pub value : P r.0
  pub count : IsCount r.1

six_few : (n : ℕ) → n ≤ 2 ^ 54 → 6 * n ≤ 2 ^ 60
six_few n h = omega (arith, h)

pub loop_counted : (count : ℕ) (points : List Vector) → IsCount count → AreFew points → IsKept IsCount (count_loop count points)
loop_counted count points h few = count_kept count (6 * length points) h (six_few (length points) few)

loops_counted : (count : ℕ) (loops : List (List Vector)) → IsCount count → Each AreFew loops → IsKept IsCount (count_loops count loops)
loops_counted count [] h few = read h
loops_counted count (l ∷ ls) h few = onward (loop_counted count l h few.0) (λ more k. loops_counted more ls k few.1)

profile_counted : (count : ℕ) (position : Option PlaneAxes) (loops : List (List Vector)) → IsCount count → Each AreFew loops → IsKept (IsCounted Any) (profile_loops count position loops)
profile_counted count position loops h few = onward (loops_counted count loops h few) (λ more k. read (record { value = tt; count = k }))

curve_counted : (points : Read (List Vector)) (count : ℕ) → IsCount count → IsKept AreFew points → IsKept (IsCounted Any) (counted_curve points count)
curve_counted points count h k =
    onward k (λ loop few. onward (loop_counted count loop h few) (λ more c. read (record { value = tt; count = c })))

corners_few : {n : ℕ} → IsTrue (nat_le n 100) → n ≤ 2 ^ 54
corners_few {n} h = hundred (leb-true n 100 h)
  where
    hundred : n ≤ 100 → n ≤ 2 ^ 54
    hundred le = omega (arith, le)

module _ (file : File) (short : IsShortSection file.section) where
  inner_kept : (n : ℕ) (q : Param) (count : ℕ) → IsShort n → IsShortParam q → IsCount count → IsKept (IsCounted Any) (inner_curve file n q count)
  inner_kept n q count h s c =
      curve_counted _ count c
      (onward (member_kept file.section short n 4 q h refl s) (λ m a. onward (kinds_kept file.section short curve_kinds m a) (λ l b. curve_kept file short l b)))

  inners_kept : (n : ℕ) (ps : List Param) (count : ℕ) → IsShort n → Each IsShortParam ps → IsCount count → IsKept (IsCounted Any) (inner_curves file n ps count)
  inners_kept n [] count h s c = read (record { value = tt; count = c })
  inners_kept n (p ∷ ps) count h s c =
      onward (inner_kept n p count h s.0 c) (λ one k.
      onward (inners_kept n ps one.1 h s.1 k.count) (λ more m. read (record { value = tt; count = m.count })))

  outer_kept : (n count : ℕ) → IsShort n → IsCount count → IsKept (IsCounted Any) (counted_curve (named_curve file n 3) count)
  outer_kept n count h c = curve_counted _ count c (named_curve_kept file short n 3 h refl)

  closed_kept : (n count : ℕ) → IsShort n → IsCount count → IsKept (IsCounted Any) (closed_profile file n count)
  closed_kept n count h c = onward (outer_kept n count h c) (λ outer k. read (record { value = tt; count = k.count }))

  voided_kept : (n count : ℕ) → IsShort n → IsCount count → IsKept (IsCounted Any) (profile_with_voids file n count)
  voided_kept n count h c =
      onward (outer_kept n count h c) (λ outer k.
      onward (members_kept file.section short n 4 h refl) (λ ps s.
      onward (inners_kept n ps outer.1 h s.each k.count) (λ inner m. read (record { value = tt; count = m.count }))))

  rectangle_kept : (n count : ℕ) → IsShort n → IsCount count → IsKept (IsCounted Any) (rectangle_profile file n count)
  rectangle_kept n count h c =
      onward (if_plane_axes_kept file short n 3 h refl) (λ position _.
      onward (positive_kept file short n 4 h refl) (λ x _.
      onward (positive_kept file short n 5 h refl) (λ y _. profile_counted count position (rectangle x y) c (corners_few refl, tt))))

  below_kept : (n position : ℕ) (times most : ℤ) → IsShort n → IsFew position → IsKept Any (positive_below file n position times most)
  below_kept n position times most h p = onward (positive_kept file short n position h p) (λ v _. tested _ _ (h, few_short p) (read tt))

  wall_kept : (n : ℕ) (x y : ℤ) → IsShort n → IsKept Any (wall_thickness file n x y)
  wall_kept n x y h = onward (below_kept n 6 (pos 2) x h refl) (λ wall _. tested _ _ (h, few_short refl) (read tt))

  hollow_kept : (n count : ℕ) → IsShort n → IsCount count → IsKept (IsCounted Any) (hollow_profile file n count)
  hollow_kept n count h c =
      onward (if_plane_axes_kept file short n 3 h refl) (λ position _.
      onward (positive_kept file short n 4 h refl) (λ x _.
      onward (positive_kept file short n 5 h refl) (λ y _.
      onward (wall_kept n x y h) (λ wall _.
      onward (zero_kept file short n 7 h refl) (λ u _.
      onward (zero_kept file short n 8 h refl) (λ v _. profile_counted count position (hollow x y wall) c (corners_few refl, (corners_few refl, tt))))))))

  i_kept : (n count : ℕ) → IsShort n → IsCount count → IsKept (IsCounted Any) (i_shape_profile file n count)
  i_kept n count h c =
      onward (if_plane_axes_kept file short n 3 h refl) (λ position _.
      onward (positive_kept file short n 4 h refl) (λ width _.
      onward (positive_kept file short n 5 h refl) (λ depth _.
      onward (below_kept n 6 (pos 1) width h refl) (λ web _.
      onward (below_kept n 7 (pos 2) depth h refl) (λ flange _.
      onward (zero_kept file short n 8 h refl) (λ u _.
      onward (zero_kept file short n 9 h refl) (λ v _.
      onward (zero_kept file short n 10 h refl) (λ w _. profile_counted count position (i_shape width depth web flange) c (corners_few refl, tt)))))))))

  profile_kept : (n count : ℕ) → IsShort n → IsCount count → IsKept (IsCounted Any) (profiles.profile file n count)
  profile_kept n count h c =
      either (has_kind file.section n kind.ArbitraryClosedProfileDef) (closed_kept n count h c)
      (either (has_kind file.section n kind.ArbitraryProfileDefWithVoids) (voided_kept n count h c)
      (either (has_kind file.section n kind.RectangleProfileDef) (rectangle_kept n count h c)
      (either (has_kind file.section n kind.RectangleHollowProfileDef) (hollow_kept n count h c) (i_kept n count h c))))

  pub named_profile_kept : (at position count : ℕ) → IsShort at → IsFew position → IsCount count → IsKept (IsCounted Any) (named_profile file at position count)
  named_profile_kept at position count a p c = onward (named_kept file.section short profile_kinds at position a p) (λ n h. profile_kept n count h c)
