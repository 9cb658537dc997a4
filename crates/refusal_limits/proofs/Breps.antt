-- Faceted breps, if the numbers of the section are short.
use Rattle.std.proofs.Common.{◌≤◌, ◌^◌, ℕ, List, [], ◌∷◌, ◌++◌, length, refl, arith}
use Rattle.spec_step.specs.declared.tree.Param.{Param}
use Rattle.ifc_kinds.specs.declared.kind.Kind.TheVariants as kind
use Rattle.spec_shape.specs.Shapes.{Face}
use Rattle.spec_entity.specs.Reads.{has_kind}
use Rattle.spec_geometry.specs.Files.{File}
use Rattle.spec_geometry.specs.Profiles.{Counted}
use Rattle.spec_geometry.specs.Breps as breps
use Rattle.spec_geometry.specs.Breps.{each_counted, poly_loop, member_bound, member_face, outer_shell, member_shell, flat, faces_with_voids, brep_faces}
use Rattle.spec_check.specs.Limits.{IsShort}
use Rattle.table_limits.proofs.Kept.{IsKept, Each, read, onward, either}
use Rattle.table_limits.proofs.Trees.{IsShortParam}
use Rattle.table_limits.proofs.Tables.{IsShortSection, Any}
use Rattle.table_limits.proofs.Entities.{kinds_kept, named_kept, member_kept, members_kept}
use Rattle.refusal_limits.proofs.Points.{each_of, point_kept}
use Rattle.refusal_limits.proofs.Curves.{AreFew, read_few, loop_kept, member_point_kept}
use Rattle.refusal_limits.proofs.Profiles.{IsCount, IsCounted, count_kept}

pub each_counted_kept : {T : Type 0} {P : T → Type 0} {go_on : Param → ℕ → Counted T} → ((q : Param) (count : ℕ) → IsShortParam q → IsCount count → IsKept (IsCounted P) (go_on q count))
    → (ps : List Param) (count : ℕ) → Each IsShortParam ps → IsCount count → IsKept (IsCounted (Each P)) (each_counted go_on ps count)
each_counted_kept k [] count s c = read (record { value = tt; count = c })
each_counted_kept k (p ∷ ps) count s c =
    onward (k p count s.0 c) (λ one h.
    onward (each_counted_kept k ps one.1 s.1 h.count) (λ more m. read (record { value = (h.value, m.value); count = m.count })))

pub each_append : {X : Type 0} (P : X → Type 0) (xs ys : List X) → Each P xs → Each P ys → Each P (xs ++ ys)
each_append P [] ys h k = k
each_append P (x ∷ xs) ys h k = (h.0, each_append P xs ys h.1 k)

abbrev pub IsShortFace : Face → Type 0
IsShortFace face = IsShort face.at

flat_each : (shells : List (List Face)) → Each (Each IsShortFace) shells → Each IsShortFace (flat shells)
flat_each [] h = tt
flat_each (fs ∷ rest) h = each_append IsShortFace fs (flat rest) h.0 (flat_each rest h.1)

wide : (n : ℕ) → n ≤ 2 ^ 54 → n ≤ 2 ^ 60
wide n h = omega (arith, h)

module _ (file : File) (short : IsShortSection file.section) where
  poly_kept : (n : ℕ) → IsShort n → IsKept AreFew (poly_loop file n)
  poly_kept n h =
      onward (members_kept file.section short n 1 h refl) (λ ps k.
      onward (each_of ps k (λ q s. member_point_kept file short _ (point_kept file short) n q h s)) (λ points a. loop_kept n points h (read_few ps points k a)))

  bound_kept : (n count : ℕ) → IsShort n → IsCount count → IsKept (IsCounted Any) (breps.bound file n count)
  bound_kept n count h c =
      onward (named_kept file.section short (kind.PolyLoop ∷ []) n 1 h refl) (λ l s.
      onward (poly_kept l s) (λ points few.
      onward (count_kept count (length points) c (wide (length points) few)) (λ more m. read (record { value = tt; count = m }))))

  member_bound_kept : (face : ℕ) (q : Param) (count : ℕ) → IsShort face → IsShortParam q → IsCount count → IsKept (IsCounted Any) (member_bound file face q count)
  member_bound_kept face q count h s c =
      onward (member_kept file.section short face 1 q h refl s) (λ m a.
      onward (kinds_kept file.section short (kind.FaceBound ∷ kind.FaceOuterBound ∷ []) m a) (λ n b. bound_kept n count b c))

  face_kept : (n count : ℕ) → IsShort n → IsCount count → IsKept (IsCounted IsShortFace) (breps.face file n count)
  face_kept n count h c =
      onward (members_kept file.section short n 1 h refl) (λ ps k.
      onward (each_counted_kept (λ q more s m. member_bound_kept n q more h s m) ps count k.each c) (λ loops m. read (record { value = h; count = m.count })))

  member_face_kept : (shell : ℕ) (q : Param) (count : ℕ) → IsShort shell → IsShortParam q → IsCount count → IsKept (IsCounted IsShortFace) (member_face file shell q count)
  member_face_kept shell q count h s c =
      onward (member_kept file.section short shell 1 q h refl s) (λ m a.
      onward (kinds_kept file.section short (kind.Face ∷ []) m a) (λ n b. face_kept n count b c))

  shell_kept : (n count : ℕ) → IsShort n → IsCount count → IsKept (IsCounted (Each IsShortFace)) (breps.shell file n count)
  shell_kept n count h c =
      onward (members_kept file.section short n 1 h refl) (λ ps k. each_counted_kept (λ q more s m. member_face_kept n q more h s m) ps count k.each c)

  outer_shell_kept : (n count : ℕ) → IsShort n → IsCount count → IsKept (IsCounted (Each IsShortFace)) (outer_shell file n count)
  outer_shell_kept n count h c = onward (named_kept file.section short (kind.ClosedShell ∷ []) n 1 h refl) (λ s a. shell_kept s count a c)

  member_shell_kept : (n : ℕ) (q : Param) (count : ℕ) → IsShort n → IsShortParam q → IsCount count → IsKept (IsCounted (Each IsShortFace)) (member_shell file n q count)
  member_shell_kept n q count h s c =
      onward (member_kept file.section short n 2 q h refl s) (λ m a.
      onward (kinds_kept file.section short (kind.ClosedShell ∷ []) m a) (λ l b. shell_kept l count b c))

  voids_kept : (n count : ℕ) → IsShort n → IsCount count → IsKept (IsCounted (Each IsShortFace)) (faces_with_voids file n count)
  voids_kept n count h c =
      onward (outer_shell_kept n count h c) (λ outer k.
      onward (members_kept file.section short n 2 h refl) (λ ps s.
      onward (each_counted_kept (λ q more t m. member_shell_kept n q more h t m) ps outer.1 s.each k.count) (λ voids m.
      read (record { value = each_append IsShortFace outer.0 (flat voids.0) k.value (flat_each voids.0 m.value); count = m.count }))))

  pub brep_faces_kept : (n count : ℕ) → IsShort n → IsCount count → IsKept (IsCounted (Each IsShortFace)) (brep_faces file n count)
  brep_faces_kept n count h c = either (has_kind file.section n kind.FacetedBrep) (outer_shell_kept n count h c) (voids_kept n count h c)
