-- The faces of a whole walk.
use Rattle.std.proofs.Common.{◌≡◌, ◌<◌, ◌≤◌, ◌+◌, ℕ, suc, length, Bool, true, false, not, cond, List, [], ◌∷◌, map, Option, Some, None, refl, sym, ap, ap₂, ◌∙◌, arith}
use Rattle.std.specs.Prelude.{sum_by, nat_eq}
use Rattle.std.specs.Prelude.{IsPermutation}
use Rattle.std.specs.List.Sorted.{IsNonDecreasingBy}
use Rattle.std.proofs.lemmas.Bool.{eq-eqb}
use Rattle.std.proofs.lemmas.List.Sums.{sum_by-cons}
use Rattle.std.proofs.lemmas.List.Sorted.{sum_by-IsPermutation, All-permutation}
use Rattle.spec_space.specs.declared.Point.{Point}
use Rattle.plane_core.specs.declared.numbers.Plane.{Plane as BookPlane}
use Rattle.plane_core.specs.declared.book.PlaneId.{PlaneId}
use Rattle.plane_core.specs.Books.{AreDistinct, BeginsWithWalls}
use Rattle.plane_cells.specs.declared.steps.Step.{Step}
use Rattle.tree_pool.specs.Trees.{Tree}
use Rattle.tree_pool.specs.Pools.{Slots}
use Rattle.face_walk.specs.Points.{holds}
use Rattle.face_walk.specs.Faces.{IsOfBook, IsTight, is_true_at, IsFace, outside_by, boundary_on, pieces_at, AreFacesOn, AreFacesOf}
use Rattle.spec_solid.specs.Planes.{front_of, back_of}
use Rattle.poly_frag.specs.Frags.{plane_at}
use Rattle.face_walk.specs.declared.faces.OutFace.{OutFace}
use Rattle.face_walk.specs.declared.work.Visit.{Visit}
use Rattle.face_walk.specs.Works.{IsFit, due, due_at, in_frag, seen, pending, IsWalked}
use Rattle.face_walk.proofs.Opened.{IsWalk}

-- ---- flags, by how often each side is shown
abbrev shown_as : Bool → List Bool → ℕ
shown_as side zs = sum_by (λ z. due side (not z) z) zs

-- of the two sides each flag shows one
two_sides : (z : Bool) → due true (not z) z + due false (not z) z ≡ 1
two_sides true = refl
two_sides false = refl

no_more : (a b x y n : ℕ) → a + b ≡ 1 → x + y ≡ n → (a + x) + (b + y) ≡ suc n
no_more a b x y n e f = omega arith

totals : (zs : List Bool) → shown_as true zs + shown_as false zs ≡ length zs
totals [] = refl
totals (z ∷ zs) =
    ap₂ (λ m n. m + n) (sum_by-cons (λ z. due true (not z) z) z zs) (sum_by-cons (λ z. due false (not z) z) z zs)
    ∙ no_more (due true (not z) z) (due false (not z) z) (shown_as true zs) (shown_as false zs) (length zs) (two_sides z) (totals zs)

at_most_one : (x y : Bool) → due true x y + due false x y ≤ 1
at_most_one true true = omega arith
at_most_one true false = omega arith
at_most_one false true = omega arith
at_most_one false false = omega arith

zero_is_not_one : ◌≡◌ {A = ℕ} 0 1 → ⊥
zero_is_not_one e = omega arith

one_is_not_zero : ◌≡◌ {A = ℕ} 1 0 → ⊥
one_is_not_zero e = omega arith

too_many : (n a b x y : ℕ) → a + b ≡ suc (suc n) → a ≡ x → b ≡ y → x + y ≤ 1 → ⊥
too_many n a b x y e f g h = omega arith

flags_are : (zs : List Bool) (x y : Bool) → ((side : Bool) → shown_as side zs ≡ due side x y) → zs ≡ outside_by x y
flags_are [] true true h = refl
flags_are [] false false h = refl
flags_are [] true false h = absurd (zero_is_not_one (h false))
flags_are [] false true h = absurd (zero_is_not_one (h true))
flags_are (true ∷ []) true true h = absurd (one_is_not_zero (h true))
flags_are (true ∷ []) false false h = absurd (one_is_not_zero (h true))
flags_are (true ∷ []) true false h = absurd (one_is_not_zero (h true))
flags_are (true ∷ []) false true h = refl
flags_are (false ∷ []) true true h = absurd (one_is_not_zero (h false))
flags_are (false ∷ []) false false h = absurd (one_is_not_zero (h false))
flags_are (false ∷ []) true false h = refl
flags_are (false ∷ []) false true h = absurd (one_is_not_zero (h false))
flags_are (z ∷ w ∷ zs) x y h = absurd (too_many (length zs) (shown_as true (z ∷ w ∷ zs)) (shown_as false (z ∷ w ∷ zs)) (due true x y) (due false x y) (totals (z ∷ w ∷ zs)) (h true) (h false) (at_most_one x y))

-- ---- the faces at a point
abbrev flags_at : List BookPlane → Point → List OutFace → List Bool
flags_at planes p faces = map (λ o. o.front_out) (pieces_at planes p faces)

zero_plus : (n : ℕ) → n ≡ 0 + n
zero_plus n = omega arith

seen_first : (planes : List BookPlane) (side : Bool) (p : Point) (o : OutFace) (faces : List OutFace) (held : Bool) → holds planes o.frag p ≡ held → shown_as side (flags_at planes p faces) ≡ seen planes side p faces
    → shown_as side (flags_at planes p (o ∷ faces)) ≡ cond held (due side (not o.front_out) o.front_out) 0 + seen planes side p faces
seen_first planes side p o faces true e rest = rw e (sum_by-cons (λ z. due side (not z) z) o.front_out (flags_at planes p faces) ∙ ap (λ n. due side (not o.front_out) o.front_out + n) rest)
seen_first planes side p o faces false e rest = rw e (rest ∙ zero_plus (seen planes side p faces))

seen_is : (planes : List BookPlane) (side : Bool) (p : Point) (faces : List OutFace) → shown_as side (flags_at planes p faces) ≡ seen planes side p faces
seen_is planes side p [] = refl
seen_is planes side p (o ∷ faces) =
    seen_first planes side p o faces (holds planes o.frag p) refl (seen_is planes side p faces)
    ∙ sym (sum_by-cons (λ x. in_frag planes (due side (not x.front_out) x.front_out) p x.frag) o faces)

shown_from_seen : (planes : List BookPlane) (t : Tree) (id : PlaneId) (p : Point) (faces : List OutFace) → ((side : Bool) → seen planes side p faces ≡ due_at planes t id side p) → flags_at planes p faces ≡ boundary_on planes t id p
shown_from_seen planes t id p faces h =
    flags_are (flags_at planes p faces) (is_true_at planes t (front_of (plane_at planes id) p)) (is_true_at planes t (back_of (plane_at planes id) p)) (λ side. seen_is planes side p faces ∙ h side)

-- ---- the walk ends
last_sum : (x d w : ℕ) → w ≡ 0 → x + w ≡ d → x ≡ d
last_sum x d w e f = omega arith

pub walk_ends : (pool : Slots) (planes : List BookPlane) (t : Tree) (only : Option PlaneId) (path : List Step) (visits : List Visit) (faces : List OutFace) → visits ≡ [] → IsWalk pool planes t only path visits faces → IsWalked planes t only faces
walk_ends pool planes t only path visits faces e walk = record {
  are_faces = walk.are_faces;
  shown = λ h p side given sought alone.
      let d = due_at planes t h side p in
      last_sum (seen planes side p faces) d (pending planes d p path visits) (ap (pending planes d p path) e) (walk.shown h p side given sought alone);
  on_plane = walk.on_plane;
}

-- ---- what the public calls say
pub fit : (planes : List BookPlane) (t : Tree) → AreDistinct planes → BeginsWithWalls planes → IsOfBook planes t → IsTight planes t → IsFit planes t
fit planes t distinct walls of_book tight = record { distinct = distinct; walls = walls; of_book = of_book; tight = tight }

number_itself : (k : ℕ) → nat_eq k k ≡ true
number_itself k = eq-eqb k k refl

pub faces_of_one : (planes : List BookPlane) (t : Tree) (id : PlaneId) → id.k < length planes → (faces : List OutFace) → IsWalked planes t (Some id) faces → AreFacesOn planes t id faces
faces_of_one planes t id given faces walked = record {
  faces = walked.are_faces;
  on_plane = walked.on_plane id refl;
  boundary = λ p alone. shown_from_seen planes t id p faces (λ side. walked.shown id p side given (number_itself id.k) alone);
}

pub faces_of_all : (planes : List BookPlane) (t : Tree) (found faces : List OutFace) → IsWalked planes t None found → IsPermutation found faces → IsNonDecreasingBy (λ o. o.frag.support.k) faces → AreFacesOf planes t faces
faces_of_all planes t found faces walked same sorted = record {
  faces = All-permutation (IsFace planes t) found faces same walked.are_faces;
  boundary = λ id given p alone. shown_from_seen planes t id p faces
      (λ side. sum_by-IsPermutation (λ o. in_frag planes (due side (not o.front_out) o.front_out) p o.frag) found faces same ∙ walked.shown id p side given refl alone);
  in_order = sorted;
}
