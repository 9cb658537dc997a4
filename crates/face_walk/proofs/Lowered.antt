-- A sheet on its way down, with all its parts.
use Rattle.std.proofs.Common.{◌≡◌, ◌<◌, ◌+◌, ℕ, length, Bool, List, [], ◌∷◌, ◌++◌, All, sym, ap, subst, ◌∙◌, arith}
use Rattle.std.proofs.lemmas.List.Sums.{sum_by_push}
use Rattle.std.proofs.lemmas.List.Elements.{All-nil, All-push}
use Rattle.spec_space.specs.declared.Point.{Point}
use Rattle.plane_core.specs.declared.numbers.Plane.{Plane as BookPlane}
use Rattle.plane_core.specs.declared.book.PlaneId.{PlaneId}
use Rattle.convex_cycles.proofs.Lists.{each_from_all, all_from_each, each_split}
use Rattle.tree_pool.specs.Trees.{Tree}
use Rattle.tree_pool.specs.Pools.{Slots}
use Rattle.face_walk.specs.Faces.{IsAloneOn, IsFace}
use Rattle.face_walk.specs.declared.faces.OutFace.{OutFace}
use Rattle.face_walk.specs.declared.work.Sheet.{Sheet}
use Rattle.face_walk.specs.Works.{IsFit, IsSheetOf, IsSafe, due_at, in_frag, seen, waiting, sheet_weight, sheets_weight, IsOnSupport, IsFaceOnPlane, IsFragmentFace, IsTurn, AddsFaces}

-- what was found of a sheet, and the parts that wait
pub record IsDown (pool : Slots) (planes : List BookPlane) (t : Tree) (whole : Sheet) (old : List OutFace) (sheets : List Sheet) (faces : List OutFace) : Type 0 where
  pub parts : All (IsSheetOf pool planes t) sheets
  pub are_faces : All (IsFace planes t) old → All (IsFace planes t) faces
  pub shown : (id : PlaneId) (p : Point) (side : Bool) → id.k < length planes → IsAloneOn planes t id p
      → seen planes side p faces + waiting planes (due_at planes t id side p) p sheets ≡ seen planes side p old + in_frag planes (due_at planes t id side p) p whole.frag

-- and all of it lies on the sheet's plane
pub record IsOnPlane (id : PlaneId) (old : List OutFace) (sheets : List Sheet) (faces : List OutFace) : Type 0 where
  pub parts : All (IsOnSupport id) sheets
  pub on_plane : All (IsFaceOnPlane id) old → All (IsFaceOnPlane id) faces

-- the items of a list and its last item
last_of : {X : Type 0} (P : X → Type 0) (waits rest : List X) (x : X) → waits ≡ rest ++ x ∷ [] → All P waits → All P rest × P x
last_of P waits rest x e all =
    let parts = each_split P rest (x ∷ []) (each_from_all P (rest ++ x ∷ []) (subst (All P) e all)) in
    (all_from_each P rest parts.0, parts.1.0)

only_one : {X : Type 0} (P : X → Type 0) (none one : List X) (x : X) → none ≡ [] → one ≡ none ++ x ∷ [] → P x → All P one
only_one P none one x e f is = subst (All P) (sym f) (All-push P none x (subst (All P) (sym e) (All-nil P)) is)

first_sum : (x n w : ℕ) → w ≡ 0 + n → x + w ≡ x + n
first_sum x n w e = omega arith

last_sum : (x y w : ℕ) → w ≡ 0 → x + w ≡ y → x ≡ y
last_sum x y w e f = omega arith

module _ (pool : Slots) (planes : List BookPlane) (whole : Sheet) (old : List OutFace) where
  pub down_begins : (none sheets : List Sheet) → none ≡ [] → sheets ≡ none ++ whole ∷ [] → (t : Tree) → IsSheetOf pool planes t whole → IsDown pool planes t whole old sheets old
  down_begins none sheets e f t is = record {
    parts = only_one (IsSheetOf pool planes t) none sheets whole e f is;
    are_faces = λ all. all;
    shown = λ id p side given alone.
        let d = due_at planes t id side p in
        first_sum (seen planes side p old) (in_frag planes d p whole.frag) (waiting planes d p sheets)
        (ap (waiting planes d p) f ∙ sum_by_push (λ s. in_frag planes d p s.frag) none whole ∙ ap (λ xs. waiting planes d p xs + in_frag planes d p whole.frag) e);
  }

  pub safe_begins : (none sheets : List Sheet) → none ≡ [] → sheets ≡ none ++ whole ∷ [] → IsSafe pool planes whole → All (IsSafe pool planes) sheets
  safe_begins none sheets e f is = only_one (IsSafe pool planes) none sheets whole e f is

  pub on_begins : (none sheets : List Sheet) → none ≡ [] → sheets ≡ none ++ whole ∷ [] → (id : PlaneId) → IsOnSupport id whole → IsOnPlane id old sheets old
  on_begins none sheets e f id on = record { parts = only_one (IsOnSupport id) none sheets whole e f on; on_plane = λ all. all }

  module _ (waits rest new : List Sheet) (s : Sheet) (found faces : List OutFace) (popped : waits ≡ rest ++ s ∷ []) where
    pub down_goes_on : IsTurn pool planes s rest new found faces → (t : Tree) → IsFit planes t → IsDown pool planes t whole old waits found → IsDown pool planes t whole old new faces
    down_goes_on turn t fit down =
        let parts = last_of (IsSheetOf pool planes t) waits rest s popped down.parts in
        record {
          parts = turn.sheets t fit parts.1 parts.0;
          are_faces = λ all. turn.are_faces t fit parts.1 (down.are_faces all);
          shown = λ id p side given alone.
              let d = due_at planes t id side p in
              turn.shown t id p side fit given parts.1 alone
              ∙ ap (λ n. seen planes side p found + n) (sym (ap (waiting planes d p) popped ∙ sum_by_push (λ x. in_frag planes d p x.frag) rest s))
              ∙ down.shown id p side given alone;
        }

    pub on_goes_on : IsTurn pool planes s rest new found faces → (id : PlaneId) → IsOnPlane id old waits found → IsOnPlane id old new faces
    on_goes_on turn id on =
        let parts = last_of (IsOnSupport id) waits rest s popped on.parts in
        record { parts = turn.support id parts.1 parts.0; on_plane = λ all. turn.on_plane id parts.1 (on.on_plane all) }

    pub safe_next : All (IsSafe pool planes) waits → IsSafe pool planes s
    safe_next all = (last_of (IsSafe pool planes) waits rest s popped all).1

    pub safe_goes_on : IsTurn pool planes s rest new found faces → All (IsSafe pool planes) waits → All (IsSafe pool planes) new
    safe_goes_on turn all =
        let parts = last_of (IsSafe pool planes) waits rest s popped all in
        turn.safe parts.1 parts.0

    pub fragments_go_on : IsTurn pool planes s rest new found faces → All (IsSafe pool planes) waits → (All (IsFragmentFace planes) old → All (IsFragmentFace planes) found) → All (IsFragmentFace planes) old → All (IsFragmentFace planes) faces
    fragments_go_on turn all so_far given = turn.fragments (last_of (IsSafe pool planes) waits rest s popped all).1 (so_far given)

    pub down_lower : IsTurn pool planes s rest new found faces → sheets_weight pool new < sheets_weight pool waits
    down_lower turn = subst (λ n. sheets_weight pool new < n) (sym (ap (sheets_weight pool) popped ∙ sum_by_push (sheet_weight pool) rest s)) turn.lower

  pub down_ends : (sheets : List Sheet) (faces : List OutFace) → sheets ≡ [] → ((t : Tree) → IsFit planes t → IsSheetOf pool planes t whole → IsDown pool planes t whole old sheets faces)
      → ((id : PlaneId) → IsOnSupport id whole → IsOnPlane id old sheets faces) → (All (IsFragmentFace planes) old → All (IsFragmentFace planes) faces) → AddsFaces pool planes whole old faces
  down_ends sheets faces e down on fragments = record {
    fragments = fragments;
    are_faces = λ t fit is. (down t fit is).are_faces;
    shown = λ t id p side fit given is alone.
        let d = due_at planes t id side p in
        last_sum (seen planes side p faces) (seen planes side p old + in_frag planes d p whole.frag) (waiting planes d p sheets) (ap (waiting planes d p) e) ((down t fit is).shown id p side given alone);
    on_plane = λ id is. (on id is).on_plane;
  }
