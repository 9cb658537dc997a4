-- One step of a walk, and the walk's paths.
use Rattle.std.proofs.Common.{◌≡◌, ◌<◌, ◌≤◌, ◌+◌, ℕ, zero, suc, max, length, take, get_or, Bool, true, false, cond, List, [], ◌∷◌, ◌++◌, append_assoc, Option, Some, All, refl, sym, ap, ap₂, subst, ◌∙◌, arith}
use Rattle.std.specs.Prelude.{nat_eq}
use Rattle.std.proofs.Math.Seq.{take-length}
use Rattle.std.proofs.lemmas.List.{take-append-le, length-take-le, length_push}
use Rattle.std.proofs.lemmas.List.Sums.{sum_by_push, sum_by-cons}
use Rattle.std.proofs.lemmas.List.Elements.{All-nil, All-push, All-take}
use Rattle.std.proofs.lemmas.List.Quantifiers.{all_pairs_push}
use Rattle.spec_space.specs.declared.Point.{Point}
use Rattle.plane_core.specs.declared.numbers.Plane.{Plane as BookPlane}
use Rattle.plane_core.specs.declared.book.PlaneId.{PlaneId}
use Rattle.convex_cycles.proofs.Lists.{Each, EachPair, each_from_all, all_from_each, each_split, each_weaker, pair_from_all, all_from_pair}
use Rattle.plane_cells.specs.Cells.{IsInCell}
use Rattle.plane_cells.specs.declared.steps.Step.{Step}
use Rattle.tree_pool.specs.declared.node.TreeId.{TreeId}
use Rattle.tree_pool.specs.declared.node.PoolNode.TheVariants.{Leaf, Node}
use Rattle.tree_pool.specs.Trees.{Tree, IsPlaneOf}
use Rattle.tree_pool.specs.Pools.{Slots, node_at, rank_at, StandsFor, AreTrees, IsPool}
use Rattle.tree_pool.proofs.Walks.{children}
use Rattle.face_walk.specs.Faces.{IsAloneOn, told, IsFace}
use Rattle.face_walk.specs.declared.faces.OutFace.{OutFace}
use Rattle.face_walk.specs.declared.work.Visit.{Visit}
use Rattle.face_walk.specs.Works.{IsFit, due, due_at, seen, IsFaceOnPlane, keeps, in_path, steps_of, waiting_visit, IsVisitAt, IsVisitOf, IsSafeVisit, IsPathOf, pending, weight_of, visit_weight, visits_weight, AreStacked, is_sought, IsSoughtOnly, AddsOwn, IsOpened}
use Rattle.face_walk.proofs.Placed.{leaf_place}
use Rattle.face_walk.proofs.Sheets.{weight_some, weight_two, due_same}
use Rattle.face_walk.proofs.Nodes.{in_cell, own_plane, child_visit, parts_due}

-- ---- a leaf
module _ (pool : Slots) (ok : AreTrees pool) (planes : List BookPlane) (only : Option PlaneId) (path : List Step) (id : TreeId) (b : Bool) (at : node_at pool id ≡ Some (Leaf b)) where
  none_due : (t : Tree) → IsVisitAt pool planes t path id → (h : PlaneId) (p : Point) (side : Bool) → h.k < length planes → IsAloneOn planes t h p → (kept : Bool) → keeps planes path p ≡ kept → cond kept (due_at planes t h side p) 0 ≡ 0
  none_due t visit h p side given alone false k = refl
  none_due t visit h p side given alone true k =
      let i = in_cell planes t h p alone path k in
      ap₂ (λ x y. due side (told x) (told y)) (leaf_place pool planes t (IsInCell planes path) true b id ok visit.front at h p given alone i) (leaf_place pool planes t (IsInCell planes path) false b id ok visit.back at h p given alone i)
      ∙ due_same side b

  adds_none : (x w n : ℕ) → n ≡ 0 → x + w ≡ x + (w + n)
  adds_none x w n e = omega arith

  lower_all : (w n : ℕ) → 1 ≤ n → w < w + n
  lower_all w n h = omega arith

  pub leaf_opened : (visits : List Visit) (faces : List OutFace) → IsOpened pool planes only path id visits visits faces faces
  leaf_opened visits faces = record {
    visits = λ t fit visit all. all;
    are_faces = λ t fit visit all. all;
    shown = λ t h p side fit given sought visit alone.
        adds_none (seen planes side p faces) (pending planes (due_at planes t h side p) p path visits) (in_path planes (due_at planes t h side p) p path)
        (none_due t visit h p side given alone (keeps planes path p) refl);
    on_plane = λ h only_h all. all;
    fragments = λ all. all;
    safe = λ all. all;
    stacked = λ s. s;
    lower = lower_all (visits_weight pool visits) (weight_of (rank_at pool id)) (weight_some (rank_at pool id));
  }

-- ---- a node
whole_path : (path : List Step) (id : TreeId) (plane : PlaneId) (keep : Bool) → steps_of path (waiting_visit id (length path) plane keep) ≡ path ++ record { plane = plane; in_front = keep } ∷ []
whole_path path id plane keep = ap (λ xs. xs ++ record { plane = plane; in_front = keep } ∷ []) (take-length path)

same_is_no_more : (n : ℕ) → n ≤ n
same_is_no_more n = omega arith

stack_push : (n : ℕ) (visits : List Visit) (v : Visit) → v.depth ≡ n → AreStacked n visits → AreStacked n (visits ++ v ∷ [])
stack_push n visits v e s = record {
  within = All-push (λ (u : Visit). u.depth ≤ n) visits v s.within (subst (λ d. d ≤ n) (sym e) (same_is_no_more n));
  rising = all_pairs_push (λ (u w : Visit). u.depth ≤ w.depth) visits v s.rising (λ k d h. subst (λ m. (get_or visits k d).depth ≤ m) (sym e) (s.within k d h));
}

module _ (pool : Slots) (built : IsPool pool) (planes : List BookPlane) (only : Option PlaneId) (path : List Step) (id : TreeId) (plane : PlaneId) (i j : TreeId) (at : node_at pool id ≡ Some (Node plane i j)) (given : plane.k < length planes) where
  abbrev back : Visit
  back = waiting_visit j (length path) plane false

  abbrev front : Visit
  front = waiting_visit i (length path) plane true

  sums : (x own y w b f n m : ℕ) → y ≡ x + own → m ≡ (w + b) + f → own + (b + f) ≡ n → y + m ≡ x + (w + n)
  sums x own y w b f n m e g h = omega arith

  higher : (n x y : ℕ) → n ≡ suc (max x y) → (x < n) × (y < n)
  higher n x y e = (left n x y e, right n x y e)
    where
      left : (n x y : ℕ) → n ≡ suc (max x y) → x < n
      left n x y e = omega arith

      right : (n x y : ℕ) → n ≡ suc (max x y) → y < n
      right n x y e = omega arith

  less : (b f n w m : ℕ) → m ≡ (w + b) + f → b + f < n → m < w + n
  less b f n w m e h = omega arith

  pub node_opened : (old new : List Visit) (found faces : List OutFace) → new ≡ old ++ (back ∷ (front ∷ [])) → AddsOwn pool planes only path plane i j found faces → IsOpened pool planes only path id old new found faces
  node_opened old new found faces made own =
      let e : new ≡ (old ++ back ∷ []) ++ front ∷ [] = made ∙ sym (append_assoc old (back ∷ []) (front ∷ [])) in
      record {
        visits = λ t fit visit all.
            let P : Visit → Type 0 = IsVisitOf pool planes t path in
            subst (All P) (sym e) (All-push P (old ++ back ∷ []) front
            (All-push P old back all (subst (λ steps. IsVisitAt pool planes t steps j) (sym (whole_path path j plane false)) (child_visit pool planes t fit path id visit plane i j at false)))
            (subst (λ steps. IsVisitAt pool planes t steps i) (sym (whole_path path i plane true)) (child_visit pool planes t fit path id visit plane i j at true)));
        are_faces = λ t fit visit all. own.are_faces t id fit at visit all;
        shown = λ t h p side fit given sought visit alone.
            let d = due_at planes t h side p in
            let w : Visit → ℕ = λ v. in_path planes d p (steps_of path v) in
            sums (seen planes side p found) (cond (nat_eq plane.k h.k) (in_path planes d p path) 0) (seen planes side p faces) (pending planes d p path old) (w back) (w front) (in_path planes d p path) (pending planes d p path new)
            (own.shown t id h p side fit given sought at visit alone)
            (ap (pending planes d p path) e ∙ sum_by_push w (old ++ back ∷ []) front ∙ ap (λ n. n + w front) (sum_by_push w old back))
            (ap₂ (λ xs ys. cond (nat_eq plane.k h.k) (in_path planes d p path) 0 + (in_path planes d p xs + in_path planes d p ys)) (whole_path path j plane false) (whole_path path i plane true)
            ∙ parts_due pool planes t fit path id visit plane i j at h p alone d);
        on_plane = own.on_plane;
        fragments = own.fragments;
        safe = λ all.
            let P : Visit → Type 0 = IsSafeVisit pool planes in
            let kids = children pool built id plane i j at in
            subst (All P) (sym e) (All-push P (old ++ back ∷ []) front (All-push P old back all (record { live = kids.1; given = given })) (record { live = kids.0; given = given }));
        stacked = λ s. subst (AreStacked (length path)) (sym e) (stack_push (length path) (old ++ back ∷ []) front refl (stack_push (length path) old back refl s));
        lower =
            let rank = (children pool built id plane i j at).3 in
            less (visit_weight pool back) (visit_weight pool front) (weight_of (rank_at pool id)) (visits_weight pool old) (visits_weight pool new)
            (ap (visits_weight pool) e ∙ sum_by_push (visit_weight pool) (old ++ back ∷ []) front ∙ ap (λ n. n + visit_weight pool front) (sum_by_push (visit_weight pool) old back))
            (weight_two (rank_at pool j) (rank_at pool i) (rank_at pool id) (higher (rank_at pool id) (rank_at pool i) (rank_at pool j) rank).1 (higher (rank_at pool id) (rank_at pool i) (rank_at pool j) rank).0);
      }

-- no tree of the book's planes has one that the book does not have
pub dropped_opened : (pool : Slots) (planes : List BookPlane) (only : Option PlaneId) (path : List Step) (id : TreeId) (plane : PlaneId) (i j : TreeId) → node_at pool id ≡ Some (Node plane i j) → (plane.k < length planes → ⊥)
    → (visits : List Visit) (faces : List OutFace) → IsOpened pool planes only path id visits visits faces faces
dropped_opened pool planes only path id plane i j at out visits faces = record {
  visits = λ t fit visit all. all;
  are_faces = λ t fit visit all. all;
  shown = λ t h p side fit given sought visit alone. absurd (out (fit.of_book plane.k (own_plane pool planes t fit path id visit plane i j at)));
  on_plane = λ h only_h all. all;
  fragments = λ all. all;
  safe = λ all. all;
  stacked = λ s. s;
  lower = more_than (visits_weight pool visits) (weight_of (rank_at pool id)) (weight_some (rank_at pool id));
}
  where
    more_than : (w n : ℕ) → 1 ≤ n → w < w + n
    more_than w n h = omega arith

-- ---- paths that wait, after a path was taken up
take_take : {X : Type 0} (m n : ℕ) (xs : List X) → m ≤ n → take m (take n xs) ≡ take m xs
take_take zero n xs h = refl
take_take (suc m) zero xs h = absurd (omega arith)
take_take (suc m) (suc n) [] h = refl
take_take (suc m) (suc n) (x ∷ xs) h = ap (λ ys. x ∷ ys) (take_take m n xs (omega arith))

steps_same : (path : List Step) (u v : Visit) → u.depth ≤ v.depth → v.depth ≤ length path → steps_of (steps_of path v) u ≡ steps_of path u
steps_same path u v h k =
    ap (λ xs. xs ++ u.step ∷ [])
    (take-append-le u.depth (take v.depth path) (v.step ∷ []) (subst (λ n. u.depth ≤ n) (sym (length-take-le v.depth path k)) h) ∙ take_take u.depth v.depth path h)

pair_split : {X : Type 0} (R : X → X → Type 0) (xs : List X) (y : X) → EachPair R (xs ++ y ∷ []) → EachPair R xs × Each (λ x. R x y) xs
pair_split R [] y e = (tt, tt)
pair_split R (x ∷ xs) y e =
    let head = each_split (R x) xs (y ∷ []) e.0 in
    let rest = pair_split R xs y e.1 in
    ((head.0, rest.0), (head.1.0, rest.1))

-- what waits below the top of a stack is no deeper
below_top : (n : ℕ) (rest : List Visit) (v : Visit) → AreStacked n (rest ++ v ∷ []) → Each (λ (u : Visit). u.depth ≤ v.depth) rest × EachPair (λ (u w : Visit). u.depth ≤ w.depth) rest × (v.depth ≤ n)
below_top n rest v s =
    let pairs = pair_split (λ (u w : Visit). u.depth ≤ w.depth) rest v (pair_from_all (λ (u w : Visit). u.depth ≤ w.depth) (rest ++ v ∷ []) s.rising) in
    (pairs.1, pairs.0, (each_split (λ (u : Visit). u.depth ≤ n) rest (v ∷ []) (each_from_all (λ (u : Visit). u.depth ≤ n) (rest ++ v ∷ []) s.within)).1.0)

next_length : (path : List Step) (v : Visit) → v.depth ≤ length path → length (steps_of path v) ≡ v.depth + 1
next_length path v h = length_push (take v.depth path) v.step ∙ ap (λ n. n + 1) (length-take-le v.depth path h)

no_deeper : (a b n : ℕ) → n ≡ b + 1 → a ≤ b → a ≤ n
no_deeper a b n e h = omega arith

visits_same : (pool : Slots) (planes : List BookPlane) (t : Tree) (path : List Step) (v : Visit) → v.depth ≤ length path → (rest : List Visit) → Each (λ (u : Visit). u.depth ≤ v.depth) rest → Each (IsVisitOf pool planes t path) rest
    → Each (IsVisitOf pool planes t (steps_of path v)) rest
visits_same pool planes t path v k [] h e = tt
visits_same pool planes t path v k (u ∷ us) h e = (subst (λ steps. IsVisitAt pool planes t steps u.id) (sym (steps_same path u v h.0 k)) e.0, visits_same pool planes t path v k us h.1 e.1)

pending_same : (planes : List BookPlane) (d : ℕ) (p : Point) (path : List Step) (v : Visit) → v.depth ≤ length path → (rest : List Visit) → Each (λ (u : Visit). u.depth ≤ v.depth) rest
    → pending planes d p (steps_of path v) rest ≡ pending planes d p path rest
pending_same planes d p path v k [] h = refl
pending_same planes d p path v k (u ∷ us) h =
    sum_by-cons (λ w. in_path planes d p (steps_of (steps_of path v) w)) u us
    ∙ ap₂ (λ xs n. in_path planes d p xs + n) (steps_same path u v h.0 k) (pending_same planes d p path v k us h.1)
    ∙ sym (sum_by-cons (λ w. in_path planes d p (steps_of path w)) u us)

-- ---- the walk so far
-- what it has found, and what is still to be walked, with its path
pub record IsWalk (pool : Slots) (planes : List BookPlane) (t : Tree) (only : Option PlaneId) (path : List Step) (visits : List Visit) (faces : List OutFace) : Type 0 where
  pub waits : All (IsVisitOf pool planes t path) visits
  pub are_faces : All (IsFace planes t) faces
  pub shown : (h : PlaneId) (p : Point) (side : Bool) → h.k < length planes → is_sought only h ≡ true → IsAloneOn planes t h p → seen planes side p faces + pending planes (due_at planes t h side p) p path visits ≡ due_at planes t h side p
  pub on_plane : (h : PlaneId) → IsSoughtOnly only h → All (IsFaceOnPlane h) faces

pub whole_visit : (pool : Slots) (planes : List BookPlane) (t : Tree) (id : TreeId) → StandsFor pool id t → IsVisitAt pool planes t [] id
whole_visit pool planes t id s = record {
  path = All-nil (λ (s : Step). IsPlaneOf s.plane.k t);
  front = record { tree = t; stands = s; among = λ k is. is; agrees = λ h p given alone is. refl };
  back = record { tree = t; stands = s; among = λ k is. is; agrees = λ h p given alone is. refl };
}

module _ (pool : Slots) (planes : List BookPlane) (t : Tree) (fit : IsFit planes t) (only : Option PlaneId) where
  first_sum : (y m d : ℕ) → y + m ≡ 0 + (0 + d) → y + m ≡ d
  first_sum y m d e = omega arith

  -- the first step
  pub walk_begins : (id : TreeId) → StandsFor pool id t → (path : List Step) → path ≡ [] → (none visits : List Visit) → none ≡ [] → (before faces : List OutFace) → before ≡ [] → IsOpened pool planes only path id none visits before faces
      → IsWalk pool planes t only path visits faces
  walk_begins id stands path empty none visits no_visits before faces no_faces opened =
      let visit = subst (λ steps. IsVisitAt pool planes t steps id) (sym empty) (whole_visit pool planes t id stands) in
      record {
        waits = opened.visits t fit visit (subst (All (IsVisitOf pool planes t path)) (sym no_visits) (All-nil (IsVisitOf pool planes t path)));
        are_faces = opened.are_faces t fit visit (subst (All (IsFace planes t)) (sym no_faces) (All-nil (IsFace planes t)));
        shown = λ h p side given sought alone.
            let d = due_at planes t h side p in
            first_sum (seen planes side p faces) (pending planes d p path visits) d
            (opened.shown t h p side fit given sought visit alone
            ∙ (λ x. seen planes side p (no_faces x) + (pending planes d p path (no_visits x) + in_path planes d p (empty x))));
        on_plane = λ h only_h. opened.on_plane h only_h (subst (All (IsFaceOnPlane h)) (sym no_faces) (All-nil (IsFaceOnPlane h)));
      }

  next_sum : (x y w m n d : ℕ) → y + m ≡ x + (w + n) → x + (w + n) ≡ d → y + m ≡ d
  next_sum x y w m n d e f = e ∙ f

  -- a step from the top of the stack
  pub walk_goes_on : (path next : List Step) (v : Visit) (waits rest visits : List Visit) (found faces : List OutFace) → waits ≡ rest ++ v ∷ [] → next ≡ steps_of path v → AreStacked (length path) waits → IsWalk pool planes t only path waits found
      → IsOpened pool planes only next v.id rest visits found faces → IsWalk pool planes t only next visits faces
  walk_goes_on path next v waits rest visits found faces popped taken stacked walk opened =
      let P : Visit → Type 0 = IsVisitOf pool planes t path in
      let below = below_top (length path) rest v (subst (AreStacked (length path)) popped stacked) in
      let all = each_split P rest (v ∷ []) (each_from_all P (rest ++ v ∷ []) (subst (All P) popped walk.waits)) in
      let visit = subst (λ steps. IsVisitAt pool planes t steps v.id) (sym taken) all.1.0 in
      let waiting : All (IsVisitOf pool planes t next) rest = subst (λ steps. All (IsVisitOf pool planes t steps) rest) (sym taken)
      (all_from_each (IsVisitOf pool planes t (steps_of path v)) rest (visits_same pool planes t path v below.2 rest below.0 all.0)) in
      record {
        waits = opened.visits t fit visit waiting;
        are_faces = opened.are_faces t fit visit walk.are_faces;
        shown = λ h p side given sought alone.
            let d = due_at planes t h side p in
            opened.shown t h p side fit given sought visit alone
            ∙ ap (λ n. seen planes side p found + n) (
            (λ x. pending planes d p (taken x) rest + in_path planes d p (taken x))
            ∙ ap (λ n. n + in_path planes d p (steps_of path v)) (pending_same planes d p path v below.2 rest below.0)
            ∙ sym (sum_by_push (λ w. in_path planes d p (steps_of path w)) rest v)
            ∙ ap (pending planes d p path) (sym popped)
            )
            ∙ walk.shown h p side given sought alone;
        on_plane = λ h only_h. opened.on_plane h only_h (walk.on_plane h only_h);
      }

-- what a step needs
safe_parts : (pool : Slots) (planes : List BookPlane) (waits rest : List Visit) (v : Visit) → waits ≡ rest ++ v ∷ [] → All (IsSafeVisit pool planes) waits → All (IsSafeVisit pool planes) rest × IsSafeVisit pool planes v
safe_parts pool planes waits rest v popped all =
    let P = IsSafeVisit pool planes in
    let parts = each_split P rest (v ∷ []) (each_from_all P (rest ++ v ∷ []) (subst (All P) popped all)) in
    (all_from_each P rest parts.0, parts.1.0)

pub safe_top : (pool : Slots) (planes : List BookPlane) (waits rest : List Visit) (v : Visit) → waits ≡ rest ++ v ∷ [] → All (IsSafeVisit pool planes) waits → IsSafeVisit pool planes v
safe_top pool planes waits rest v popped all = (safe_parts pool planes waits rest v popped all).1

pub safe_rest : (pool : Slots) (planes : List BookPlane) (waits rest : List Visit) (v : Visit) → waits ≡ rest ++ v ∷ [] → All (IsSafeVisit pool planes) waits → All (IsSafeVisit pool planes) rest
safe_rest pool planes waits rest v popped all = (safe_parts pool planes waits rest v popped all).0

pub path_next : (planes : List BookPlane) (path next : List Step) (v : Visit) → next ≡ steps_of path v → IsPathOf planes path → v.step.plane.k < length planes → IsPathOf planes next
path_next planes path next v taken given own =
    let P : Step → Type 0 = λ s. s.plane.k < length planes in
    subst (All P) (sym taken) (All-push P (take v.depth path) v.step (All-take P v.depth path given) own)

-- the stack after the top was taken
pub stack_pop : (path next : List Step) (v : Visit) (waits rest : List Visit) → waits ≡ rest ++ v ∷ [] → next ≡ steps_of path v → AreStacked (length path) waits → AreStacked (length next) rest
stack_pop path next v waits rest popped taken stacked =
    let below = below_top (length path) rest v (subst (AreStacked (length path)) popped stacked) in
    let long : length next ≡ v.depth + 1 = ap length taken ∙ next_length path v below.2 in
    record {
      within = all_from_each (λ (u : Visit). u.depth ≤ length next) rest (each_weaker (λ (u : Visit). u.depth ≤ v.depth) (λ (u : Visit). u.depth ≤ length next) (λ u h. no_deeper u.depth v.depth (length next) long h) rest below.0);
      rising = all_from_pair (λ (u w : Visit). u.depth ≤ w.depth) rest below.1;
    }

pub stack_begins : (n : ℕ) (visits : List Visit) → visits ≡ [] → AreStacked n visits
stack_begins n visits e = subst (AreStacked n) (sym e) (record { within = All-nil (λ (v : Visit). v.depth ≤ n); rising = all_from_pair (λ (u w : Visit). u.depth ≤ w.depth) [] tt })

-- less is left to be done
pub walk_lower : (pool : Slots) (v : Visit) (waits rest visits : List Visit) → waits ≡ rest ++ v ∷ [] → visits_weight pool visits < visits_weight pool rest + visit_weight pool v → visits_weight pool visits < visits_weight pool waits
walk_lower pool v waits rest visits popped less = subst (λ n. visits_weight pool visits < n) (sym (ap (visits_weight pool) popped ∙ sum_by_push (visit_weight pool) rest v)) less
