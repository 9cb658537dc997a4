-- Walks of the parts of a tree.
use Rattle.std.proofs.Common.{◌≡◌, ◌⊎◌, inl, inr, ◌<◌, ◌≤◌, ◌+◌, ℕ, length, Bool, true, false, cond, ◌&&◌, List, [], ◌∷◌, ◌++◌, Option, Some, ℤ, pos, neg_ℤ, ◌<ℤ◌, All, refl, sym, ap, subst, ◌∙◌, arith, true≢false}
use Rattle.std.specs.Prelude.{nat_eq}
use Rattle.std.proofs.lemmas.Int.{ints}
use Rattle.std.proofs.lemmas.Bool.{eqb-true, eq-eqb, cases_lt}
use Rattle.std.proofs.lemmas.List.Folds.{list_all-append}
use Rattle.std.proofs.lemmas.List.Elements.{All-nil, All-cons, All-head, All-tail, All-push, All-contains}
use Rattle.spec_space.specs.declared.Point.{Point}
use Rattle.spec_space.specs.declared.Plane.{Plane}
use Rattle.spec_space.specs.Points.{value, opposite}
use Rattle.plane_core.specs.declared.numbers.Plane.{Plane as BookPlane}
use Rattle.plane_core.specs.declared.book.PlaneId.{PlaneId}
use Rattle.integer_laws.proofs.Cancel.{sign_cases}
use Rattle.convex_cycles.specs.Sides.{is_in_front}
use Rattle.convex_cycles.proofs.Flags.{front_flag}
use Rattle.convex_cycles.proofs.Hull.{opposite_front, value-opposite}
use Rattle.convex_cycles.proofs.Lists.{each_from_all, all_from_each, each_weaker}
use Rattle.poly_frag.specs.Frags.{plane_at, IsInside}
use Rattle.poly_frag.specs.declared.frag.Edge.{Edge}
use Rattle.poly_frag.specs.declared.frag.Frag.{Frag}
use Rattle.plane_cells.specs.Cells.{step_side, IsInCell, HasPointOn}
use Rattle.plane_cells.specs.Polygons.{IsPathEdge, IsPolygon}
use Rattle.plane_cells.specs.declared.steps.Step.{Step}
use Rattle.plane_cells.proofs.Laws.{points_of_part}
use Rattle.plane_cells.proofs.Slices.{none_on_wall, polygon_point}
use Rattle.tree_pool.specs.declared.node.TreeId.{TreeId}
use Rattle.tree_pool.specs.declared.node.PoolNode.TheVariants.{Node}
use Rattle.tree_pool.specs.Trees.{Tree, node, IsPlaneOf}
use Rattle.tree_pool.specs.Pools.{Slots, node_at, StandsFor}
use Rattle.tree_pool.proofs.Walks.{parts}
use Rattle.face_walk.specs.Points.{holds}
use Rattle.face_walk.specs.Faces.{IsAloneOn}
use Rattle.face_walk.specs.declared.faces.OutFace.{OutFace}
use Rattle.face_walk.specs.Works.{IsFit, side_tree, neighbour, IsPlace, IsSheetOf, due_at, in_frag, seen, AddsFaces, keeps, in_path, IsVisitAt, is_sought, IsSoughtOnly, AddsOwn}
use Rattle.face_walk.proofs.Neighbours.{Side, side_kept, side_own}
use Rattle.face_walk.proofs.Held.{no_flag, in_front_from_flag, inside_from_held, held_from_inside}
use Rattle.face_walk.proofs.Placed.{alone_number, kept_is_side, place_on}

-- ---- paths
within_from_flags : (planes : List BookPlane) (p : Point) (steps : List Step) → keeps planes steps p ≡ true → All (λ s. pos 0 <ℤ value (step_side planes s) p) steps
within_from_flags planes p [] e = All-nil (λ s. pos 0 <ℤ value (step_side planes s) p)
within_from_flags planes p (s ∷ steps) e =
    let both = parts_of (is_in_front (step_side planes s) p) (keeps planes steps p) e in
    All-cons (λ s. pos 0 <ℤ value (step_side planes s) p) s steps (in_front_from_flag (step_side planes s) p both.0) (within_from_flags planes p steps both.1)
  where
    parts_of : (a b : Bool) → (a && b) ≡ true → (a ≡ true) × (b ≡ true)
    parts_of true b e = (refl, e)
    parts_of false b e = absurd (true≢false (sym e))

flags_from_within : (planes : List BookPlane) (p : Point) (steps : List Step) → All (λ s. pos 0 <ℤ value (step_side planes s) p) steps → keeps planes steps p ≡ true
flags_from_within planes p [] a = refl
flags_from_within planes p (s ∷ steps) a =
    rw (front_flag (step_side planes s) p true (All-head (λ s. pos 0 <ℤ value (step_side planes s) p) s steps a)) (flags_from_within planes p steps (All-tail (λ s. pos 0 <ℤ value (step_side planes s) p) s steps a))

module _ (planes : List BookPlane) (t : Tree) (h : PlaneId) (p : Point) (alone : IsAloneOn planes t h p) (steps : List Step) where
  pub in_cell : keeps planes steps p ≡ true → IsInCell planes steps p
  in_cell e = record { is_point = alone.is_point; in_cube = alone.in_cube; kept = within_from_flags planes p steps e }

pub kept_in_cell : (planes : List BookPlane) (p : Point) (steps : List Step) → IsInCell planes steps p → keeps planes steps p ≡ true
kept_in_cell planes p steps i = flags_from_within planes p steps i.kept

keeps_push : (planes : List BookPlane) (p : Point) (steps : List Step) (s : Step) → keeps planes (steps ++ s ∷ []) p ≡ (keeps planes steps p && is_in_front (step_side planes s) p)
keeps_push planes p steps s = list_all-append (λ s. is_in_front (step_side planes s) p) steps (s ∷ []) ∙ ap (λ b. keeps planes steps p && b) (last (is_in_front (step_side planes s) p))
  where
    last : (b : Bool) → (b && true) ≡ b
    last true = refl
    last false = refl

-- ---- the top of a tree
pub top_is_plane : (pool : Slots) (planes : List BookPlane) (t : Tree) (part : Point → Type 0) (side : Bool) (id : TreeId) (plane : PlaneId) (i j : TreeId) → IsPlace pool planes t part side id → node_at pool id ≡ Some (Node plane i j)
    → IsPlaneOf plane.k t
top_is_plane pool planes t part side id plane i j place at =
    let m = parts pool id plane i j at place.tree place.stands in
    place.among plane.k (subst (IsPlaneOf plane.k) (sym m.4) (inl refl))

own_side : (k : ℕ) (in_front : Bool) (f g : Tree) → side_tree k in_front (node k f g) ≡ cond in_front f g
own_side k in_front f g = ap (λ b. cond b (cond in_front f g) (node k f g)) (eq-eqb k k refl)

abbrev child : Bool → TreeId → TreeId → TreeId
child in_front i j = cond in_front i j

child_stands : (pool : Slots) (id : TreeId) (plane : PlaneId) (i j : TreeId) → node_at pool id ≡ Some (Node plane i j) → (in_front : Bool) (u : Tree) → StandsFor pool id u → StandsFor pool (child in_front i j) (side_tree plane.k in_front u)
child_stands pool id plane i j at in_front u s =
    let m = parts pool id plane i j at u s in
    subst (λ x. StandsFor pool (child in_front i j) (side_tree plane.k in_front x)) (sym m.4) (subst (StandsFor pool (child in_front i j)) (sym (own_side plane.k in_front m.0 m.1)) (by in_front m.0 m.1 m.2 m.3))
  where
    by : (in_front : Bool) (f g : Tree) → StandsFor pool i f → StandsFor pool j g → StandsFor pool (child in_front i j) (cond in_front f g)
    by true f g sf sg = sf
    by false f g sf sg = sg

-- ---- the part of the top's plane in the cell
module _ (pool : Slots) (planes : List BookPlane) (t : Tree) (fit : IsFit planes t) (steps : List Step) (id : TreeId) (visit : IsVisitAt pool planes t steps id) (plane : PlaneId) (i j : TreeId) (at : node_at pool id ≡ Some (Node plane i j)) where
  pub own_plane : IsPlaneOf plane.k t
  own_plane = top_is_plane pool planes t (IsInCell planes steps) true id plane i j visit.front at

  pub path_given : All (λ s. s.plane.k < length planes) steps
  path_given = all_from_each (λ (s : Step). s.plane.k < length planes) steps (each_weaker (λ (s : Step). IsPlaneOf s.plane.k t) (λ (s : Step). s.plane.k < length planes) (λ s is. fit.of_book s.plane.k is) steps
      (each_from_all (λ (s : Step). IsPlaneOf s.plane.k t) steps visit.path))

  beside : (f : Frag) → IsPolygon planes steps plane f → (side : Bool) (h : PlaneId) (p : Point) → h.k < length planes → IsAloneOn planes t h p → IsInside planes f p
      → IsInCell planes steps p × Side side (value (plane_at planes (record { k = plane.k })) (neighbour side (plane_at planes h) p))
  beside f polygon side h p given alone inside =
      let here = (polygon.inside p alone.is_point).0 inside in
      let on : value (plane_at planes plane) p ≡ pos 0 = subst (λ (x : PlaneId). value (plane_at planes x) p ≡ pos 0) polygon.support here.0 in
      let same : plane.k ≡ h.k = alone_number planes t h plane p alone own_plane on in
      (here.1, subst (λ n. Side side (value (plane_at planes (record { k = n })) (neighbour side (plane_at planes h) p))) (sym same) (side_own planes side h p given alone.on))

  path_edge : (e : Edge) → IsPathEdge steps e → IsPlaneOf e.plane.k t ⊎ (e.plane.k < 6)
  path_edge e (inl wall) = inr wall
  path_edge e (inr step) = inl (All-contains (λ (s : Step). IsPlaneOf s.plane.k t) steps (record { plane = e.plane; in_front = e.keep_front }) visit.path step)

  pub own_sheet : (f : Frag) → IsPolygon planes steps plane f → IsSheetOf pool planes t (record { frag = f; places = record { front = i; back = j } })
  own_sheet f polygon = record {
    fragment = polygon.fragment;
    support = subst (λ (x : PlaneId). IsPlaneOf x.k t) (sym polygon.support) own_plane;
    no_wall = subst (λ (x : PlaneId). 6 ≤ x.k) (sym polygon.support) (elim (cases_lt plane.k 6) [ inl low ↦ absurd (none_on_wall planes steps plane fit.walls low (polygon_point planes steps plane f polygon)) | inr high ↦ high ]);
    in_cube = λ p is inside. ((polygon.inside p is).0 inside).1.in_cube;
    edges = all_from_each (λ (e : Edge). IsPlaneOf e.plane.k t ⊎ (e.plane.k < 6)) f.edges.items (each_weaker (IsPathEdge steps) (λ (e : Edge). IsPlaneOf e.plane.k t ⊎ (e.plane.k < 6)) path_edge f.edges.items (each_from_all (IsPathEdge steps) f.edges.items polygon.edges));
    front = place_on pool planes t (IsInCell planes steps) (IsInside planes f) true true plane.k id i visit.front (child_stands pool id plane i j at true) (beside f polygon true);
    back = place_on pool planes t (IsInCell planes steps) (IsInside planes f) false false plane.k id j visit.back (child_stands pool id plane i j at false) (beside f polygon false);
  }

  -- it holds a point alone on a plane exactly where the point is in the cell, and the plane is the top's
  held_by_own : (f : Frag) → IsPolygon planes steps plane f → (h : PlaneId) (p : Point) → IsAloneOn planes t h p → (d : ℕ) → (same : Bool) → nat_eq plane.k h.k ≡ same → (kept : Bool) → keeps planes steps p ≡ kept
      → in_frag planes d p f ≡ cond same (cond kept d 0) 0
  held_by_own f polygon h p alone d false other kept k =
      ap (λ b. cond b d 0) (no_flag (holds planes f p) (λ held.
      let here = (polygon.inside p alone.is_point).0 (inside_from_held planes f p held) in
      let on : value (plane_at planes plane) p ≡ pos 0 = subst (λ (x : PlaneId). value (plane_at planes x) p ≡ pos 0) polygon.support here.0 in
      true≢false (sym (eq-eqb plane.k h.k (alone_number planes t h plane p alone own_plane on)) ∙ other)))
  held_by_own f polygon h p alone d true same false k =
      ap (λ b. cond b d 0) (no_flag (holds planes f p) (λ held. true≢false (sym (kept_in_cell planes p steps ((polygon.inside p alone.is_point).0 (inside_from_held planes f p held)).1) ∙ k)))
  held_by_own f polygon h p alone d true same true k =
      let on : value (plane_at planes plane) p ≡ pos 0 = subst (λ n. value (plane_at planes (record { k = n })) p ≡ pos 0) (sym (eqb-true plane.k h.k same)) alone.on in
      ap (λ b. cond b d 0) (held_from_inside planes f p ((polygon.inside p alone.is_point).1 (subst (λ (x : PlaneId). value (plane_at planes x) p ≡ pos 0) (sym polygon.support) on, in_cell planes t h p alone steps k)))

  pub own_held : (f : Frag) → IsPolygon planes steps plane f → (h : PlaneId) (p : Point) → IsAloneOn planes t h p → (d : ℕ) → in_frag planes d p f ≡ cond (nat_eq plane.k h.k) (in_path planes d p steps) 0
  own_held f polygon h p alone d = held_by_own f polygon h p alone d (nat_eq plane.k h.k) refl (keeps planes steps p) refl

  -- where no point of the plane lies in the cell, none is due
  none_by : (HasPointOn planes steps (plane_at planes plane) → ⊥) → (h : PlaneId) (p : Point) → IsAloneOn planes t h p → (d : ℕ) → (same : Bool) → nat_eq plane.k h.k ≡ same → (kept : Bool) → keeps planes steps p ≡ kept → cond same (cond kept d 0) 0 ≡ 0
  none_by none h p alone d false other kept k = refl
  none_by none h p alone d true same false k = refl
  none_by none h p alone d true same true k = absurd (none (record {
    point = p;
    in_cell = in_cell planes t h p alone steps k;
    on = subst (λ n. value (plane_at planes (record { k = n })) p ≡ pos 0) (sym (eqb-true plane.k h.k same)) alone.on;
  }))

  pub none_due : (HasPointOn planes steps (plane_at planes plane) → ⊥) → (h : PlaneId) (p : Point) → IsAloneOn planes t h p → (d : ℕ) → cond (nat_eq plane.k h.k) (in_path planes d p steps) 0 ≡ 0
  none_due none h p alone d = none_by none h p alone d (nat_eq plane.k h.k) refl (keeps planes steps p) refl

  -- ---- the parts
  pub child_visit : (keep : Bool) → IsVisitAt pool planes t (steps ++ record { plane = plane; in_front = keep } ∷ []) (child keep i j)
  child_visit keep =
      let s : Step = record { plane = plane; in_front = keep } in
      let side : (next : Bool) (h : PlaneId) (p : Point) → h.k < length planes → IsAloneOn planes t h p → IsInCell planes (steps ++ s ∷ []) p
      → IsInCell planes steps p × Side keep (value (plane_at planes plane) (neighbour next (plane_at planes h) p)) = λ next h p given alone c.
      let was = (points_of_part planes steps s p).0 c in
      (was.0, side_kept planes keep next plane h p (fit.of_book plane.k own_plane) given (kept_is_side keep (plane_at planes plane) p was.1)) in
      record {
        path = All-push (λ (s : Step). IsPlaneOf s.plane.k t) steps s visit.path own_plane;
        front = place_on pool planes t (IsInCell planes steps) (IsInCell planes (steps ++ s ∷ [])) true keep plane.k id (child keep i j) visit.front (child_stands pool id plane i j at keep) (side true);
        back = place_on pool planes t (IsInCell planes steps) (IsInCell planes (steps ++ s ∷ [])) false keep plane.k id (child keep i j) visit.back (child_stands pool id plane i j at keep) (side false);
      }

  -- ---- a point is in the cell of one of the parts, or on the top's plane
  sum_on : (kept : Bool) (d : ℕ) → cond true (cond kept d 0) 0 + (cond (kept && false) d 0 + cond (kept && false) d 0) ≡ cond kept d 0
  sum_on true d = omega arith
  sum_on false d = refl

  sum_back : (kept : Bool) (d : ℕ) → cond false (cond kept d 0) 0 + (cond (kept && true) d 0 + cond (kept && false) d 0) ≡ cond kept d 0
  sum_back true d = omega arith
  sum_back false d = refl

  sum_front : (kept : Bool) (d : ℕ) → cond false (cond kept d 0) 0 + (cond (kept && false) d 0 + cond (kept && true) d 0) ≡ cond kept d 0
  sum_front true d = omega arith
  sum_front false d = refl

  sum_of : (same back front kept : Bool) (d : ℕ) → ℕ
  sum_of same back front kept d = cond same (cond kept d 0) 0 + (cond (kept && back) d 0 + cond (kept && front) d 0)

  not_ahead : (k : Plane) (p : Point) → (pos 0 <ℤ value k p → ⊥) → is_in_front k p ≡ false
  not_ahead k p none = no_flag (is_in_front k p) (λ e. none (in_front_from_flag k p e))

  zero_no_more : (x : ℤ) → x ≡ pos 0 → pos 0 <ℤ x → ⊥
  zero_no_more x e h = omega (arith, ints)

  zero_no_less : (x y : ℤ) → y ≡ neg_ℤ x → x ≡ pos 0 → pos 0 <ℤ y → ⊥
  zero_no_less x y f e h = omega (arith, ints)

  low_no_more : (x : ℤ) → x <ℤ pos 0 → pos 0 <ℤ x → ⊥
  low_no_more x e h = omega (arith, ints)

  high_no_less : (x y : ℤ) → y ≡ neg_ℤ x → pos 0 <ℤ x → pos 0 <ℤ y → ⊥
  high_no_less x y f e h = omega (arith, ints)

  low_some : (x : ℤ) → x <ℤ pos 0 → x ≡ pos 0 → ⊥
  low_some x h e = omega (arith, ints)

  other_number : (h : PlaneId) (p : Point) → IsAloneOn planes t h p → (value (plane_at planes plane) p ≡ pos 0 → ⊥) → nat_eq plane.k h.k ≡ false
  other_number h p alone off = no_flag (nat_eq plane.k h.k) (λ same. off (subst (λ n. value (plane_at planes (record { k = n })) p ≡ pos 0) (sym (eqb-true plane.k h.k same)) alone.on))

  by_side : (h : PlaneId) (p : Point) → IsAloneOn planes t h p → (kept : Bool) (d : ℕ)
      → cond (nat_eq plane.k h.k) (cond kept d 0) 0 + (cond (kept && is_in_front (opposite (plane_at planes plane)) p) d 0 + cond (kept && is_in_front (plane_at planes plane) p) d 0) ≡ cond kept d 0
  by_side h p alone kept d =
      let k = plane_at planes plane in
      let turned = value-opposite k p in
      elim (sign_cases (value k p)) [
        | inl low ↦
            let same = other_number h p alone (low_some (value k p) low) in
            let back = front_flag (opposite k) p true (opposite_front k p low) in
            let front = not_ahead k p (low_no_more (value k p) low) in
            (λ i. cond (same i) (cond kept d 0) 0 + (cond (kept && back i) d 0 + cond (kept && front i) d 0)) ∙ sum_back kept d
        | inr (inl on) ↦
            let same = eq-eqb plane.k h.k (alone_number planes t h plane p alone own_plane on) in
            let back = not_ahead (opposite k) p (zero_no_less (value k p) (value (opposite k) p) turned on) in
            let front = not_ahead k p (zero_no_more (value k p) on) in
            (λ i. cond (same i) (cond kept d 0) 0 + (cond (kept && back i) d 0 + cond (kept && front i) d 0)) ∙ sum_on kept d
        | inr (inr high) ↦
            let same = other_number h p alone (λ e. zero_no_more (value k p) e high) in
            let back = not_ahead (opposite k) p (high_no_less (value k p) (value (opposite k) p) turned high) in
            let front = front_flag k p true high in
            (λ i. cond (same i) (cond kept d 0) 0 + (cond (kept && back i) d 0 + cond (kept && front i) d 0)) ∙ sum_front kept d
      ]

  pub parts_due : (h : PlaneId) (p : Point) → IsAloneOn planes t h p → (d : ℕ)
      → cond (nat_eq plane.k h.k) (in_path planes d p steps) 0 + (in_path planes d p (steps ++ record { plane = plane; in_front = false } ∷ []) + in_path planes d p (steps ++ record { plane = plane; in_front = true } ∷ [])) ≡ in_path planes d p steps
  parts_due h p alone d =
      let back = keeps_push planes p steps (record { plane = plane; in_front = false }) in
      let front = keeps_push planes p steps (record { plane = plane; in_front = true }) in
      (λ i. cond (nat_eq plane.k h.k) (in_path planes d p steps) 0 + (cond (back i) d 0 + cond (front i) d 0)) ∙ by_side h p alone (keeps planes steps p) d

-- ---- faces of the top's plane
module _ (pool : Slots) (planes : List BookPlane) (only : Option PlaneId) (steps : List Step) (plane : PlaneId) (i j : TreeId) where
  adds_none : (x n : ℕ) → n ≡ 0 → x ≡ x + n
  adds_none x n e = omega arith

  unsought : is_sought only plane ≡ false → (h : PlaneId) → is_sought only h ≡ true → (d : ℕ) → (same : Bool) → nat_eq plane.k h.k ≡ same → cond same d 0 ≡ 0
  unsought none h sought d false e = refl
  unsought none h sought d true e = absurd (true≢false (sym (subst (λ n. is_sought only (record { k = n }) ≡ true) (sym (eqb-true plane.k h.k e)) sought) ∙ none))

  pub own_unsought : is_sought only plane ≡ false → (faces : List OutFace) → AddsOwn pool planes only steps plane i j faces faces
  own_unsought none faces = record {
    are_faces = λ t id fit at visit all. all;
    shown = λ t id h p side fit given sought at visit alone.
        adds_none (seen planes side p faces) (cond (nat_eq plane.k h.k) (in_path planes (due_at planes t h side p) p steps) 0)
        (unsought none h sought (in_path planes (due_at planes t h side p) p steps) (nat_eq plane.k h.k) refl);
    on_plane = λ id only_id all. all;
    fragments = λ all. all;
  }

  pub own_none : (HasPointOn planes steps (plane_at planes plane) → ⊥) → (faces : List OutFace) → AddsOwn pool planes only steps plane i j faces faces
  own_none none faces = record {
    are_faces = λ t id fit at visit all. all;
    shown = λ t id h p side fit given sought at visit alone.
        adds_none (seen planes side p faces) (cond (nat_eq plane.k h.k) (in_path planes (due_at planes t h side p) p steps) 0)
        (none_due pool planes t fit steps id visit plane i j at none h p alone (due_at planes t h side p));
    on_plane = λ id only_id all. all;
    fragments = λ all. all;
  }

  sought_one : (id : PlaneId) → IsSoughtOnly only id → is_sought only plane ≡ true → id.k ≡ plane.k
  sought_one id e sought = eqb-true id.k plane.k (subst (λ o. is_sought o plane ≡ true) e sought)

  same_id : (a b : PlaneId) → a.k ≡ b.k → a ≡ b
  same_id a b e = λ x. record { k = e x }

  pub own_added : (f : Frag) → IsPolygon planes steps plane f → is_sought only plane ≡ true → (found faces : List OutFace) → AddsFaces pool planes (record { frag = f; places = record { front = i; back = j } }) found faces
      → AddsOwn pool planes only steps plane i j found faces
  own_added f polygon sought found faces added = record {
    are_faces = λ t id fit at visit all. added.are_faces t fit (own_sheet pool planes t fit steps id visit plane i j at f polygon) all;
    shown = λ t id h p side fit given sought_h at visit alone.
        added.shown t h p side fit given (own_sheet pool planes t fit steps id visit plane i j at f polygon) alone
        ∙ ap (λ n. seen planes side p found + n) (own_held pool planes t fit steps id visit plane i j at f polygon h p alone (due_at planes t h side p));
    fragments = added.fragments;
    on_plane = λ id only_id all. added.on_plane id (polygon.support ∙ sym (same_id id plane (sought_one id only_id sought))) all;
  }
