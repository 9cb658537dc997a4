-- Sheets one step down.
use Rattle.std.proofs.Common.{◌≡◌, ◌≢◌, ◌⊎◌, inl, inr, ◌<◌, ◌≤◌, ◌+◌, ℕ, zero, suc, length, Bool, true, false, not, cond, List, [], ◌∷◌, ◌++◌, Some, ℤ, pos, neg_ℤ, All, refl, sym, ap, ap₂, subst, ◌∙◌, arith, true≢false}
use Rattle.std.specs.Prelude.{Contains}
use Rattle.std.proofs.lemmas.Int.{ints}
use Rattle.std.proofs.lemmas.List.Sums.{sum_by_push}
use Rattle.std.proofs.lemmas.List.Elements.{All-push, All-contains}
use Rattle.spec_space.specs.declared.Point.{Point}
use Rattle.spec_space.specs.declared.Plane.{Plane}
use Rattle.spec_space.specs.Points.{value, opposite}
use Rattle.spec_solid.specs.Planes.{front_of, back_of}
use Rattle.plane_core.specs.declared.numbers.Plane.{Plane as BookPlane}
use Rattle.plane_core.specs.declared.book.PlaneId.{PlaneId}
use Rattle.convex_cycles.proofs.Lists.{each_from_all, all_from_each, each_weaker}
use Rattle.poly_frag.specs.Frags.{plane_at, kept_side, IsInside, IsPartOf, HasPart, AreEdgesOf}
use Rattle.poly_frag.specs.Cycles.{IsFragment}
use Rattle.poly_frag.specs.declared.frag.Edge.{Edge}
use Rattle.poly_frag.specs.declared.frag.Frag.{Frag}
use Rattle.poly_frag.proofs.Wholes.{opposite_side, front_side}
use Rattle.tree_pool.specs.declared.node.PoolNode.TheVariants.{Leaf}
use Rattle.tree_pool.specs.Trees.{Tree, leaf, node, height_of, value_of, IsPlaneOf}
use Rattle.tree_pool.specs.Pools.{Slots, node_at, rank_at, StandsFor, AreTrees}
use Rattle.face_walk.specs.Points.{holds}
use Rattle.face_walk.specs.Faces.{IsAloneOn, told, IsFace}
use Rattle.face_walk.specs.declared.faces.OutFace.{OutFace}
use Rattle.face_walk.specs.declared.work.Places.{Places}
use Rattle.face_walk.specs.declared.work.Sheet.{Sheet}
use Rattle.face_walk.specs.Works.{IsFit, side_tree, neighbour, IsTop, IsCrossing, AreLive, GoesOn, IsSheetOf, IsSafe, due, due_at, in_frag, seen, waiting, weight_of, sheet_weight, sheets_weight, IsOnSupport, IsFaceOnPlane, IsFragmentFace, IsDivided, IsSettled, IsTurn}
use Rattle.face_walk.proofs.Neighbours.{Side, side_kept, side_own}
use Rattle.face_walk.proofs.SideTrees.{side_height, top_height}
use Rattle.face_walk.proofs.Held.{inside_from_held, held_by_one, held_by_two}
use Rattle.face_walk.proofs.Placed.{stands_live, alone_number, kept_is_side, place_on, leaf_place}
use Rattle.face_walk.proofs.Ranges.{in_range, inner_edges}

-- ---- what a step needs
top_is_plane : (k : ℕ) (t : Tree) → IsTop k t → IsPlaneOf k t
top_is_plane k (leaf b) top = absurd top
top_is_plane k (node h f g) top = inl top

-- the plane that a sheet meets is one of the tree's
pub met_is_plane : (pool : Slots) (planes : List BookPlane) (t : Tree) (s : Sheet) (k : ℕ) → IsSheetOf pool planes t s → IsCrossing pool s.places k → IsPlaneOf k t
met_is_plane pool planes t s k is crossing = elim (crossing is.front.tree is.back.tree is.front.stands is.back.stands) [
  | inl top ↦ is.front.among k (top_is_plane k is.front.tree top)
  | inr top ↦ is.back.among k (top_is_plane k is.back.tree top)
]

-- ---- weights
pub weight_some : (n : ℕ) → 1 ≤ weight_of n
weight_some zero = omega arith
weight_some (suc n) = let h = weight_some n in omega arith

rises : (a b : ℕ) → a ≤ b → weight_of a ≤ weight_of b
rises zero b h = weight_some b
rises (suc a) zero h = absurd (omega arith)
rises (suc a) (suc b) h = let i = rises a b (omega arith) in omega arith

pub weight_one : (a n : ℕ) → a < n → weight_of a < weight_of n
weight_one a zero h = absurd (omega arith)
weight_one a (suc n) h =
    let i = rises a n (omega arith) in
    let s = weight_some n in
    omega arith

pub weight_two : (a b n : ℕ) → a < n → b < n → weight_of a + weight_of b < weight_of n
weight_two a b zero h k = absurd (omega arith)
weight_two a b (suc n) h k =
    let i = rises a n (omega arith) in
    let j = rises b n (omega arith) in
    omega arith

sums_less : (a b c d : ℕ) → (a < c) ⊎ (b < d) → a ≤ c → b ≤ d → a + b < c + d
sums_less a b c d (inl h) k l = omega arith
sums_less a b c d (inr h) k l = omega arith

-- places that go on are lower
pub goes_lower : (pool : Slots) → AreTrees pool → (k : ℕ) (x y : Bool) (old new : Places) (f g : Tree) → StandsFor pool old.front f → StandsFor pool old.back g → GoesOn pool k x y old new → IsTop k f ⊎ IsTop k g
    → rank_at pool new.front + rank_at pool new.back < rank_at pool old.front + rank_at pool old.back
goes_lower pool ok k x y old new f g sf sg goes top =
    rw (ok.height new.front (side_tree k x f) (goes.front_stands f sf), ok.height new.back (side_tree k y g) (goes.back_stands g sg), ok.height old.front f sf, ok.height old.back g sg)
    (sums_less (height_of (side_tree k x f)) (height_of (side_tree k y g)) (height_of f) (height_of g) (lower top) (side_height k x f) (side_height k y g))
  where
    lower : IsTop k f ⊎ IsTop k g → (height_of (side_tree k x f) < height_of f) ⊎ (height_of (side_tree k y g) < height_of g)
    lower (inl t) = inl (top_height k x f t)
    lower (inr t) = inr (top_height k y g t)

pub step_lower : (pool : Slots) → AreTrees pool → (at : Places) → AreLive pool at → (k : ℕ) → IsCrossing pool at k → (x y : Bool) (next : Places) → GoesOn pool k x y at next
    → rank_at pool next.front + rank_at pool next.back < rank_at pool at.front + rank_at pool at.back
step_lower pool ok at live k crossing x y next goes =
    let f = ok.tree at.front live.0 in
    let g = ok.tree at.back live.1 in
    goes_lower pool ok k x y at next f.0 g.0 f.1 g.1 goes (crossing f.0 g.0 f.1 g.1)

-- and live
pub goes_live : (pool : Slots) → AreTrees pool → (at : Places) → AreLive pool at → (k : ℕ) (x y : Bool) (next : Places) → GoesOn pool k x y at next → AreLive pool next
goes_live pool ok at live k x y next goes =
    let f = ok.tree at.front live.0 in
    let g = ok.tree at.back live.1 in
    (stands_live pool next.front (side_tree k x f.0) (goes.front_stands f.0 f.1), stands_live pool next.back (side_tree k y g.0) (goes.back_stands g.0 g.1))

-- ---- one sheet, or two, in place of a sheet
less_by_one : (r s old new : ℕ) → new ≡ old + r → r < s → new < old + s
less_by_one r s old new e h = omega arith

less_by_two : (r q s old mid new : ℕ) → mid ≡ old + r → new ≡ mid + q → r + q < s → new < old + s
less_by_two r q s old mid new e f h = omega arith

wait_two : (r q s old mid new : ℕ) → mid ≡ old + r → new ≡ mid + q → r + q ≡ s → new ≡ old + s
wait_two r q s old mid new e f h = omega arith

module _ (pool : Slots) (planes : List BookPlane) (s : Sheet) where
  -- the part of the sheet may wait in its place
  pub record IsRest (r : Sheet) : Type 0 where
    pub sheet : (t : Tree) → IsFit planes t → IsSheetOf pool planes t s → IsSheetOf pool planes t r
    pub same_support : r.frag.support ≡ s.frag.support
    pub safe : IsSafe pool planes s → IsSafe pool planes r

  pub one_divided : (r : Sheet) (old new : List Sheet) → new ≡ old ++ r ∷ [] → IsRest r
      → ((t : Tree) (id : PlaneId) (p : Point) (d : ℕ) → IsFit planes t → IsSheetOf pool planes t s → IsAloneOn planes t id p → in_frag planes d p r.frag ≡ in_frag planes d p s.frag)
      → sheet_weight pool r < sheet_weight pool s → IsDivided pool planes s old new
  one_divided r old new e rest same less = record {
    sheets = λ t fit is all. subst (All (IsSheetOf pool planes t)) (sym e) (All-push (IsSheetOf pool planes t) old r all (rest.sheet t fit is));
    wait = λ t id p d fit is alone. ap (waiting planes d p) e ∙ sum_by_push (λ x. in_frag planes d p x.frag) old r ∙ ap (λ n. waiting planes d p old + n) (same t id p d fit is alone);
    support = λ id on all. subst (All (IsOnSupport id)) (sym e) (All-push (IsOnSupport id) old r all (rest.same_support ∙ on));
    safe = λ is all. subst (All (IsSafe pool planes)) (sym e) (All-push (IsSafe pool planes) old r all (rest.safe is));
    lower = less_by_one (sheet_weight pool r) (sheet_weight pool s) (sheets_weight pool old) (sheets_weight pool new) (ap (sheets_weight pool) e ∙ sum_by_push (sheet_weight pool) old r) less;
  }

  pub two_divided : (r q : Sheet) (old mid new : List Sheet) → mid ≡ old ++ r ∷ [] → new ≡ mid ++ q ∷ [] → IsRest r → IsRest q
      → ((t : Tree) (id : PlaneId) (p : Point) (d : ℕ) → IsFit planes t → IsSheetOf pool planes t s → IsAloneOn planes t id p → in_frag planes d p r.frag + in_frag planes d p q.frag ≡ in_frag planes d p s.frag)
      → sheet_weight pool r + sheet_weight pool q < sheet_weight pool s → IsDivided pool planes s old new
  two_divided r q old mid new e f rest more both less = record {
    sheets = λ t fit is all.
        let P = IsSheetOf pool planes t in
        subst (All P) (sym f) (All-push P mid q (subst (All P) (sym e) (All-push P old r all (rest.sheet t fit is))) (more.sheet t fit is));
    wait = λ t id p d fit is alone.
        let w : Sheet → ℕ = λ x. in_frag planes d p x.frag in
        wait_two (w r) (w q) (w s) (waiting planes d p old) (waiting planes d p mid) (waiting planes d p new) (ap (waiting planes d p) e ∙ sum_by_push w old r) (ap (waiting planes d p) f ∙ sum_by_push w mid q)
        (both t id p d fit is alone);
    support = λ id on all.
        let P = IsOnSupport id in
        subst (All P) (sym f) (All-push P mid q (subst (All P) (sym e) (All-push P old r all (rest.same_support ∙ on))) (more.same_support ∙ on));
    safe = λ is all.
        let P = IsSafe pool planes in
        subst (All P) (sym f) (All-push P mid q (subst (All P) (sym e) (All-push P old r all (rest.safe is))) (more.safe is));
    lower = less_by_two (sheet_weight pool r) (sheet_weight pool q) (sheet_weight pool s) (sheets_weight pool old) (sheets_weight pool mid) (sheets_weight pool new) (ap (sheets_weight pool) e ∙ sum_by_push (sheet_weight pool) old r)
        (ap (sheets_weight pool) f ∙ sum_by_push (sheet_weight pool) mid q) less;
  }

-- ---- a sheet on the two sides of its own plane
beside_own : (pool : Slots) (planes : List BookPlane) (t : Tree) (s : Sheet) → IsSheetOf pool planes t s → (k : ℕ) → k ≡ s.frag.support.k → (side : Bool) (h : PlaneId) (p : Point) → h.k < length planes → IsAloneOn planes t h p
    → IsInside planes s.frag p → IsInside planes s.frag p × Side side (value (plane_at planes (record { k = k })) (neighbour side (plane_at planes h) p))
beside_own pool planes t s is k own side h p given alone i =
    let same : s.frag.support.k ≡ h.k = alone_number planes t h s.frag.support p alone is.support i.0 in
    (i, subst (λ n. Side side (value (plane_at planes (record { k = n })) (neighbour side (plane_at planes h) p))) (sym (own ∙ same)) (side_own planes side h p given alone.on))

pub own_rest : (pool : Slots) → AreTrees pool → (planes : List BookPlane) (s : Sheet) (k : ℕ) → k ≡ s.frag.support.k → (next : Places) → GoesOn pool k true false s.places next → IsRest pool planes s (record { frag = s.frag; places = next })
own_rest pool ok planes s k own next goes = record {
  safe = λ safe. record { fragment = safe.fragment; live = goes_live pool ok s.places safe.live k true false next goes };
  sheet = λ t fit is. record {
    fragment = is.fragment;
    support = is.support;
    no_wall = is.no_wall;
    in_cube = is.in_cube;
    edges = is.edges;
    front = place_on pool planes t (IsInside planes s.frag) (IsInside planes s.frag) true true k s.places.front next.front is.front goes.front_stands (beside_own pool planes t s is k own true);
    back = place_on pool planes t (IsInside planes s.frag) (IsInside planes s.frag) false false k s.places.back next.back is.back goes.back_stands (beside_own pool planes t s is k own false);
  };
  same_support = refl;
}

-- ---- a part of a sheet on one side of another plane
pub part_rest : (pool : Slots) → AreTrees pool → (planes : List BookPlane) (s : Sheet) (by : PlaneId) (keep : Bool) → IsCrossing pool s.places by.k → (g : Frag) → IsFragment planes g → g.support ≡ s.frag.support
    → AreEdgesOf s.frag (record { plane = by; keep_front = keep }) g → IsPartOf planes g s.frag (kept_side keep (plane_at planes by)) → (next : Places) → GoesOn pool by.k keep keep s.places next
    → IsRest pool planes s (record { frag = g; places = next })
part_rest pool ok planes s by keep crossing g fragment same edges part next goes = record {
  safe = λ safe. record { fragment = fragment; live = goes_live pool ok s.places safe.live by.k keep keep next goes };
  sheet = λ t fit is.
      let plane = met_is_plane pool planes t s by.k is crossing in
      let Old : Edge → Type 0 = λ e. Contains s.frag.edges.items e ⊎ (e ≡ record { plane = by; keep_front = keep }) in
      let New : Edge → Type 0 = λ e. IsPlaneOf e.plane.k t ⊎ (e.plane.k < 6) in
      let side : (next : Bool) (h : PlaneId) (p : Point) → h.k < length planes → IsAloneOn planes t h p → IsInside planes g p
      → IsInside planes s.frag p × Side keep (value (plane_at planes by) (neighbour next (plane_at planes h) p)) = λ next h p given alone i.
      let j = (part.inside p alone.is_point).0 i in
      (j.0, side_kept planes keep next by h p (fit.of_book by.k plane) given (kept_is_side keep (plane_at planes by) p j.1)) in
      record {
        fragment = fragment;
        support = subst (λ (x : PlaneId). IsPlaneOf x.k t) (sym same) is.support;
        no_wall = subst (λ (x : PlaneId). 6 ≤ x.k) (sym same) is.no_wall;
        in_cube = λ p point i. is.in_cube p point ((part.inside p point).0 i).0;
        edges = all_from_each New g.edges.items (each_weaker Old New
            (λ e m. elim m [ inl c ↦ All-contains New s.frag.edges.items e is.edges c | inr cut ↦ inl (subst (λ (x : Edge). IsPlaneOf x.plane.k t) (sym cut) plane) ])
            g.edges.items (each_from_all Old g.edges.items edges));
        front = place_on pool planes t (IsInside planes s.frag) (IsInside planes g) true keep by.k s.places.front next.front is.front goes.front_stands (side true);
        back = place_on pool planes t (IsInside planes s.frag) (IsInside planes g) false keep by.k s.places.back next.back is.back goes.back_stands (side false);
      };
  same_support = same;
}

-- a point alone on a plane that is in the sheet is off each other plane of the tree
off_cut : (pool : Slots) (planes : List BookPlane) (s : Sheet) (by : PlaneId) → IsCrossing pool s.places by.k → by.k ≢ s.frag.support.k → (t : Tree) (id : PlaneId) (p : Point) → IsSheetOf pool planes t s → IsAloneOn planes t id p
    → holds planes s.frag p ≡ true → value (plane_at planes by) p ≢ pos 0
off_cut pool planes s by crossing other t id p is alone held =
    let i = inside_from_held planes s.frag p held in
    let same = alone_number planes t id s.frag.support p alone is.support i.0 in
    alone.off by (met_is_plane pool planes t s by.k is crossing) (λ e. other (e ∙ sym same))

off_opposite : (h : Plane) (p : Point) → value h p ≢ pos 0 → value (opposite h) p ≢ pos 0
off_opposite h p off e = off (back (value h p) (value (opposite h) p) (opposite_side h p) e)
  where
    back : (x y : ℤ) → y ≡ neg_ℤ x → y ≡ pos 0 → x ≡ pos 0
    back x y e f = omega (arith, ints)

module _ (pool : Slots) (planes : List BookPlane) (s : Sheet) (by : PlaneId) (crossing : IsCrossing pool s.places by.k) (other : by.k ≢ s.frag.support.k) where
  pub front_frag : (g : Frag) → IsPartOf planes g s.frag (plane_at planes by) → (HasPart planes s.frag (opposite (plane_at planes by)) → ⊥)
      → (t : Tree) (id : PlaneId) (p : Point) (d : ℕ) → IsFit planes t → IsSheetOf pool planes t s → IsAloneOn planes t id p → in_frag planes d p g ≡ in_frag planes d p s.frag
  front_frag g part none t id p d fit is alone =
      held_by_one planes s.frag (plane_at planes by) (opposite (plane_at planes by)) (opposite_side (plane_at planes by)) p alone.is_point (off_cut pool planes s by crossing other t id p is alone) d g part none

  pub back_frag : (g : Frag) → IsPartOf planes g s.frag (opposite (plane_at planes by)) → (HasPart planes s.frag (plane_at planes by) → ⊥)
      → (t : Tree) (id : PlaneId) (p : Point) (d : ℕ) → IsFit planes t → IsSheetOf pool planes t s → IsAloneOn planes t id p → in_frag planes d p g ≡ in_frag planes d p s.frag
  back_frag g part none t id p d fit is alone =
      held_by_one planes s.frag (opposite (plane_at planes by)) (plane_at planes by) (front_side (plane_at planes by)) p alone.is_point
      (λ held. off_opposite (plane_at planes by) p (off_cut pool planes s by crossing other t id p is alone held)) d g part none

  pub both_frags : (g m : Frag) → IsPartOf planes g s.frag (plane_at planes by) → IsPartOf planes m s.frag (opposite (plane_at planes by))
      → (t : Tree) (id : PlaneId) (p : Point) (d : ℕ) → IsFit planes t → IsSheetOf pool planes t s → IsAloneOn planes t id p → in_frag planes d p m + in_frag planes d p g ≡ in_frag planes d p s.frag
  both_frags g m first second t id p d fit is alone =
      turned (in_frag planes d p g) (in_frag planes d p m) (in_frag planes d p s.frag)
      (held_by_two planes s.frag (plane_at planes by) (opposite (plane_at planes by)) (opposite_side (plane_at planes by)) p alone.is_point (off_cut pool planes s by crossing other t id p is alone) d g m first second)
    where
      turned : (x y z : ℕ) → x + y ≡ z → y + x ≡ z
      turned x y z e = omega arith

-- ---- a sheet between two leaves
pub due_same : (side b : Bool) → due side b b ≡ 0
due_same true true = refl
due_same true false = refl
due_same false true = refl
due_same false false = refl

other_flag : (a b : Bool) → (a ≡ b → ⊥) → not b ≡ a
other_flag true true h = absurd (h refl)
other_flag true false h = refl
other_flag false true h = refl
other_flag false false h = absurd (h refl)

module _ (pool : Slots) (ok : AreTrees pool) (planes : List BookPlane) (s : Sheet) (a b : Bool) (at_front : node_at pool s.places.front ≡ Some (Leaf a)) (at_back : node_at pool s.places.back ≡ Some (Leaf b)) where
  leaf_front : (t : Tree) → IsSheetOf pool planes t s → (h : PlaneId) (p : Point) → h.k < length planes → IsAloneOn planes t h p → IsInside planes s.frag p → value_of planes t (front_of (plane_at planes h) p) ≡ Some a
  leaf_front t is h p given alone i = leaf_place pool planes t (IsInside planes s.frag) true a s.places.front ok is.front at_front h p given alone i

  leaf_back : (t : Tree) → IsSheetOf pool planes t s → (h : PlaneId) (p : Point) → h.k < length planes → IsAloneOn planes t h p → IsInside planes s.frag p → value_of planes t (back_of (plane_at planes h) p) ≡ Some b
  leaf_back t is h p given alone i = leaf_place pool planes t (IsInside planes s.frag) false b s.places.back ok is.back at_back h p given alone i

  leaf_face : (a ≡ b → ⊥) → (t : Tree) → IsFit planes t → IsSheetOf pool planes t s → IsFace planes t (record { frag = s.frag; front_out = b })
  leaf_face differ t fit is =
      let given = is.fragment.cycle.support_given in
      let front = λ (p : Point) (alone : IsAloneOn planes t s.frag.support p) (i : IsInside planes s.frag p). leaf_front t is s.frag.support p given alone i in
      let back = λ (p : Point) (alone : IsAloneOn planes t s.frag.support p) (i : IsInside planes s.frag p). leaf_back t is s.frag.support p given alone i in
      record {
        fragment = is.fragment;
        no_wall = is.no_wall;
        support = is.support;
        edges = inner_edges planes t fit s.frag is.fragment is.in_cube a b differ front back is.edges;
        in_range = in_range planes t fit s.frag is.fragment is.in_cube a b differ front back;
      }

  leaf_due : (t : Tree) → IsSheetOf pool planes t s → (h : PlaneId) (p : Point) (side : Bool) → h.k < length planes → IsAloneOn planes t h p → holds planes s.frag p ≡ true → due_at planes t h side p ≡ due side a b
  leaf_due t is h p side given alone held =
      let i = inside_from_held planes s.frag p held in
      ap₂ (λ x y. due side (told x) (told y)) (leaf_front t is h p given alone i) (leaf_back t is h p given alone i)

  none_shown : a ≡ b → (t : Tree) → IsSheetOf pool planes t s → (h : PlaneId) (p : Point) (side : Bool) → h.k < length planes → IsAloneOn planes t h p → (f : Bool) → holds planes s.frag p ≡ f → cond f (due_at planes t h side p) 0 ≡ 0
  none_shown same t is h p side given alone false e = refl
  none_shown same t is h p side given alone true e = leaf_due t is h p side given alone e ∙ ap (λ x. due side x b) same ∙ due_same side b

  one_shown : (a ≡ b → ⊥) → (t : Tree) → IsSheetOf pool planes t s → (h : PlaneId) (p : Point) (side : Bool) → h.k < length planes → IsAloneOn planes t h p → (f : Bool) → holds planes s.frag p ≡ f
      → cond f (due side (not b) b) 0 ≡ cond f (due_at planes t h side p) 0
  one_shown differ t is h p side given alone false e = refl
  one_shown differ t is h p side given alone true e = ap (λ x. due side x b) (other_flag a b differ) ∙ sym (leaf_due t is h p side given alone e)

  adds_none : (x w n : ℕ) → n ≡ 0 → x + w ≡ x + (w + n)
  adds_none x w n e = omega arith

  adds_one : (x y w m n : ℕ) → y ≡ x + m → m ≡ n → y + w ≡ x + (w + n)
  adds_one x y w m n e f = omega arith

  lower_all : (w n : ℕ) → 1 ≤ n → w < w + n
  lower_all w n h = omega arith

  -- nothing is shown where the values are the same
  pub same_turn : a ≡ b → (sheets : List Sheet) (found faces : List OutFace) → faces ≡ found → IsTurn pool planes s sheets sheets found faces
  same_turn same sheets found faces e = record {
    sheets = λ t fit is all. all;
    are_faces = λ t fit is all. subst (All (IsFace planes t)) (sym e) all;
    shown = λ t h p side fit given is alone.
        ap (λ fs. seen planes side p fs + waiting planes (due_at planes t h side p) p sheets) e
        ∙ adds_none (seen planes side p found) (waiting planes (due_at planes t h side p) p sheets) (in_frag planes (due_at planes t h side p) p s.frag)
        (none_shown same t is h p side given alone (holds planes s.frag p) refl);
    support = λ id on all. all;
    safe = λ is all. all;
    fragments = λ is all. subst (All (IsFragmentFace planes)) (sym e) all;
    on_plane = λ id on all. subst (All (IsFaceOnPlane id)) (sym e) all;
    lower = lower_all (sheets_weight pool sheets) (sheet_weight pool s) (weight_some (rank_at pool s.places.front + rank_at pool s.places.back));
  }

  -- and one face where they differ
  pub face_turn : (a ≡ b → ⊥) → (sheets : List Sheet) (found faces : List OutFace) → faces ≡ found ++ record { frag = s.frag; front_out = b } ∷ [] → IsTurn pool planes s sheets sheets found faces
  face_turn differ sheets found faces e =
      let o : OutFace = record { frag = s.frag; front_out = b } in
      record {
        sheets = λ t fit is all. all;
        are_faces = λ t fit is all. subst (All (IsFace planes t)) (sym e) (All-push (IsFace planes t) found o all (leaf_face differ t fit is));
        shown = λ t h p side fit given is alone.
            adds_one (seen planes side p found) (seen planes side p faces) (waiting planes (due_at planes t h side p) p sheets) (in_frag planes (due side (not b) b) p s.frag) (in_frag planes (due_at planes t h side p) p s.frag)
            (ap (seen planes side p) e ∙ sum_by_push (λ x. in_frag planes (due side (not x.front_out) x.front_out) p x.frag) found o) (one_shown differ t is h p side given alone (holds planes s.frag p) refl);
        support = λ id on all. all;
        safe = λ is all. all;
        fragments = λ is all. subst (All (IsFragmentFace planes)) (sym e) (All-push (IsFragmentFace planes) found o all is.fragment);
        on_plane = λ id on all. subst (All (IsFaceOnPlane id)) (sym e) (All-push (IsFaceOnPlane id) found o all on);
        lower = lower_all (sheets_weight pool sheets) (sheet_weight pool s) (weight_some (rank_at pool s.places.front + rank_at pool s.places.back));
      }

flags : (a b : Bool) → (a ≡ b) ⊎ (a ≡ b → ⊥)
flags true true = inl refl
flags false false = inl refl
flags true false = inr true≢false
flags false true = inr (λ e. true≢false (sym e))

pub leaf_turn : (pool : Slots) → AreTrees pool → (planes : List BookPlane) (s : Sheet) (a b : Bool) → node_at pool s.places.front ≡ Some (Leaf a) → node_at pool s.places.back ≡ Some (Leaf b) → (sheets : List Sheet) (found faces : List OutFace)
    → IsSettled s.frag a b found faces → IsTurn pool planes s sheets sheets found faces
leaf_turn pool ok planes s a b at_front at_back sheets found faces settled = elim (flags a b) [
  | inl same ↦ same_turn pool ok planes s a b at_front at_back same sheets found faces (settled.0 same)
  | inr differ ↦ face_turn pool ok planes s a b at_front at_back differ sheets found faces (settled.1 differ)
]

-- ---- a turn that divides
pub divided_turn : (pool : Slots) (planes : List BookPlane) (s : Sheet) (old new : List Sheet) (found : List OutFace) → IsDivided pool planes s old new → IsTurn pool planes s old new found found
divided_turn pool planes s old new found d = record {
  sheets = d.sheets;
  are_faces = λ t fit is all. all;
  shown = λ t h p side fit given is alone. ap (λ n. seen planes side p found + n) (d.wait t h p (due_at planes t h side p) fit is alone);
  support = d.support;
  on_plane = λ id on all. all;
  safe = d.safe;
  fragments = λ is all. all;
  lower = d.lower;
}

-- no tree of the book's planes meets one that the book does not have
pub dropped_turn : (pool : Slots) (planes : List BookPlane) (s : Sheet) (k : ℕ) → IsCrossing pool s.places k → (k < length planes → ⊥) → (sheets : List Sheet) (found : List OutFace) → IsTurn pool planes s sheets sheets found found
dropped_turn pool planes s k crossing out sheets found = record {
  sheets = λ t fit is all. all;
  are_faces = λ t fit is all. all;
  shown = λ t h p side fit given is alone. absurd (out (fit.of_book k (met_is_plane pool planes t s k is crossing)));
  support = λ id on all. all;
  on_plane = λ id on all. all;
  safe = λ is all. all;
  fragments = λ is all. all;
  lower = more_than (sheets_weight pool sheets) (sheet_weight pool s) (weight_some (rank_at pool s.places.front + rank_at pool s.places.back));
}
  where
    more_than : (w n : ℕ) → 1 ≤ n → w < w + n
    more_than w n h = omega arith
