-- The outline of a piece is of the book: the planes of its edges are there, and each edge starts where its planes meet.
use Rattle.std.proofs.Common.{◌≡◌, ◌<◌, List, [], ◌∷◌, ◌++◌, Option, Some, map, length, slice_get, get_or, sym, ap, ◌∙◌, subst, arith}
use Rattle.std.proofs.lemmas.Option.{slice_get-get_or}
use Rattle.spec_space.specs.declared.Point.{Point}
use Rattle.spec_space.specs.declared.Plane.{Plane}
use Rattle.spec_page.specs.Faces.{rotated}
use Rattle.plane_core.specs.declared.numbers.Plane.{Plane as BookPlane}
use Rattle.plane_core.specs.declared.numbers.Corner.{Corner}
use Rattle.plane_core.specs.declared.book.PlaneId.{PlaneId}
use Rattle.plane_core.specs.Planes.{IsOnlyPointOf}
use Rattle.plane_core.specs.Views.{plane_of, point_of}
use Rattle.plane_core.proofs.Laws.{common_point_unique}
use Rattle.convex_cycles.specs.Cycles.{IsEdgeOf}
use Rattle.convex_cycles.proofs.Lists.{Each, each_from_all, all_from_each, each_from_map, each_both, each_weaker}
use Rattle.poly_frag.specs.Frags.{numbered, plane_at, support_of}
use Rattle.poly_frag.specs.Cycles.{IsCycle, IsMeetOf, AreMeets, AreMeetsRound, last_edge}
use Rattle.poly_frag.specs.declared.frag.Edge.{Edge}
use Rattle.poly_frag.specs.declared.frag.Frag.{Frag}
use Rattle.corner_book.specs.Corners.{MeetIn}
use Rattle.face_walk.specs.declared.faces.OutFace.{OutFace}
use Rattle.edge_cut.proofs.Reversed.{each_rotated, each_from_rotated}
use Rattle.edge_cut.specs.declared.sides.Side.{Side}
use Rattle.edge_cut.specs.declared.sides.Outline.{Outline}
use Rattle.edge_cut.specs.Sides.{AreSides, step_of}
use Rattle.edge_cut.specs.Outlines.{IsOutlineOf, IsSideOfBook, IsOfBook}
use Rattle.edge_cut.proofs.Steps.{steps_of, steps-AreConvex}

-- ---- the edge before each edge
-- each side has the edge of the one before it before its own; the first has b
abbrev pub FollowFrom : Edge → List Side → Type 0
FollowFrom b [] = Unit {0}
FollowFrom b (s ∷ ss) = (s.before ≡ b) × FollowFrom s.edge ss

head_same : {X : Type 0} (x y : X) (xs ys : List X) → x ∷ xs ≡ y ∷ ys → x ≡ y
head_same x y xs ys e = cc

tail_same : {X : Type 0} (x y : X) (xs ys : List X) → x ∷ xs ≡ y ∷ ys → xs ≡ ys
tail_same x y xs ys e = cc

shift : (sides : List Side) (e z : Edge) → map (λ s. s.before) sides ++ z ∷ [] ≡ e ∷ map (λ s. s.edge) sides → FollowFrom e sides × (z ≡ last_edge e (map (λ s. s.edge) sides))
shift [] e z h = (tt, head_same z e [] [] h)
shift (s ∷ ss) e z h =
    let rest = shift ss s.edge z (tail_same s.before e (map (λ s. s.before) ss ++ z ∷ []) (s.edge ∷ map (λ s. s.edge) ss) h) in
    ((head_same s.before e (map (λ s. s.before) ss ++ z ∷ []) (s.edge ∷ map (λ s. s.edge) ss) h, rest.0), rest.1)

-- the edge before the first is the last
abbrev pub last_of_sides : List Side → Edge → Edge
last_of_sides [] d = d
last_of_sides (s ∷ ss) d = last_edge s.edge (map (λ s. s.edge) ss)

pub follow_round : (sides : List Side) (d : Edge) → rotated (map (λ s. s.before) sides) ≡ map (λ s. s.edge) sides → FollowFrom (last_of_sides sides d) sides
follow_round [] d h = tt
follow_round (s ∷ ss) d h = let r = shift ss s.edge s.before h in (r.1, r.0)

-- ---- planes of the book
abbrev IsGiven : List BookPlane → Edge → Type 0
IsGiven planes e = e.plane.k < length planes

module _ (planes : List BookPlane) (f : Frag) (sides : List Side) (cycle : IsCycle planes f) (are : AreSides planes f sides) where
  given : Each (IsGiven planes) f.edges.items
  given = each_from_all (IsGiven planes) f.edges.items cycle.edges_given

  edges_of_book : Each (λ s. IsGiven planes s.edge) sides
  edges_of_book = each_from_map (IsGiven planes) (λ s. s.edge) sides (subst (Each (IsGiven planes)) (sym are.edges) given)

  befores_of_book : Each (λ s. IsGiven planes s.before) sides
  befores_of_book = each_from_map (IsGiven planes) (λ s. s.before) sides (each_from_rotated (IsGiven planes) (map (λ s. s.before) sides) (subst (Each (IsGiven planes)) (sym are.before) given))

  afters_of_book : Each (λ s. IsGiven planes s.after) sides
  afters_of_book = each_from_map (IsGiven planes) (λ s. s.after) sides (subst (Each (IsGiven planes)) (sym are.after) (each_rotated (IsGiven planes) f.edges.items given))

  pub sides_of_book : Each (IsSideOfBook planes) sides
  sides_of_book = each_weaker (λ s. IsGiven planes s.before × (IsGiven planes s.edge × IsGiven planes s.after)) (IsSideOfBook planes) (λ s h. record { before = h.0; edge = h.1.0; after = h.1.1 }) sides
      (each_both (λ s. IsGiven planes s.before) (λ s. IsGiven planes s.edge × IsGiven planes s.after) sides befores_of_book (each_both (λ s. IsGiven planes s.edge) (λ s. IsGiven planes s.after) sides edges_of_book afters_of_book))

-- ---- where planes meet
-- the plane of a number that is given
pub plane_here : (planes : List BookPlane) (id : PlaneId) → id.k < length planes → (p : BookPlane) × (slice_get planes id.k ≡ Some p)
plane_here [] id h = absurd (omega (arith, h))
plane_here (q ∷ qs) id h = (get_or (q ∷ qs) id.k q, slice_get-get_or (q ∷ qs) id.k q h)

meet_in : (planes : List BookPlane) (i j k : PlaneId) (c : Corner) → i.k < length planes → j.k < length planes → k.k < length planes → IsMeetOf (plane_at planes i) (plane_at planes j) (plane_at planes k) (point_of c) → MeetIn planes (i ∷ (j ∷ (k ∷ []))) c
meet_in planes i j k c hi hj hk meet =
    let p = plane_here planes i hi in
    let q = plane_here planes j hj in
    let r = plane_here planes k hk in
    let here = meet_of p.0 q.0 r.0 (point_of c) (subst (λ h. IsMeetOf (plane_of p.0) (plane_of q.0) h (point_of c)) (ap numbered r.1) (subst (λ h. IsMeetOf (plane_of p.0) h (plane_at planes k) (point_of c)) (ap numbered q.1) (subst (λ h. IsMeetOf h (plane_at planes j) (plane_at planes k) (point_of c)) (ap numbered p.1) meet))) in
    record { first = p.0; second = q.0; third = r.0; at = three p.1 q.1 r.1; common = here }
  where
    three : {x y z : Option BookPlane} {p q r : BookPlane} → x ≡ Some p → y ≡ Some q → z ≡ Some r → x ∷ (y ∷ (z ∷ [])) ≡ Some p ∷ (Some q ∷ (Some r ∷ []))
    three e f g = λ i. e i ∷ (f i ∷ (g i ∷ []))

    meet_of : (p q r : BookPlane) (x : Point) → IsMeetOf (plane_of p) (plane_of q) (plane_of r) x → IsOnlyPointOf p q r x
    meet_of p q r x m = record {
      on_first = m.on_first;
      on_second = m.on_second;
      on_third = m.on_third;
      only = λ y iy a b c. common_point_unique (plane_of p) (plane_of q) (plane_of r) y x m.independent a b c m.on_first m.on_second m.on_third;
    }

abbrev pub IsMetAt : List BookPlane → Plane → Side → Type 0
IsMetAt planes support s = IsMeetOf support (plane_at planes s.before.plane) (plane_at planes s.edge.plane) (point_of s.start)

met_from : (planes : List BookPlane) (support : Plane) (b : Edge) (sides : List Side) → FollowFrom b sides → AreMeets planes support b (map (λ s. s.edge) sides) (map point_of (map (λ s. s.start) sides)) → Each (IsMetAt planes support) sides
met_from planes support b [] f m = tt
met_from planes support b (s ∷ ss) f m = (subst (λ e. IsMeetOf support (plane_at planes e.plane) (plane_at planes s.edge.plane) (point_of s.start)) (sym f.0) m.0, met_from planes support s.edge ss f.1 m.1)

met_round : (planes : List BookPlane) (support : Plane) (sides : List Side) → rotated (map (λ s. s.before) sides) ≡ map (λ s. s.edge) sides
    → AreMeetsRound planes support (map (λ s. s.edge) sides) (map point_of (map (λ s. s.start) sides)) → Each (IsMetAt planes support) sides
met_round planes support [] h m = tt
met_round planes support (s ∷ ss) h m = met_from planes support (last_edge s.edge (map (λ s. s.edge) ss)) (s ∷ ss) (follow_round (s ∷ ss) s.edge h) m

pub met_sides : (planes : List BookPlane) (f : Frag) (sides : List Side) → AreSides planes f sides → Each (IsMetAt planes (support_of planes f)) sides
met_sides planes f sides are = met_round planes (support_of planes f) sides (are.before ∙ sym are.edges) (subst (λ es. AreMeetsRound planes (support_of planes f) es (map point_of (map (λ s. s.start) sides))) (sym are.edges) are.starts)

-- ---- the outline
pub outline-IsOfBook : (planes : List BookPlane) (o : OutFace) (w : Outline) → IsCycle planes o.frag → IsOutlineOf planes o w → IsOfBook planes w
outline-IsOfBook planes o w cycle is = record {
  support = subst (λ id. id.k < length planes) (sym is.support) cycle.support_given;
  sides = all_from_each (IsSideOfBook planes) w.sides.items given;
  edges = all_from_each (λ s. IsEdgeOf (plane_at planes w.support) (step_of planes s)) w.sides.items
      (subst (λ id. Each (λ s. IsEdgeOf (plane_at planes id) (step_of planes s)) w.sides.items) (sym is.support)
      (each_from_map (IsEdgeOf (support_of planes o.frag)) (step_of planes) w.sides.items
      (each_from_all (IsEdgeOf (support_of planes o.frag)) (steps_of planes w.sides.items) (steps-AreConvex planes o.frag w.sides.items cycle is.sides).edges)));
  meet = all_from_each (λ s. MeetIn planes (w.support ∷ (s.before.plane ∷ (s.edge.plane ∷ []))) s.start) w.sides.items
      (each_weaker (λ s. IsSideOfBook planes s × IsMetAt planes (support_of planes o.frag) s) (λ s. MeetIn planes (w.support ∷ (s.before.plane ∷ (s.edge.plane ∷ []))) s.start)
      (λ s h. subst (λ id. MeetIn planes (id ∷ (s.before.plane ∷ (s.edge.plane ∷ []))) s.start) (sym is.support) (meet_in planes o.frag.support s.before.plane s.edge.plane s.start cycle.support_given h.0.before h.0.edge h.1))
      w.sides.items (each_both (IsSideOfBook planes) (IsMetAt planes (support_of planes o.frag)) w.sides.items given (met_sides planes o.frag w.sides.items is.sides)));
}
  where
    given : Each (IsSideOfBook planes) w.sides.items
    given = sides_of_book planes o.frag w.sides.items cycle is.sides
