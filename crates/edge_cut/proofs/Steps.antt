-- The edges of a piece as the steps of a convex cycle between its corners.
use Rattle.std.proofs.Common.{◌≡◌, inl, inr, List, [], ◌∷◌, ◌++◌, map, ℤ, pos, ◌*ℤ◌, ◌<ℤ◌, refl, sym, ap, ◌∙◌, subst, arith}
use Rattle.std.proofs.lemmas.Int.{ints}
use Rattle.std.specs.List.{AllZip}
use Rattle.integer_laws.proofs.Ring.{var, ◌⊗◌, ring, *ℤ_comm}
use Rattle.integer_laws.proofs.Signs.{mul_positive}
use Rattle.integer_laws.proofs.Cancel.{zero_right, positive_right, cancel}
use Rattle.spec_space.specs.declared.Point.{Point}
use Rattle.spec_space.specs.declared.Plane.{Plane}
use Rattle.spec_space.specs.Points.{IsPoint, value}
use Rattle.spec_space.specs.Sums.{IsSamePoint}
use Rattle.spec_page.specs.Faces.{rotated}
use Rattle.plane_core.specs.declared.numbers.Plane.{Plane as BookPlane}
use Rattle.plane_core.specs.declared.numbers.Corner.{Corner}
use Rattle.plane_core.specs.Views.{point_of}
use Rattle.convex_cycles.specs.Cycles.{Step, IsEdgeOf, AreChained, IsRound, Keeps, KeepEachOther, AreConvex, turn}
use Rattle.convex_cycles.proofs.CutCycles.{to_cycle, from_cycle}
use Rattle.convex_cycles.proofs.Lists.{Each, EachPair}
use Rattle.poly_frag.specs.Frags.{side_of, support_of}
use Rattle.poly_frag.specs.Cycles.{IsCycle}
use Rattle.poly_frag.specs.declared.frag.Frag.{Frag}
use Rattle.poly_frag.proofs.Starts.{AreStarts, starts_of, same_values}
use Rattle.edge_cut.specs.declared.sides.Side.{Side}
use Rattle.edge_cut.specs.Sides.{AreSides, step_of}
use Rattle.edge_cut.proofs.Spellings.{one_corner}

abbrev pub steps_of : List BookPlane → List Side → List Step
steps_of planes sides = map (step_of planes) sides

-- ---- two spellings of a point
pub on_spelling : (h : Plane) (p q : Point) → IsPoint q → IsSamePoint p q → value h q ≡ pos 0 → value h p ≡ pos 0
on_spelling h p q hq s e = zero_right q.w (value h p) hq (*ℤ_comm q.w (value h p) ∙ same_values h p q s ∙ ap (λ v. v *ℤ p.w) e ∙ none p.w)
  where
    none : (x : ℤ) → pos 0 *ℤ x ≡ pos 0
    none x = omega (arith, ints)

in_spelling : (h : Plane) (p q : Point) → IsPoint p → IsPoint q → IsSamePoint p q → pos 0 <ℤ value h q → pos 0 <ℤ value h p
in_spelling h p q hp hq s i = positive_right q.w (value h p) hq (subst (λ v. pos 0 <ℤ v) (sym (same_values h p q s) ∙ *ℤ_comm (value h p) q.w) (mul_positive (value h q) p.w i hp))

same_part : (px pw qx qw rx rw : ℤ) → pos 0 <ℤ qw → px *ℤ qw ≡ qx *ℤ pw → rx *ℤ qw ≡ qx *ℤ rw → px *ℤ rw ≡ rx *ℤ pw
same_part px pw qx qw rx rw h e f = cancel qw (px *ℤ rw) (rx *ℤ pw) h
    (ring (qw ∷ (px ∷ (rw ∷ []))) (var 0 ⊗ (var 1 ⊗ var 2)) (var 1 ⊗ var 0 ⊗ var 2) refl ∙ ap (λ v. v *ℤ rw) e
    ∙ ring (qx ∷ (pw ∷ (rw ∷ []))) (var 0 ⊗ var 1 ⊗ var 2) (var 0 ⊗ var 2 ⊗ var 1) refl ∙ ap (λ v. v *ℤ pw) (sym f)
    ∙ ring (rx ∷ (qw ∷ (pw ∷ []))) (var 0 ⊗ var 1 ⊗ var 2) (var 1 ⊗ (var 0 ⊗ var 2)) refl)

both_same : (p q r : Point) → IsPoint q → IsSamePoint p q → IsSamePoint r q → IsSamePoint p r
both_same p q r hq s t = record {
  same_x = same_part p.x p.w q.x q.w r.x r.w hq s.same_x t.same_x;
  same_y = same_part p.y p.w q.y q.w r.y r.w hq s.same_y t.same_y;
  same_z = same_part p.z p.w q.z q.w r.z r.w hq s.same_z t.same_z;
}

-- ---- sides that follow one another
abbrev pub FollowsSide : Side → Side → Type 0
FollowsSide s t = (s.end ≡ t.start) × (s.after ≡ t.edge) × (s.edge ≡ t.before)

abbrev pub AreChainedSides : Side → List Side → Side → Type 0
AreChainedSides s [] last = FollowsSide s last
AreChainedSides s (t ∷ ts) last = FollowsSide s t × AreChainedSides t ts last

head_same : {X : Type 0} (x y : X) (xs ys : List X) → x ∷ xs ≡ y ∷ ys → x ≡ y
head_same x y xs ys e = cc

tail_same : {X : Type 0} (x y : X) (xs ys : List X) → x ∷ xs ≡ y ∷ ys → xs ≡ ys
tail_same x y xs ys e = cc

chained : (s : Side) (ss : List Side) (z : Side) → map (λ s. s.end) (s ∷ ss) ≡ map (λ s. s.start) ss ++ z.start ∷ [] → map (λ s. s.after) (s ∷ ss) ≡ map (λ s. s.edge) ss ++ z.edge ∷ []
    → map (λ s. s.edge) (s ∷ ss) ≡ map (λ s. s.before) ss ++ z.before ∷ [] → AreChainedSides s ss z
chained s [] z e f g = (head_same s.end z.start [] [] e, head_same s.after z.edge [] [] f, head_same s.edge z.before [] [] g)
chained s (t ∷ ts) z e f g = (
  (head_same s.end t.start (map (λ s. s.end) (t ∷ ts)) (map (λ s. s.start) ts ++ z.start ∷ []) e, head_same s.after t.edge (map (λ s. s.after) (t ∷ ts)) (map (λ s. s.edge) ts ++ z.edge ∷ []) f, head_same s.edge t.before (map (λ s. s.edge) (t ∷ ts)) (map (λ s. s.before) ts ++ z.before ∷ []) g),
  chained t ts z (tail_same s.end t.start (map (λ s. s.end) (t ∷ ts)) (map (λ s. s.start) ts ++ z.start ∷ []) e) (tail_same s.after t.edge (map (λ s. s.after) (t ∷ ts)) (map (λ s. s.edge) ts ++ z.edge ∷ []) f) (tail_same s.edge t.before (map (λ s. s.edge) (t ∷ ts)) (map (λ s. s.before) ts ++ z.before ∷ []) g),
)

pub round_sides : (planes : List BookPlane) (f : Frag) (s : Side) (ss : List Side) → AreSides planes f (s ∷ ss) → AreChainedSides s ss s
round_sides planes f s ss are = chained s ss s are.ends (are.after ∙ ap rotated (sym are.edges)) (are.edges ∙ sym are.before)

chained_steps : (planes : List BookPlane) (s : Side) (ss : List Side) (z : Side) → AreChainedSides s ss z → AreChained (step_of planes s) (steps_of planes ss) (step_of planes z)
chained_steps planes s [] z c = (ap point_of c.0, ap (side_of planes) c.1, ap (side_of planes) c.2)
chained_steps planes s (t ∷ ts) z c = ((ap point_of c.0.0, ap (side_of planes) c.0.1, ap (side_of planes) c.0.2), chained_steps planes t ts z c.1)

-- ---- a side and the step with the same planes between the same places
record IsStepOf (planes : List BookPlane) (s : Side) (e : Step) : Type 0 where
  pub prev : e.prev ≡ side_of planes s.before
  pub side : e.side ≡ side_of planes s.edge
  pub next : e.next ≡ side_of planes s.after
  pub start : IsSamePoint (point_of s.start) e.start
  pub end : IsSamePoint (point_of s.end) e.end

walk : (planes : List BookPlane) (s : Side) (ss : List Side) (z : Side) (e : Step) (es : List Step) (last : Step) → AreChainedSides s ss z → AreChained e es last
    → map (side_of planes) (map (λ s. s.edge) (s ∷ ss)) ≡ map (λ e. e.side) (e ∷ es) → AreStarts (map (λ s. s.start) (s ∷ ss)) (e ∷ es) → last.side ≡ side_of planes z.edge → IsSamePoint (point_of z.start) last.start
    → e.prev ≡ side_of planes s.before → AllZip (IsStepOf planes) (s ∷ ss) (e ∷ es)
walk planes s [] z e [] last c d same starts side start prev = (
  record {
    prev = prev;
    side = sym (head_same (side_of planes s.edge) e.side [] [] same);
    next = d.1 ∙ side ∙ ap (side_of planes) (sym c.1);
    start = starts.0;
    end = subst (λ (x : Corner). IsSamePoint (point_of x) e.end) (sym c.0) (subst (IsSamePoint (point_of z.start)) (sym d.0) start);
  },
  tt,
)
walk planes s [] z e (f ∷ es) last c d same starts side start prev = absurd starts.1
walk planes s (t ∷ ts) z e [] last c d same starts side start prev = absurd starts.1
walk planes s (t ∷ ts) z e (f ∷ es) last c d same starts side start prev =
    let rest = tail_same (side_of planes s.edge) e.side (map (side_of planes) (map (λ s. s.edge) (t ∷ ts))) (map (λ e. e.side) (f ∷ es)) same in
    let own = head_same (side_of planes s.edge) e.side (map (side_of planes) (map (λ s. s.edge) (t ∷ ts))) (map (λ e. e.side) (f ∷ es)) same in
    let after = head_same (side_of planes t.edge) f.side (map (side_of planes) (map (λ s. s.edge) ts)) (map (λ e. e.side) es) rest in (
      record {
        prev = prev;
        side = sym own;
        next = d.0.1 ∙ sym after ∙ ap (side_of planes) (sym c.0.1);
        start = starts.0;
        end = subst (λ (x : Corner). IsSamePoint (point_of x) e.end) (sym c.0.0) (subst (IsSamePoint (point_of t.start)) (sym d.0.0) starts.1.0);
      },
      walk planes t ts z f es last c.1 d.1 rest starts.1 side start (sym d.0.2 ∙ sym own ∙ ap (side_of planes) c.0.2),
    )

-- the step before the first is the last
last_prev : (planes : List BookPlane) (s : Side) (ss : List Side) (z : Side) (e : Step) (es : List Step) (last : Step) → AreChainedSides s ss z → AreChained e es last
    → map (side_of planes) (map (λ s. s.edge) (s ∷ ss)) ≡ map (λ e. e.side) (e ∷ es) → last.prev ≡ side_of planes z.before
last_prev planes s [] z e [] last c d same = sym d.2 ∙ sym (head_same (side_of planes s.edge) e.side [] [] same) ∙ ap (side_of planes) c.2
last_prev planes s [] z e (f ∷ es) last c d same = absurd (longer (tail_same (side_of planes s.edge) e.side [] (map (λ e. e.side) (f ∷ es)) same))
  where
    longer : {x : Plane} {xs : List Plane} → [] ≡ x ∷ xs → ⊥
    longer e = cc
last_prev planes s (t ∷ ts) z e [] last c d same = absurd (longer (tail_same (side_of planes s.edge) e.side (map (side_of planes) (map (λ s. s.edge) (t ∷ ts))) [] same))
  where
    longer : {x : Plane} {xs : List Plane} → x ∷ xs ≡ [] → ⊥
    longer e = cc
last_prev planes s (t ∷ ts) z e (f ∷ es) last c d same = last_prev planes t ts z f es last c.1 d.1 (tail_same (side_of planes s.edge) e.side (map (side_of planes) (map (λ s. s.edge) (t ∷ ts))) (map (λ e. e.side) (f ∷ es)) same)

sides_steps : (planes : List BookPlane) (f : Frag) (sides : List Side) (es : List Step) → AreSides planes f sides → IsRound es → map (side_of planes) (map (λ s. s.edge) sides) ≡ map (λ e. e.side) es → AreStarts (map (λ s. s.start) sides) es → AllZip (IsStepOf planes) sides es
sides_steps planes f [] [] are round same starts = tt
sides_steps planes f [] (e ∷ es) are round same starts = absurd starts
sides_steps planes f (s ∷ ss) [] are round same starts = absurd starts
sides_steps planes f (s ∷ ss) (e ∷ es) are round same starts =
    let c = round_sides planes f s ss are in
    walk planes s ss s e es e c round same starts (sym (head_same (side_of planes s.edge) e.side (map (side_of planes) (map (λ s. s.edge) ss)) (map (λ e. e.side) es) same)) starts.0 (last_prev planes s ss s e es e c round same)

-- ---- the steps between reduced corners
respelled : (planes : List BookPlane) (h : Plane) (s : Side) (e : Step) → IsEdgeOf h e → IsStepOf planes s e → IsEdgeOf h (step_of planes s)
respelled planes h s e is r = record {
  start_point = s.start.positive;
  end_point = s.end.positive;
  start_on = on_spelling h (point_of s.start) e.start is.start_point r.start is.start_on;
  end_on = on_spelling h (point_of s.end) e.end is.end_point r.end is.end_on;
  start_prev = on_spelling (side_of planes s.before) (point_of s.start) e.start is.start_point r.start (subst (λ k. value k e.start ≡ pos 0) r.prev is.start_prev);
  start_side = on_spelling (side_of planes s.edge) (point_of s.start) e.start is.start_point r.start (subst (λ k. value k e.start ≡ pos 0) r.side is.start_side);
  end_side = on_spelling (side_of planes s.edge) (point_of s.end) e.end is.end_point r.end (subst (λ k. value k e.end ≡ pos 0) r.side is.end_side);
  end_next = on_spelling (side_of planes s.after) (point_of s.end) e.end is.end_point r.end (subst (λ k. value k e.end ≡ pos 0) r.next is.end_next);
  inside_prev = in_spelling (side_of planes s.before) (point_of s.end) e.end s.end.positive is.end_point r.end (subst (λ k. pos 0 <ℤ value k e.end) r.prev is.inside_prev);
  inside_next = in_spelling (side_of planes s.after) (point_of s.start) e.start s.start.positive is.start_point r.start (subst (λ k. pos 0 <ℤ value k e.start) r.next is.inside_next);
  left = subst (λ k. pos 0 <ℤ turn h (side_of planes s.before) k) r.side (subst (λ k. pos 0 <ℤ turn h k e.side) r.prev is.left);
  left_next = subst (λ k. pos 0 <ℤ turn h (side_of planes s.edge) k) r.next (subst (λ k. pos 0 <ℤ turn h k e.next) r.side is.left_next);
}

edges_respelled : (planes : List BookPlane) (h : Plane) (sides : List Side) (es : List Step) → AllZip (IsStepOf planes) sides es → Each (IsEdgeOf h) es → Each (IsEdgeOf h) (steps_of planes sides)
edges_respelled planes h [] [] r is = tt
edges_respelled planes h [] (e ∷ es) r is = absurd r
edges_respelled planes h (s ∷ ss) [] r is = absurd r
edges_respelled planes h (s ∷ ss) (e ∷ es) r is = (respelled planes h s e is.0 r.0, edges_respelled planes h ss es r.1 is.1)

one_point : (c d : Corner) (p q : Point) → IsPoint p → IsSamePoint (point_of c) p → IsSamePoint (point_of d) q → p ≡ q → point_of c ≡ point_of d
one_point c d p q ip s t same = ap point_of (one_corner c d (both_same (point_of c) p (point_of d) ip s (subst (IsSamePoint (point_of d)) (sym same) t)))

keeps : (planes : List BookPlane) (h : Plane) (s t : Side) (e f : Step) → IsEdgeOf h e → IsEdgeOf h f → IsStepOf planes s e → IsStepOf planes t f → Keeps e f → Keeps (step_of planes s) (step_of planes t)
keeps planes h s t e f ie if_ r q k = (
  elim k.0 [
    | inl up ↦ inl (in_spelling (side_of planes s.edge) (point_of t.start) f.start t.start.positive if_.start_point q.start (subst (λ k. pos 0 <ℤ value k f.start) r.side up))
    | inr same ↦ inr (one_point s.end t.start e.end f.start ie.end_point r.end q.start same)
  ],
  elim k.1 [
    | inl up ↦ inl (in_spelling (side_of planes s.edge) (point_of t.end) f.end t.end.positive if_.end_point q.end (subst (λ k. pos 0 <ℤ value k f.end) r.side up))
    | inr same ↦ inr (one_point s.start t.end e.start f.end ie.start_point r.start q.end same)
  ],
)

each_respelled : (planes : List BookPlane) (h : Plane) (s : Side) (e : Step) (sides : List Side) (es : List Step) → IsEdgeOf h e → IsStepOf planes s e → AllZip (IsStepOf planes) sides es → Each (IsEdgeOf h) es → Each (KeepEachOther e) es → Each (KeepEachOther (step_of planes s)) (steps_of planes sides)
each_respelled planes h s e [] [] ie r q is k = tt
each_respelled planes h s e [] (f ∷ es) ie r q is k = absurd q
each_respelled planes h s e (t ∷ ts) [] ie r q is k = absurd q
each_respelled planes h s e (t ∷ ts) (f ∷ es) ie r q is k = ((keeps planes h s t e f ie is.0 r q.0 k.0.0, keeps planes h t s f e is.0 ie q.0 r k.0.1), each_respelled planes h s e ts es ie r q.1 is.1 k.1)

pairs_respelled : (planes : List BookPlane) (h : Plane) (sides : List Side) (es : List Step) → AllZip (IsStepOf planes) sides es → Each (IsEdgeOf h) es → EachPair KeepEachOther es → EachPair KeepEachOther (steps_of planes sides)
pairs_respelled planes h [] [] r is k = tt
pairs_respelled planes h [] (e ∷ es) r is k = absurd r
pairs_respelled planes h (s ∷ ss) [] r is k = absurd r
pairs_respelled planes h (s ∷ ss) (e ∷ es) r is k = (each_respelled planes h s e ss es is.0 r.0 r.1 is.1 k.0, pairs_respelled planes h ss es r.1 is.1 k.1)

round_respelled : (planes : List BookPlane) (f : Frag) (sides : List Side) (es : List Step) → AreSides planes f sides → AllZip (IsStepOf planes) sides es → IsRound es → IsRound (steps_of planes sides)
round_respelled planes f [] [] are r round = round
round_respelled planes f [] (e ∷ es) are r round = absurd r
round_respelled planes f (s ∷ ss) es are r round = chained_steps planes s ss s (round_sides planes f s ss are)

-- the steps between the corners of a piece are a convex cycle
pub steps-AreConvex : (planes : List BookPlane) (f : Frag) (sides : List Side) → IsCycle planes f → AreSides planes f sides → AreConvex (support_of planes f) (steps_of planes sides)
steps-AreConvex planes f sides cycle are =
    let h = support_of planes f in
    let facts = to_cycle h cycle.steps cycle.convex in
    let zip = sides_steps planes f sides cycle.steps are facts.round (ap (map (side_of planes)) are.edges ∙ cycle.sides) (starts_of planes f cycle (map (λ s. s.start) sides) are.starts) in
    from_cycle h (steps_of planes sides) (record {
      round = round_respelled planes f sides cycle.steps are zip facts.round;
      edges = edges_respelled planes h sides cycle.steps zip facts.edges;
      pairs = pairs_respelled planes h sides cycle.steps zip facts.edges facts.pairs;
    })
