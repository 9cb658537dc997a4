-- The law of edges at a point of a line: of the edges of pieces that pass the point, seen from outside, as many run along the
-- line as against it.
use Rattle.std.proofs.Common.{◌≡◌, ◌≢◌, inl, inr, ◌↔◌, ◌≤◌, ◌&&◌, Bool, true, false, not, List, [], ◌∷◌, Option, Some, None, ℕ, ℤ, pos, ◌<ℤ◌, int_lt, int_eq, refl, sym, ap, ◌∙◌, subst, arith, true≢false, if◌then◌else◌}
use Rattle.std.specs.List.{count_by}
use Rattle.std.proofs.lemmas.Int.{ints}
use Rattle.std.proofs.lemmas.Bool.Decides.{Decides-int_eq}
use Rattle.spec_space.specs.declared.Point.{Point}
use Rattle.spec_space.specs.declared.Plane.{Plane}
use Rattle.spec_space.specs.declared.Vector.{Vector}
use Rattle.spec_space.specs.Points.{IsPoint, dot, normal, value}
use Rattle.spec_space.specs.Sums.{IsSamePoint}
use Rattle.plane_core.specs.Views.{plane_of}
use Rattle.plane_core.specs.declared.numbers.Plane.{Plane as BookPlane}
use Rattle.convex_cycles.specs.Cycles.{Step, AreConvex}
use Rattle.convex_cycles.proofs.Lists.{Each, Member, each_member, pair_member}
use Rattle.convex_cycles.proofs.Links.{sides}
use Rattle.line_turns.proofs.Bundles.{direction}
use Rattle.line_turns.proofs.Lines.{Holds, book_leads}
use Rattle.line_turns.proofs.Orders.{leads_square}
use Rattle.line_turns.proofs.Near.{far, inside_near}
use Rattle.line_turns.proofs.Neighbours.{IsStrictly, strictly_off, side_of}
use Rattle.line_turns.proofs.Pieces.{IsAt, outside, within, on_edge, IsInsideEdge, edge_is, others_inside, where_at, Lies, lies_within, lies_outside, lies_at_edge, not_at_other}
use Rattle.line_turns.proofs.Places as L
use Rattle.line_turns.proofs.Places.{Parts, IsToldBy, normal_of, place, place_on, place_off_through, place_strictly}
use Rattle.line_turns.proofs.Runs.{way_of, edge_runs}
use Rattle.line_turns.proofs.Tallies.{ShowTurns, HasEdge, goes, same}
use Rattle.line_turns.proofs.Tallies as Y

-- ---- the edge of a piece that passes a point
-- the point lies strictly between the ends of the edge
abbrev pub passes : Plane → Point → Step → Bool
passes s m e = int_eq (value s m) (pos 0) && (int_eq (value e.side m) (pos 0) && (int_lt (pos 0) (value e.prev m) && int_lt (pos 0) (value e.next m)))

-- the edge runs along t
abbrev pub runs : Vector → Step → Bool
runs t e = int_lt (pos 0) (dot (way_of e) t)

-- the direction of the first edge that passes the point
abbrev pub edge_at : Plane → Point → Vector → List Step → Option Bool
edge_at s m t [] = None
edge_at s m t (e ∷ es) = if passes s m e then Some (runs t e) else edge_at s m t es

both : (b c : Bool) → (b && c) ≡ true → (b ≡ true) × (c ≡ true)
both true c e = (refl, e)
both false c e = absurd (true≢false (sym e))

joined : (b c : Bool) → b ≡ true → c ≡ true → (b && c) ≡ true
joined b c p q = ap (λ x. x && c) p ∙ q

above : (x : ℤ) → int_lt (pos 0) x ≡ true → pos 0 <ℤ x
above x e = omega (arith, ints)

test_above : (x : ℤ) (b : Bool) → int_lt (pos 0) x ≡ b → pos 0 <ℤ x → b ≡ true
test_above x true e h = refl
test_above x false e h = absurd (omega (arith, ints))

pub passes_inside : (s : Plane) (m : Point) (e : Step) → passes s m e ≡ true → IsInsideEdge s e m
passes_inside s m e h =
    let p = both (int_eq (value s m) (pos 0)) (int_eq (value e.side m) (pos 0) && (int_lt (pos 0) (value e.prev m) && int_lt (pos 0) (value e.next m))) h in
    let q = both (int_eq (value e.side m) (pos 0)) (int_lt (pos 0) (value e.prev m) && int_lt (pos 0) (value e.next m)) p.1 in
    let r = both (int_lt (pos 0) (value e.prev m)) (int_lt (pos 0) (value e.next m)) q.1 in
    record {
      on = (Decides-int_eq (value s m) (pos 0)).0 p.0;
      on_side = (Decides-int_eq (value e.side m) (pos 0)).0 q.0;
      after_start = above (value e.prev m) r.0;
      before_end = above (value e.next m) r.1;
    }

pub inside_passes : (s : Plane) (m : Point) (e : Step) → IsInsideEdge s e m → passes s m e ≡ true
inside_passes s m e h =
    joined (int_eq (value s m) (pos 0)) (int_eq (value e.side m) (pos 0) && (int_lt (pos 0) (value e.prev m) && int_lt (pos 0) (value e.next m))) ((Decides-int_eq (value s m) (pos 0)).1 h.on)
    (joined (int_eq (value e.side m) (pos 0)) (int_lt (pos 0) (value e.prev m) && int_lt (pos 0) (value e.next m)) ((Decides-int_eq (value e.side m) (pos 0)).1 h.on_side)
    (joined (int_lt (pos 0) (value e.prev m)) (int_lt (pos 0) (value e.next m)) (test_above (value e.prev m) (int_lt (pos 0) (value e.prev m)) refl h.after_start) (test_above (value e.next m) (int_lt (pos 0) (value e.next m)) refl h.before_end)))

pub runs_strictly : (b : Bool) (t : Vector) (e : Step) → IsStrictly b (dot (way_of e) t) → runs t e ≡ b
runs_strictly b t e h = told b (dot (way_of e) t) (int_lt (pos 0) (dot (way_of e) t)) refl h
  where
    told : (b : Bool) (x : ℤ) (c : Bool) → int_lt (pos 0) x ≡ c → IsStrictly b x → c ≡ b
    told true x true e h = refl
    told true x false e h = absurd (omega (arith, ints))
    told false x true e h = absurd (omega (arith, ints))
    told false x false e h = refl

not_true : (b : Bool) → (b ≡ true → ⊥) → b ≡ false
not_true true h = absurd (h refl)
not_true false h = refl

pub none_at : (s : Plane) (m : Point) (t : Vector) (es : List Step) → ((e : Step) → Member e es → IsInsideEdge s e m → ⊥) → edge_at s m t es ≡ None
none_at s m t [] h = refl
none_at s m t (e ∷ es) h = rw (not_true (passes s m e) (λ p. h e (inl refl) (passes_inside s m e p))) (none_at s m t es (λ f mf. h f (inr mf)))

-- where all edges that pass the point run one way, and one does
pub some_at : (s : Plane) (m : Point) (t : Vector) (b : Bool) (es : List Step) (e : Step) → Member e es → IsInsideEdge s e m → ((f : Step) → Member f es → IsInsideEdge s f m → runs t f ≡ b) → edge_at s m t es ≡ Some b
some_at s m t b [] e me inside all = absurd me
some_at s m t b (g ∷ gs) e me inside all = first (λ n. some_at s m t b gs e n inside (λ f mf. all f (inr mf))) (passes s m g) refl me
  where
    first : (Member e gs → edge_at s m t gs ≡ Some b) → (c : Bool) → passes s m g ≡ c → Member e (g ∷ gs) → (if c then Some (runs t g) else edge_at s m t gs) ≡ Some b
    first rest true p n = ap Some (all g (inl refl) (passes_inside s m g p))
    first rest false p (inl eq) = absurd (true≢false (sym (subst (λ x. passes s m x ≡ true) eq (inside_passes s m e inside)) ∙ p))
    first rest false p (inr n) = rest n

-- ---- pieces near a line
under : (x : ℤ) → x <ℤ pos 0 → pos 0 <ℤ x → ⊥
under x h k = omega (arith, ints)

level_down : (x : ℤ) → x ≡ pos 0 → x <ℤ pos 0 → ⊥
level_down x e h = omega (arith, ints)

level_up : (x : ℤ) → x ≡ pos 0 → pos 0 <ℤ x → ⊥
level_up x e h = omega (arith, ints)

module _ (m : Point) (t : Vector) (k : ℕ) (hs : List BookPlane) (p : Parts m t hs) (is : IsPoint m) (some : pos 0 <ℤ dot t t) (one : 1 ≤ k) (large : Each (L.IsFar m t k p.others) p.through) where
  module _ {Q : Type 0} (support : Q → BookPlane) (steps : Q → List Step) (lies : Q → BookPlane → Bool → Bool) (out : Q → Bool) where
    -- a convex piece of a plane of the tree, of which m is no corner, and of which each side that holds m holds the line; k is
    -- large enough for its sides, and `lies` says whether the place of a half-plane is strictly inside it
    pub record IsPieceNear (q : Q) : Type 0 where
      pub of_tree : Member (support q) hs
      pub convex : AreConvex (plane_of (support q)) (steps q)
      pub no_corner : (f : Step) → Member f (steps q) → IsSamePoint m f.start → ⊥
      pub along : (f : Step) → Member f (steps q) → value f.side m ≡ pos 0 → dot (normal f.side) t ≡ pos 0
      pub far_enough : (s : Bool) → far (direction s (normal_of (support q)) t) (sides (steps q)) ≤ k
      pub inside : (x : BookPlane) (s : Bool) → Member x p.through → (lies q x s ≡ true) ↔ ((value (plane_of (support q)) (place m t k x s) ≡ pos 0) × Each (λ h. pos 0 <ℤ value h (place m t k x s)) (sides (steps q)))

    -- the direction in which the piece's edge that passes m runs, as seen from the front of its plane
    abbrev pub edge : Q → Option Bool
    edge q = edge_at (plane_of (support q)) m t (steps q)

    holds_line : (x : BookPlane) → Member x p.through → Holds m t (plane_of x)
    holds_line x mx = each_member (λ h. Holds m t (plane_of h)) x p.through mx p.holds

    off_line : (x : BookPlane) → Member x p.others → value (plane_of x) m ≢ pos 0
    off_line x mx = each_member (λ h. value (plane_of h) m ≢ pos 0) x p.others mx p.off

    -- a piece lies at no half-plane of another plane
    lies_off : (q : Q) → IsPieceNear q → (x : BookPlane) (s : Bool) → Member x p.through → x ≢ support q → lies q x s ≡ false
    lies_off q near x s mx other = not_true (lies q x s) (λ h. elim (p.either (support q) near.of_tree) [
      | inl through ↦ place_off_through m t k x (support q) s is some (holds_line x mx) (holds_line (support q) through) other ((near.inside x s mx).0 h).0
      | inr others ↦
          let side = side_of (value (plane_of (support q)) m) (off_line (support q) others) in
          strictly_off side.0 (value (plane_of (support q)) (place m t k x s)) (place_strictly m t k p.others x (support q) s side.0 (each_member (L.IsFar m t k p.others) x p.through mx large) others side.1) ((near.inside x s mx).0 h).0
    ])

    -- at a half-plane of its own plane it lies where the direction leads into each of its sides
    lies_own : (q : Q) (near : IsPieceNear q) (s : Bool) → Member (support q) p.through → Lies (plane_of (support q)) (steps q) near.convex m t s → lies q (support q) s ≡ true
    lies_own q near s my enters = (near.inside (support q) s my).1 (place_on m t k (support q) s (holds_line (support q) my), (inside_near (sides (steps q)) k m (direction s (normal_of (support q)) t) (near.far_enough s)).1 enters)

    not_own : (q : Q) (near : IsPieceNear q) (s : Bool) → Member (support q) p.through → (Lies (plane_of (support q)) (steps q) near.convex m t s → ⊥) → lies q (support q) s ≡ false
    not_own q near s my none = not_true (lies q (support q) s) (λ h. none ((inside_near (sides (steps q)) k m (direction s (normal_of (support q)) t) (near.far_enough s)).0 ((near.inside (support q) s my).0 h).1))

    module _ (told : BookPlane → Bool → Bool → Bool) (qs : List Q) where
      abbrev Has : Q → Option Bool → Type 0
      Has q o = HasEdge lies out told p.through qs q o

      -- a piece that lies at both half-planes of its plane or at neither
      both_or_none : (q : Q) → IsPieceNear q → (Member (support q) p.through → lies q (support q) true ≡ lies q (support q) false) → Has q None
      both_or_none q near own x mx = elim (p.either (support q) near.of_tree) [
        | inl through ↦ elim (pair_member (λ h l. h ≢ l) (λ h l other e. other (sym e)) x (support q) p.through p.different mx through) [
          | inl eq ↦ subst (λ z. lies q z true ≡ lies q z false) (sym eq) (own through)
          | inr other ↦ lies_off q near x true mx other ∙ sym (lies_off q near x false mx other)
        ]
        | inr others ↦
            let apart : x ≢ support q = λ e. off_line (support q) others (subst (λ z. value (plane_of z) m ≡ pos 0) e (holds_line x mx).0) in
            lies_off q near x true mx apart ∙ sym (lies_off q near x false mx apart)
      ]

      at_edge : (q : Q) (near : IsPieceNear q) (b : Bool) → Member (support q) p.through → lies q (support q) b ≡ true → lies q (support q) (not b) ≡ false → Has q (Some b)
      at_edge q near true my here there = (support q, my, here, there, λ x mx other. (lies_off q near x true mx other, lies_off q near x false mx other))
      at_edge q near false my here there = (support q, my, there, here, λ x mx other. (lies_off q near x true mx other, lies_off q near x false mx other))

      at_place : (q : Q) (near : IsPieceNear q) → Member (support q) p.through → IsAt (plane_of (support q)) (steps q) m → Has q (edge q)
      at_place q near my (outside f mf low) =
          subst (Has q) (sym (none_at (plane_of (support q)) m t (steps q) (λ e me inside. elim (others_inside (plane_of (support q)) (steps q) near.convex e f m me mf inside) [
            | inl eq ↦ level_down (value f.side m) (subst (λ x. value x.side m ≡ pos 0) (sym eq) inside.on_side) low
            | inr up ↦ under (value f.side m) low up
          ]))) (both_or_none q near (λ y. not_own q near true y (lies_outside (plane_of (support q)) (steps q) near.convex m t f mf low true) ∙ sym (not_own q near false y (lies_outside (plane_of (support q)) (steps q) near.convex m t f mf low false))))
      at_place q near my (within all) =
          subst (Has q) (sym (none_at (plane_of (support q)) m t (steps q) (λ e me inside. level_up (value e.side m) inside.on_side (all e me))))
          (both_or_none q near (λ y. lies_own q near true y (lies_within (plane_of (support q)) (steps q) near.convex m t all true) ∙ sym (lies_own q near false y (lies_within (plane_of (support q)) (steps q) near.convex m t all false))))
      at_place q near my (on_edge e me inside) =
          let r = edge_runs (plane_of (support q)) e t (edge_is (plane_of (support q)) (steps q) near.convex e me) (leads_square (normal_of (support q)) (book_leads (support q))) some (holds_line (support q) my).1 (near.along e me inside.on_side) in
          subst (Has q) (sym (some_at (plane_of (support q)) m t r.0 (steps q) e me inside (λ f mf other. elim (others_inside (plane_of (support q)) (steps q) near.convex e f m me mf inside) [
            | inl eq ↦ subst (λ x. runs t x ≡ r.0) (sym eq) (runs_strictly r.0 t e r.1)
            | inr up ↦ absurd (level_up (value f.side m) other.on_side up)
          ]))) (at_edge q near r.0 my
          (lies_own q near r.0 my (lies_at_edge (plane_of (support q)) (steps q) near.convex m t e r.0 me inside r.1))
          (not_own q near (not r.0) my (not_at_other (plane_of (support q)) (steps q) near.convex m t e r.0 me inside r.1)))

      pub has_edge : (q : Q) → IsPieceNear q → Has q (edge q)
      has_edge q near = elim (p.either (support q) near.of_tree) [
        | inl through ↦ at_place q near through (where_at (plane_of (support q)) (steps q) near.convex m (holds_line (support q) through).0 near.no_corner)
        | inr others ↦ subst (Has q) (sym (none_at (plane_of (support q)) m t (steps q) (λ e me inside. off_line (support q) others inside.on)))
            (both_or_none q near (λ y. absurd (off_line (support q) others (holds_line (support q) y).0)))
      ]

    -- THE LAW OF EDGES at a point of a line: of the pieces, as many have an edge that passes the point along the line, seen from
    -- outside, as one against it
    pub line_balance : (told : Point → Bool) → IsToldBy hs told → (qs : List Q) → ((q : Q) → Member q qs → IsPieceNear q)
        → ShowTurns lies out (λ x s a. told (L.beside m t k x s a)) p.through qs
        → count_by (λ q. goes (edge q) (out q)) qs ≡ count_by (λ q. goes (edge q) (not (out q))) qs
    line_balance told by_sides qs near show =
        Y.edges_balance lies out (λ x s a. told (L.beside m t k x s a)) p.through qs show (L.rises_as_falls m t k hs p is some one large told by_sides) p.different edge
        (λ q mq. has_edge (λ x s a. told (L.beside m t k x s a)) qs q (near q mq))
