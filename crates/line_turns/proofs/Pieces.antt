-- Where a convex piece of a plane lies near a point m of a line: which of its sides hold the line there, and at which of the
-- two half-planes of its plane it lies.
use Rattle.std.proofs.Common.{◌≡◌, ◌≢◌, ◌⊎◌, inl, inr, Bool, true, false, not, List, [], ◌∷◌, ℤ, pos, neg_ℤ, ◌-ℤ◌, ◌*ℤ◌, ◌<ℤ◌, ◌≤ℤ◌, refl, sym, ◌∙◌, subst, arith}
use Rattle.std.proofs.lemmas.Int.{ints}
use Rattle.spec_space.specs.declared.Vector.{Vector}
use Rattle.spec_space.specs.declared.Point.{Point}
use Rattle.spec_space.specs.declared.Plane.{Plane}
use Rattle.spec_space.specs.Points.{dot, normal, value}
use Rattle.integer_laws.proofs.Ring.{var, ◌⊕◌, ◌⊗◌, ◌⊖◌, ring}
use Rattle.integer_laws.proofs.Signs.{mul_positive, scaled_le}
use Rattle.integer_laws.proofs.Signs as N
use Rattle.spec_space.specs.Sums.{IsSamePoint}
use Rattle.integer_laws.proofs.Cancel.{sign_cases, positive_right}
use Rattle.plane_core.proofs.Laws.{common_point_unique}
use Rattle.convex_cycles.specs.Cycles.{Step, IsEdgeOf, AreConvex, KeepEachOther, turn}
use Rattle.convex_cycles.proofs.Lists.{Each, EachPair, Member, member_map, each_member, each_from_all, pair_from_all}
use Rattle.convex_cycles.proofs.Links.{sides, each_mapped}
use Rattle.convex_cycles.proofs.Rounds.{before, after}
use Rattle.convex_cycles.proofs.Keeping.{member_pair, keeps_start, keeps_end}
use Rattle.convex_cycles.proofs.Edges.{IsSpare-edge}
use Rattle.line_turns.proofs.Bundles.{direction}
use Rattle.line_turns.proofs.Near.{Enters}
use Rattle.line_turns.proofs.Neighbours.{IsStrictly}
use Rattle.line_turns.proofs.Runs.{way_of, runs_to_side, keeps_own, loses_other, second_turned}

-- ---- between the ends of an edge
-- the point lies strictly between the ends of the edge
pub record IsInsideEdge (s : Plane) (e : Step) (m : Point) : Type 0 where
  pub on : value s m ≡ pos 0
  pub on_side : value e.side m ≡ pos 0
  pub after_start : pos 0 <ℤ value e.prev m
  pub before_end : pos 0 <ℤ value e.next m

weaker : (x : ℤ) → pos 0 <ℤ x → pos 0 ≤ℤ x
weaker x h = omega (arith, ints)

-- what is not above 0 at both ends is not between them
low_between : (s cut : Plane) (e : Step) (m : Point) → IsEdgeOf s e → IsInsideEdge s e m → value cut e.start ≤ℤ pos 0 → value cut e.end ≤ℤ pos 0 → value cut m ≤ℤ pos 0
low_between s cut e m is inside a b = IsSpare-edge s cut (e.prev ∷ (e.next ∷ [])) [] e is (inl (inl refl)) (inl (inr (inl refl))) a b m inside.on inside.on_side (weaker (value e.prev m) inside.after_start, (weaker (value e.next m) inside.before_end, tt)) tt

-- a plane less a multiple of another one
abbrev less : Plane → ℤ → Plane → Plane
less n k h = record { a = n.a -ℤ k *ℤ h.a; b = n.b -ℤ k *ℤ h.b; c = n.c -ℤ k *ℤ h.c; d = n.d -ℤ k *ℤ h.d }

less-value : (n : Plane) (k : ℤ) (h : Plane) (p : Point) → value (less n k h) p ≡ value n p -ℤ k *ℤ value h p
less-value n k h p = ring (n.a ∷ (n.b ∷ (n.c ∷ (n.d ∷ (h.a ∷ (h.b ∷ (h.c ∷ (h.d ∷ (k ∷ (p.x ∷ (p.y ∷ (p.z ∷ (p.w ∷ [])))))))))))))
    ((var 0 ⊖ var 8 ⊗ var 4) ⊗ var 9 ⊕ (var 1 ⊖ var 8 ⊗ var 5) ⊗ var 10 ⊕ (var 2 ⊖ var 8 ⊗ var 6) ⊗ var 11 ⊖ (var 3 ⊖ var 8 ⊗ var 7) ⊗ var 12)
    ((var 0 ⊗ var 9 ⊕ var 1 ⊗ var 10 ⊕ var 2 ⊗ var 11 ⊖ var 3 ⊗ var 12) ⊖ var 8 ⊗ (var 4 ⊗ var 9 ⊕ var 5 ⊗ var 10 ⊕ var 6 ⊗ var 11 ⊖ var 7 ⊗ var 12)) refl

-- n at one end outdone by that multiple of a number above 0
outdone_by : (n h : ℤ) → pos 0 <ℤ n → pos 0 <ℤ h → (n -ℤ n *ℤ h) ≤ℤ pos 0
outdone_by n h some up = down n (n *ℤ h) (more n h some up)
  where
    one : (n : ℤ) → pos 1 *ℤ n ≡ n
    one n = omega (arith, ints)

    at_least : (h : ℤ) → pos 0 <ℤ h → pos 1 ≤ℤ h
    at_least h up = omega (arith, ints)

    swap : (h n : ℤ) → h *ℤ n ≡ n *ℤ h
    swap h n = omega (arith, ints)

    more : (n h : ℤ) → pos 0 <ℤ n → pos 0 <ℤ h → n ≤ℤ (n *ℤ h)
    more n h some up = subst (λ x. x ≤ℤ (n *ℤ h)) (one n) (subst (λ x. (pos 1 *ℤ n) ≤ℤ x) (swap h n) (scaled_le (pos 1) h n some (at_least h up)))

    down : (x y : ℤ) → x ≤ℤ y → (x -ℤ y) ≤ℤ pos 0
    down x y h = omega (arith, ints)

level_by : (n k h : ℤ) → n ≡ pos 0 → pos 0 ≤ℤ k → pos 0 ≤ℤ h → (n -ℤ k *ℤ h) ≤ℤ pos 0
level_by n k h none some up = down n (k *ℤ h) none (product k h some up)
  where
    product : (k h : ℤ) → pos 0 ≤ℤ k → pos 0 ≤ℤ h → pos 0 ≤ℤ (k *ℤ h)
    product k h some up = N.mul_nonneg k h some up

    down : (n x : ℤ) → n ≡ pos 0 → pos 0 ≤ℤ x → (n -ℤ x) ≤ℤ pos 0
    down n x e h = omega (arith, ints)

above : (k n h : ℤ) → pos 0 <ℤ k → pos 0 <ℤ n → (n -ℤ k *ℤ h) ≤ℤ pos 0 → pos 0 <ℤ h
above k n h some up low = positive_right k h some (enough n (k *ℤ h) up low)
  where
    enough : (n x : ℤ) → pos 0 <ℤ n → (n -ℤ x) ≤ℤ pos 0 → pos 0 <ℤ x
    enough n x h k = omega (arith, ints)

-- what is above 0 at one end and not below at the other is above 0 between them
pub up_from_start : (s h : Plane) (e : Step) (m : Point) → IsEdgeOf s e → IsInsideEdge s e m → pos 0 <ℤ value h e.start → pos 0 ≤ℤ value h e.end → pos 0 <ℤ value h m
up_from_start s h e m is inside a b =
    above (value e.next e.start) (value e.next m) (value h m) is.inside_next inside.before_end
    (subst (λ x. x ≤ℤ pos 0) (less-value e.next (value e.next e.start) h m) (low_between s (less e.next (value e.next e.start) h) e m is inside
    (subst (λ x. x ≤ℤ pos 0) (sym (less-value e.next (value e.next e.start) h e.start)) (outdone_by (value e.next e.start) (value h e.start) is.inside_next a))
    (subst (λ x. x ≤ℤ pos 0) (sym (less-value e.next (value e.next e.start) h e.end)) (level_by (value e.next e.end) (value e.next e.start) (value h e.end) is.end_next (weaker (value e.next e.start) is.inside_next) b))))

pub up_from_end : (s h : Plane) (e : Step) (m : Point) → IsEdgeOf s e → IsInsideEdge s e m → pos 0 ≤ℤ value h e.start → pos 0 <ℤ value h e.end → pos 0 <ℤ value h m
up_from_end s h e m is inside a b =
    above (value e.prev e.end) (value e.prev m) (value h m) is.inside_prev inside.after_start
    (subst (λ x. x ≤ℤ pos 0) (less-value e.prev (value e.prev e.end) h m) (low_between s (less e.prev (value e.prev e.end) h) e m is inside
    (subst (λ x. x ≤ℤ pos 0) (sym (less-value e.prev (value e.prev e.end) h e.start)) (level_by (value e.prev e.start) (value e.prev e.end) (value h e.start) is.start_prev (weaker (value e.prev e.end) is.inside_prev) a))
    (subst (λ x. x ≤ℤ pos 0) (sym (less-value e.prev (value e.prev e.end) h e.end)) (outdone_by (value e.prev e.end) (value h e.end) is.inside_prev b))))

-- ---- a convex cycle
-- m is outside a side, inside all sides, or on an edge between its ends
pub data IsAt (s : Plane) (steps : List Step) (m : Point) : Type 0 where
  outside : (f : Step) → Member f steps → value f.side m <ℤ pos 0 → IsAt s steps m
  within : ((f : Step) → Member f steps → pos 0 <ℤ value f.side m) → IsAt s steps m
  on_edge : (e : Step) → Member e steps → IsInsideEdge s e m → IsAt s steps m

level_up : (x : ℤ) → x ≡ pos 0 → pos 0 <ℤ x → ⊥
level_up x e h = omega (arith, ints)

module _ (s : Plane) (steps : List Step) (convex : AreConvex s steps) where
  pub edge_is : (e : Step) → Member e steps → IsEdgeOf s e
  edge_is e m = each_member (IsEdgeOf s) e steps m (each_from_all (IsEdgeOf s) steps convex.edges)

  pub pairs : EachPair KeepEachOther steps
  pairs = pair_from_all KeepEachOther steps convex.convex

  -- no two edges run to and fro
  not_two : (e f : Step) → Member e steps → Member f steps → f.end ≡ e.start → f.start ≡ e.end → ⊥
  not_two e f me mf back forth =
      let n = after steps convex.round e me in
      elim (member_pair n.0 f steps pairs n.1 mf) [
        | inl same ↦ level_up (value f.side e.start) (subst (λ p. value f.side p ≡ pos 0) back (edge_is f mf).end_side)
            (subst (λ x. pos 0 <ℤ value x.side e.start) same (subst (λ h. pos 0 <ℤ value h e.start) n.2.1 (edge_is e me).inside_next))
        | inr keeps ↦ elim keeps.1.0 [
          | inl up ↦ level_up (value f.side n.0.start) (subst (λ p. value f.side p ≡ pos 0) (forth ∙ n.2.0) (edge_is f mf).start_side) up
          | inr same ↦ level_up (value e.next e.start) (subst (λ p. value e.next p ≡ pos 0) (n.2.0 ∙ sym same ∙ back) (edge_is e me).end_next) (edge_is e me).inside_next
        ]
      ]

  -- between the ends of an edge each side that keeps it is strictly inside
  pub kept_inside : (e f : Step) (m : Point) → Member e steps → Member f steps → KeepEachOther e f → IsInsideEdge s e m → pos 0 <ℤ value f.side m
  kept_inside e f m me mf keeps inside = elim keeps.1.0 [
    | inl a ↦ up_from_start s f.side e m (edge_is e me) inside a (keeps_end s f e (edge_is f mf) keeps.1)
    | inr back ↦ elim keeps.1.1 [
      | inl b ↦ up_from_end s f.side e m (edge_is e me) inside (keeps_start s f e (edge_is f mf) keeps.1) b
      | inr forth ↦ absurd (not_two e f me mf back forth)
    ]
  ]

  -- and so is every other side
  pub others_inside : (e f : Step) (m : Point) → Member e steps → Member f steps → IsInsideEdge s e m → (f ≡ e) ⊎ (pos 0 <ℤ value f.side m)
  others_inside e f m me mf inside = elim (member_pair e f steps pairs me mf) [
    | inl same ↦ inl (sym same)
    | inr keeps ↦ inr (kept_inside e f m me mf keeps inside)
  ]

  up_unless : (x : ℤ) → pos 0 ≤ℤ x → (x ≡ pos 0 → ⊥) → pos 0 <ℤ x
  up_unless x h k = elim (sign_cases x) [
    | inl low ↦ absurd (under x h low)
    | inr (inl same) ↦ absurd (k same)
    | inr (inr high) ↦ high
  ]
    where
      under : (x : ℤ) → pos 0 ≤ℤ x → x <ℤ pos 0 → ⊥
      under x h k = omega (arith, ints)

  some : (x : ℤ) → pos 0 <ℤ x → x ≢ pos 0
  some x h e = omega (arith, ints)

  -- a point of the closed piece on the plane of a side, and no corner, lies between the ends of its edge
  pub inside_edge : (e : Step) (m : Point) → Member e steps → value s m ≡ pos 0 → value e.side m ≡ pos 0 → ((f : Step) → Member f steps → pos 0 ≤ℤ value f.side m)
      → ((f : Step) → Member f steps → IsSamePoint m f.start → ⊥) → IsInsideEdge s e m
  inside_edge e m me on on_side touches no_corner =
      let p = before steps convex.round e me in
      let n = after steps convex.round e me in
      let is = edge_is e me in
      record {
        on = on;
        on_side = on_side;
        after_start = up_unless (value e.prev m) (subst (λ h. pos 0 ≤ℤ value h m) p.2.2 (touches p.0 p.1))
            (λ z. no_corner e me (common_point_unique s e.prev e.side m e.start (some (turn s e.prev e.side) is.left) on z on_side is.start_on is.start_prev is.start_side));
        before_end = up_unless (value e.next m) (subst (λ h. pos 0 ≤ℤ value h m) (sym n.2.1) (touches n.0 n.1))
            (λ z. no_corner n.0 n.1 (subst (λ q. IsSamePoint m q) n.2.0 (common_point_unique s e.side e.next m e.end (some (turn s e.side e.next) is.left_next) on on_side z is.end_on is.end_side is.end_next)));
      }

  -- what the sides of a list say of m
  pub data Scan (m : Point) (fs : List Step) : Type 0 where
    has_low : (f : Step) → Member f fs → value f.side m <ℤ pos 0 → Scan m fs
    has_level : (e : Step) → Member e fs → value e.side m ≡ pos 0 → ((f : Step) → Member f fs → pos 0 ≤ℤ value f.side m) → Scan m fs
    all_high : ((f : Step) → Member f fs → pos 0 <ℤ value f.side m) → Scan m fs

  weakly : (x : ℤ) → pos 0 <ℤ x → pos 0 ≤ℤ x
  weakly x h = omega (arith, ints)

  evenly : (x : ℤ) → x ≡ pos 0 → pos 0 ≤ℤ x
  evenly x h = omega (arith, ints)

  with_first : (Q : ℤ → Type 0) (m : Point) (g : Step) (gs : List Step) → Q (value g.side m) → ((f : Step) → Member f gs → Q (value f.side m)) → (f : Step) → Member f (g ∷ gs) → Q (value f.side m)
  with_first Q m g gs first rest f (inl same) = subst (λ x. Q (value x.side m)) (sym same) first
  with_first Q m g gs first rest f (inr n) = rest f n

  scan_more : (m : Point) (g : Step) (gs : List Step) → Scan m gs → Scan m (g ∷ gs)
  scan_more m g gs (has_low f mf h) = has_low f (inr mf) h
  scan_more m g gs (has_level e me h all) = elim (sign_cases (value g.side m)) [
    | inl down ↦ has_low g (inl refl) down
    | inr (inl none) ↦ has_level g (inl refl) none (with_first (λ x. pos 0 ≤ℤ x) m g gs (evenly (value g.side m) none) all)
    | inr (inr up) ↦ has_level e (inr me) h (with_first (λ x. pos 0 ≤ℤ x) m g gs (weakly (value g.side m) up) all)
  ]
  scan_more m g gs (all_high all) = elim (sign_cases (value g.side m)) [
    | inl down ↦ has_low g (inl refl) down
    | inr (inl none) ↦ has_level g (inl refl) none (with_first (λ x. pos 0 ≤ℤ x) m g gs (evenly (value g.side m) none) (λ f mf. weakly (value f.side m) (all f mf)))
    | inr (inr up) ↦ all_high (with_first (λ x. pos 0 <ℤ x) m g gs up all)
  ]

  scan : (m : Point) (fs : List Step) → Scan m fs
  scan m [] = all_high (λ f mf. absurd mf)
  scan m (g ∷ gs) = scan_more m g gs (scan m gs)

  -- where a point that is no corner lies
  pub where_at : (m : Point) → value s m ≡ pos 0 → ((f : Step) → Member f steps → IsSamePoint m f.start → ⊥) → IsAt s steps m
  where_at m on no_corner = elim (scan m steps) [
    | has_low f mf h ↦ outside f mf h
    | has_level e me h all ↦ on_edge e me (inside_edge e m me on h all no_corner)
    | all_high all ↦ within all
  ]

  -- ---- at the half-planes
  module _ (m : Point) (t : Vector) where
    -- the piece lies at a half-plane of its plane: the direction leads into each side
    abbrev pub Lies : Bool → Type 0
    Lies b = Each (Enters m (direction b (normal s) t)) (sides steps)

    pub lies_within : ((f : Step) → Member f steps → pos 0 <ℤ value f.side m) → (b : Bool) → Lies b
    lies_within all b = each_mapped (Enters m (direction b (normal s) t)) (λ e. e.side) steps (λ f mf. inl (all f mf))

    entered : (b : Bool) (f : Step) → Member f steps → Lies b → Enters m (direction b (normal s) t) f.side
    entered b f mf lies = each_member (Enters m (direction b (normal s) t)) f.side (sides steps) (member_map (λ e. e.side) f steps mf) lies

    pub lies_outside : (f : Step) → Member f steps → value f.side m <ℤ pos 0 → (b : Bool) → Lies b → ⊥
    lies_outside f mf low b lies = elim (entered b f mf lies) [
      | inl up ↦ under (value f.side m) low up
      | inr on ↦ down (value f.side m) low on.0
    ]
      where
        under : (x : ℤ) → x <ℤ pos 0 → pos 0 <ℤ x → ⊥
        under x h k = omega (arith, ints)

        down : (x : ℤ) → x <ℤ pos 0 → x ≡ pos 0 → ⊥
        down x h k = omega (arith, ints)

    -- with m on an edge that runs along the line, for true, or against it, for false, it lies at the half-plane of that flag
    pub lies_at_edge : (e : Step) (b : Bool) → Member e steps → IsInsideEdge s e m → IsStrictly b (dot (way_of e) t) → Lies b
    lies_at_edge e b me inside runs = each_mapped (Enters m (direction b (normal s) t)) (λ f. f.side) steps (λ f mf. elim (others_inside e f m me mf inside) [
      | inl same ↦ subst (λ x. Enters m (direction b (normal s) t) x.side) (sym same) (inr (inside.on_side, keeps_own b (normal e.side) (normal s) t (runs_to_side b s e t (edge_is e me) runs)))
      | inr up ↦ inl up
    ])

    -- and at that one alone
    pub not_at_other : (e : Step) (b : Bool) → Member e steps → IsInsideEdge s e m → IsStrictly b (dot (way_of e) t) → Lies (not b) → ⊥
    not_at_other e b me inside runs lies = elim (entered (not b) e me lies) [
      | inl up ↦ level_up (value e.side m) inside.on_side up
      | inr on ↦ loses_other b (normal e.side) (normal s) t (runs_to_side b s e t (edge_is e me) runs) on.1
    ]

    -- where no edge plane holds m it lies at both half-planes or at neither; and it lies at both only where no edge plane does
    pub both_within : Lies true → Lies false → (f : Step) → Member f steps → pos 0 <ℤ value f.side m
    both_within first second f mf = elim (entered true f mf first) [
      | inl up ↦ up
      | inr on ↦ elim (entered false f mf second) [
        | inl up ↦ up
        | inr also ↦ absurd (clash (dot (normal f.side) (direction true (normal s) t)) on.1 (subst (λ x. pos 0 <ℤ x) (second_turned (normal f.side) (normal s) t) also.1))
      ]
    ]
      where
        clash : (x : ℤ) → pos 0 <ℤ x → pos 0 <ℤ neg_ℤ x → ⊥
        clash x h k = omega (arith, ints)
