-- How often one corner follows another one round a piece whose edges are cut at every corner of a mesh.
use Rattle.std.proofs.Common.{◌≡◌, ◌≢◌, ◌⊎◌, inl, inr, ◌+◌, ◌&&◌, cond, Bool, true, false, not, List, [], ◌∷◌, Some, ℕ, ℤ, pos, neg_ℤ, ◌<ℤ◌, refl, sym, ap, ap₂, ◌∙◌, subst, arith, true≢false, Decides, if◌then◌else◌}
use Rattle.std.specs.List.{sum_by}
use Rattle.std.proofs.lemmas.Int.{ints}
use Rattle.std.proofs.lemmas.List.Sums.{sum_by-cons}
use Rattle.spec_space.specs.declared.Vector.{Vector}
use Rattle.spec_space.specs.declared.Point.{Point}
use Rattle.spec_space.specs.declared.Plane.{Plane}
use Rattle.spec_space.specs.Points.{IsPoint, cross, dot, normal, value, way_between}
use Rattle.spec_space.specs.Sums.{IsSamePoint}
use Rattle.integer_laws.proofs.Cancel.{sign_cases}
use Rattle.convex_cycles.specs.Cycles.{Step, IsEdgeOf, AreConvex, KeepEachOther}
use Rattle.convex_cycles.proofs.Lists.{Each, EachPair, Member, each_member, each_from_members, pair_with}
use Rattle.line_turns.proofs.Along.{IsThrough, on_through, own_way, after_turned}
use Rattle.line_turns.proofs.Balance.{passes, passes_inside, runs, runs_strictly, edge_at}
use Rattle.line_turns.proofs.Between.{IsAfter, between, between_on, way_turned}
use Rattle.line_turns.proofs.Bundles.{direction}
use Rattle.line_turns.proofs.Dets as D
use Rattle.line_turns.proofs.Chains.{follows, goes_pair, pairs_from, IsCut, IsOnLine, forward_count, backward_count, each_pairs, count_none}
use Rattle.line_turns.proofs.Neighbours.{IsStrictly, strictly_off}
use Rattle.line_turns.proofs.Pieces.{edge_is, kept_inside, pairs}
use Rattle.line_turns.proofs.Runs.{way_of, way_on, edge_runs, runs_to_side}
use Rattle.line_turns.proofs.Tallies.{goes, same}

zero_or_not : (x : ℤ) → (x ≡ pos 0) ⊎ (x ≢ pos 0)
zero_or_not x = elim (sign_cases x) [
  | inl low ↦ inr (λ e. level_down x e low)
  | inr (inl none) ↦ inl none
  | inr (inr high) ↦ inr (λ e. level_up x e high)
]
  where
    level_down : (x : ℤ) → x ≡ pos 0 → x <ℤ pos 0 → ⊥
    level_down x e h = omega (arith, ints)

    level_up : (x : ℤ) → x ≡ pos 0 → pos 0 <ℤ x → ⊥
    level_up x e h = omega (arith, ints)

not_true : (b : Bool) → (b ≡ true → ⊥) → b ≡ false
not_true true h = absurd (h refl)
not_true false h = refl

both : (b c : Bool) → (b && c) ≡ true → (b ≡ true) × (c ≡ true)
both true c e = (refl, e)
both false c e = absurd (true≢false (sym e))

with_true : (b c : Bool) → c ≡ true → (cond {A = ℕ} b 1 0 ≡ cond (b && c) 1 0) × (0 ≡ cond {A = ℕ} (b && not c) 1 0)
with_true true true e = (refl, refl)
with_true false true e = (refl, refl)
with_true b false e = absurd (true≢false (sym e))

with_false : (b c : Bool) → c ≡ false → (0 ≡ cond {A = ℕ} (b && c) 1 0) × (cond {A = ℕ} b 1 0 ≡ cond (b && not c) 1 0)
with_false true false e = (refl, refl)
with_false false false e = (refl, refl)
with_false b true e = absurd (true≢false e)

with_none : (b c : Bool) → b ≡ false → (0 ≡ cond {A = ℕ} (b && c) 1 0) × (0 ≡ cond {A = ℕ} (b && not c) 1 0)
with_none true c e = absurd (true≢false e)
with_none false c e = (refl, refl)

pub sum_same : {X : Type 0} (f g : X → ℕ) (xs : List X) → Each (λ x. f x ≡ g x) xs → sum_by f xs ≡ sum_by g xs
sum_same f g [] e = refl
sum_same f g (x ∷ xs) e = sum_by-cons f x xs ∙ ap₂ (λ m n. m + n) e.0 (sum_same f g xs e.1) ∙ sym (sum_by-cons g x xs)

-- the edges that pass m in one direction, where one edge at most passes it
pub count_edges : (s : Plane) (m : Point) (t : Vector) (b : Bool) (es : List Step) → EachPair (λ e f. passes s m e ≡ true → passes s m f ≡ true → ⊥) es
    → sum_by (λ e. cond (passes s m e && same (runs t e) b) 1 0) es ≡ cond (goes (edge_at s m t es) b) 1 0
count_edges s m t b [] alone = refl
count_edges s m t b (e ∷ es) alone = sum_by-cons (λ e. cond (passes s m e && same (runs t e) b) 1 0) e es ∙ first (count_edges s m t b es alone.1) (passes s m e) refl
  where
    none : (fs : List Step) → Each (λ f. passes s m f ≡ false) fs → sum_by (λ f. cond (passes s m f && same (runs t f) b) 1 0) fs ≡ 0
    none [] h = refl
    none (f ∷ fs) h = sum_by-cons (λ f. cond (passes s m f && same (runs t f) b) 1 0) f fs ∙ ap₂ (λ k l. k + l) (ap (λ c. cond (c && same (runs t f) b) 1 0) h.0) (none fs h.1)

    first : sum_by (λ f. cond (passes s m f && same (runs t f) b) 1 0) es ≡ cond (goes (edge_at s m t es) b) 1 0 → (c : Bool) → passes s m e ≡ c
        → cond (c && same (runs t e) b) 1 0 + sum_by (λ f. cond (passes s m f && same (runs t f) b) 1 0) es ≡ cond (goes (if c then Some (runs t e) else edge_at s m t es) b) 1 0
    first rest true p = ap (λ k. cond (same (runs t e) b) 1 0 + k) (none es (each_from_members (λ f. passes s m f ≡ false) es (λ f mf. not_true (passes s m f) (each_member (λ f. passes s m e ≡ true → passes s m f ≡ true → ⊥) f es mf alone.0 p)))) ∙ plain (cond (same (runs t e) b) 1 0)
      where
        plain : (k : ℕ) → k + 0 ≡ k
        plain k = omega arith
    first rest false p = plain (sum_by (λ f. cond (passes s m f && same (runs t f) b) 1 0) es) ∙ rest
      where
        plain : (k : ℕ) → 0 + k ≡ k
        plain k = omega arith

-- no corner lies between the two
abbrev pub AreNext : {C : Type 0} → (C → Point) → (C → Type 0) → C → C → Type 0
AreNext {C} point In u v = (d : C) → In d → IsThrough (point u) (point v) (point d) → IsAfter (way_between (point u) (point v)) (point u) (point d) → IsAfter (way_between (point u) (point v)) (point d) (point v) → ⊥

module _ {C : Type 0} (eq : C → C → Bool) (decides : (a b : C) → Decides (eq a b) (a ≡ b)) (point : C → Point) (In : C → Type 0)
    (points : (c : C) → In c → IsPoint (point c)) (distinct : (c d : C) → In c → In d → IsSamePoint (point c) (point d) → c ≡ d) where
  module _ (u v : C) (iu : In u) (iv : In v) (next : AreNext point In u v) (line : pos 0 <ℤ dot (way_between (point u) (point v)) (way_between (point u) (point v)))
      (n : ℕ) (m : Point) (is_between : m ≡ between n (point u) (point v)) (im : IsPoint m)
      (um : IsAfter (way_between (point u) (point v)) (point u) m) (mv : IsAfter (way_between (point u) (point v)) m (point v)) where
    abbrev along : Vector
    along = way_between (point u) (point v)

    m_on : (h : Plane) → value h (point u) ≡ pos 0 → value h (point v) ≡ pos 0 → value h m ≡ pos 0
    m_on h hu hv = subst (λ x. value h x ≡ pos 0) (sym is_between) (between_on h n (point u) (point v) hu hv)

    -- if it holds m, the plane holds both corners
    abbrev pub IsHeld : Plane → Type 0
    IsHeld h = value h m ≡ pos 0 → (value h (point u) ≡ pos 0) × (value h (point v) ≡ pos 0)

    -- ---- one edge
    module _ (s : Plane) (e : Step) (is : IsEdgeOf s e) (lead : pos 0 <ℤ dot (normal s) (normal s)) (s_held : IsHeld s) (e_held : IsHeld e.side) (c : C) (cs : List C) (cut : IsCut point In s e c cs) where
      -- of an edge that is not on the line neither corner follows the other one
      off_counts : (a b : C) → (IsOnLine point s e a → IsOnLine point s e b → ⊥) → follows eq a b c cs ≡ 0
      off_counts a b away = count_none (goes_pair eq a b) (pairs_from c cs) (none (pairs_from c cs) (each_pairs (IsOnLine point s e) c cs cut.on_line))
        where
          none : (ps : List (C × C)) → Each (λ p. IsOnLine point s e p.0 × IsOnLine point s e p.1) ps → Each (λ p. goes_pair eq a b p ≡ false) ps
          none [] h = tt
          none (p ∷ ps) h = (
            not_true (goes_pair eq a b p) (λ g.
                let q = both (eq p.0 a) (eq p.1 b) g in
                away (subst (IsOnLine point s e) ((decides p.0 a).0 q.0) h.0.0) (subst (IsOnLine point s e) ((decides p.1 b).0 q.1) h.0.1)),
            none ps h.1,
          )

      off : (value s m ≡ pos 0 → value e.side m ≡ pos 0 → ⊥) → (follows eq u v c cs ≡ cond (passes s m e && runs along e) 1 0) × (follows eq v u c cs ≡ cond (passes s m e && not (runs along e)) 1 0)
      off away =
          let none = with_none (passes s m e) (runs along e) (not_true (passes s m e) (λ h. let i = passes_inside s m e h in away i.on i.on_side)) in
          (off_counts u v (λ a b. away (m_on s a.0 b.0) (m_on e.side a.1 b.1)) ∙ none.0, off_counts v u (λ a b. away (m_on s b.0 a.0) (m_on e.side b.1 a.1)) ∙ none.1)

      on_line : value s m ≡ pos 0 → value e.side m ≡ pos 0 → (follows eq u v c cs ≡ cond (passes s m e && runs along e) 1 0) × (follows eq v u c cs ≡ cond (passes s m e && not (runs along e)) 1 0)
      on_line sm em = found r.0 r.1
        where
          su : value s (point u) ≡ pos 0
          su = (s_held sm).0

          sv : value s (point v) ≡ pos 0
          sv = (s_held sm).1

          eu : value e.side (point u) ≡ pos 0
          eu = (e_held em).0

          ev : value e.side (point v) ≡ pos 0
          ev = (e_held em).1

          r : (b : Bool) × IsStrictly b (dot (way_of e) along)
          r = edge_runs s e along is lead line (way_on s (point u) (point v) su sv) (way_on e.side (point u) (point v) eu ev)

          through : dot (normal s) (cross (normal e.side) along) ≢ pos 0 → (d : C) → IsOnLine point s e d → IsThrough (point u) (point v) (point d)
          through some d ld = on_through s e.side (point u) (point v) (point d) (points u iu) line some su sv ld.0 eu ev ld.1

          apart : (b : Bool) → IsStrictly b (dot (way_of e) along) → dot (normal s) (cross (normal e.side) along) ≢ pos 0
          apart b h z = strictly_off b (dot (normal e.side) (direction true (normal s) along)) (runs_to_side b s e along is h) (D.det_turned (normal s) (normal e.side) along ∙ negated (dot (normal s) (cross (normal e.side) along)) z)
            where
              negated : (x : ℤ) → x ≡ pos 0 → neg_ℤ x ≡ pos 0
              negated x z = omega (arith, ints)

          found : (b : Bool) → IsStrictly b (dot (way_of e) along) → (follows eq u v c cs ≡ cond (passes s m e && runs along e) 1 0) × (follows eq v u c cs ≡ cond (passes s m e && not (runs along e)) 1 0)
          found true h =
              let clear = λ (d : C) (id : In d) (ld : IsOnLine point s e d). next d id (through (apart true h) d ld) in
              let w = with_true (passes s m e) (runs along e) (runs_strictly true along e h) in (
                forward_count eq decides point In points distinct s e is along (own_way s e is) h u v iu iv (su, eu) (sv, ev) m im sm em um mv clear c cs cut ∙ w.0,
                backward_count eq decides point In points distinct s e is along (own_way s e is) h u v iu iv (su, eu) (sv, ev) m im sm em um mv clear c cs cut ∙ w.1,
              )
          found false h =
              let runs_back : pos 0 <ℤ dot (way_of e) (way_between (point v) (point u)) = subst (λ x. pos 0 <ℤ x) (sym (after_turned e.start e.end (point u) (point v) ∙ way_turned e.start e.end along)) (up (dot (way_of e) along) h) in
              let vm : IsAfter (way_between (point v) (point u)) (point v) m = subst (λ x. pos 0 <ℤ x) (sym (after_turned (point v) m (point u) (point v))) mv in
              let mu : IsAfter (way_between (point v) (point u)) m (point u) = subst (λ x. pos 0 <ℤ x) (sym (after_turned m (point u) (point u) (point v))) um in
              let clear = λ (d : C) (id : In d) (ld : IsOnLine point s e d) (x : IsAfter (way_between (point v) (point u)) (point v) (point d)) (y : IsAfter (way_between (point v) (point u)) (point d) (point u)). next d id (through (apart false h) d ld)
              (subst (λ z. pos 0 <ℤ z) (after_turned (point d) (point u) (point u) (point v)) y) (subst (λ z. pos 0 <ℤ z) (after_turned (point v) (point d) (point u) (point v)) x) in
              let w = with_false (passes s m e) (runs along e) (runs_strictly false along e h) in (
                backward_count eq decides point In points distinct s e is (way_between (point v) (point u)) (own_way s e is) runs_back v u iv iu (sv, ev) (su, eu) m im sm em vm mu clear c cs cut ∙ w.0,
                forward_count eq decides point In points distinct s e is (way_between (point v) (point u)) (own_way s e is) runs_back v u iv iu (sv, ev) (su, eu) m im sm em vm mu clear c cs cut ∙ w.1,
              )
            where
              up : (x : ℤ) → x <ℤ pos 0 → pos 0 <ℤ neg_ℤ x
              up x h = omega (arith, ints)

      -- v follows u once along an edge that passes m along the line, and u follows v once along one that passes it against the
      -- line, and else never
      pub step_counts : (follows eq u v c cs ≡ cond (passes s m e && runs along e) 1 0) × (follows eq v u c cs ≡ cond (passes s m e && not (runs along e)) 1 0)
      step_counts = elim (zero_or_not (value s m)) [
        | inr away ↦ off (λ sm em. away sm)
        | inl sm ↦ elim (zero_or_not (value e.side m)) [
          | inr away ↦ off (λ sm em. away em)
          | inl em ↦ on_line sm em
        ]
      ]

    -- ---- one piece
    module _ (s : Plane) (lead : pos 0 <ℤ dot (normal s) (normal s)) (steps : List Step) (convex : AreConvex s steps) (chain : Step → C × List C)
        (cuts : (e : Step) → Member e steps → IsCut point In s e (chain e).0 (chain e).1) (s_held : IsHeld s) (held : (e : Step) → Member e steps → IsHeld e.side) where
      -- the piece has one edge at most that passes m
      alone : EachPair (λ e f. passes s m e ≡ true → passes s m f ≡ true → ⊥) steps
      alone = pair_with (λ e. Member e steps) KeepEachOther (λ e f. passes s m e ≡ true → passes s m f ≡ true → ⊥)
          (λ e f me mf keeps pe pf. level_up (value f.side m) (passes_inside s m f pf).on_side (kept_inside s steps convex e f m me mf keeps (passes_inside s m e pe)))
          steps (each_from_members (λ e. Member e steps) steps (λ e me. me)) (pairs s steps convex)
        where
          level_up : (x : ℤ) → x ≡ pos 0 → pos 0 <ℤ x → ⊥
          level_up x e h = omega (arith, ints)

      pub piece_counts : (sum_by (λ e. follows eq u v (chain e).0 (chain e).1) steps ≡ cond (goes (edge_at s m along steps) true) 1 0)
          × (sum_by (λ e. follows eq v u (chain e).0 (chain e).1) steps ≡ cond (goes (edge_at s m along steps) false) 1 0)
      piece_counts = (
        sum_same (λ e. follows eq u v (chain e).0 (chain e).1) (λ e. cond (passes s m e && runs along e) 1 0) steps (each_from_members (λ e. follows eq u v (chain e).0 (chain e).1 ≡ cond (passes s m e && runs along e) 1 0) steps (λ e me. (counts e me).0))
            ∙ sum_same (λ e. cond (passes s m e && runs along e) 1 0) (λ e. cond (passes s m e && same (runs along e) true) 1 0) steps (each_from_members (λ e. cond (passes s m e && runs along e) 1 0 ≡ cond (passes s m e && same (runs along e) true) 1 0) steps (λ e me. ap (λ b. cond (passes s m e && b) 1 0) (as_true (runs along e))))
            ∙ count_edges s m along true steps alone,
        sum_same (λ e. follows eq v u (chain e).0 (chain e).1) (λ e. cond (passes s m e && not (runs along e)) 1 0) steps (each_from_members (λ e. follows eq v u (chain e).0 (chain e).1 ≡ cond (passes s m e && not (runs along e)) 1 0) steps (λ e me. (counts e me).1))
            ∙ sum_same (λ e. cond (passes s m e && not (runs along e)) 1 0) (λ e. cond (passes s m e && same (runs along e) false) 1 0) steps (each_from_members (λ e. cond (passes s m e && not (runs along e)) 1 0 ≡ cond (passes s m e && same (runs along e) false) 1 0) steps (λ e me. ap (λ b. cond (passes s m e && b) 1 0) (as_false (runs along e))))
            ∙ count_edges s m along false steps alone,
      )
        where
          as_true : (b : Bool) → b ≡ same b true
          as_true true = refl
          as_true false = refl

          as_false : (b : Bool) → not b ≡ same b false
          as_false true = refl
          as_false false = refl

          counts : (e : Step) → Member e steps → (follows eq u v (chain e).0 (chain e).1 ≡ cond (passes s m e && runs along e) 1 0) × (follows eq v u (chain e).0 (chain e).1 ≡ cond (passes s m e && not (runs along e)) 1 0)
          counts e me = step_counts s e (edge_is s steps convex e me) lead s_held (held e me) (chain e).0 (chain e).1 (cuts e me)
