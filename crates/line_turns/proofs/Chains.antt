-- An edge that is cut at every corner of a mesh: how often one corner follows another one along it.
use Rattle.std.proofs.Common.{◌≡◌, ◌≢◌, ◌⊎◌, inl, inr, ◌+◌, ◌&&◌, cond, Bool, true, false, not, List, [], ◌∷◌, ℕ, ℤ, pos, ◌<ℤ◌, int_lt, refl, sym, ap, ap₂, ◌∙◌, subst, arith, true≢false, Decides}
use Rattle.std.specs.List.{count_by}
use Rattle.std.proofs.lemmas.Int.{ints}
use Rattle.std.proofs.lemmas.List.Sums.{sum_by-cons}
use Rattle.spec_space.specs.declared.Vector.{Vector}
use Rattle.spec_space.specs.declared.Point.{Point}
use Rattle.spec_space.specs.declared.Plane.{Plane}
use Rattle.spec_space.specs.Points.{IsPoint, cross, dot, normal, value, way_between}
use Rattle.spec_space.specs.Sums.{IsSamePoint}
use Rattle.convex_cycles.specs.Cycles.{Step, IsEdgeOf}
use Rattle.convex_cycles.proofs.Lists.{Each}
use Rattle.line_turns.proofs.Along.{after_trans, after_once, line_cases, along_edge, edge_along, after_start, start_before, before_end, end_after, turned_down}
use Rattle.line_turns.proofs.Balance.{passes, passes_inside, inside_passes}
use Rattle.line_turns.proofs.Between.{IsAfter, after_same, before_same}
use Rattle.line_turns.proofs.Runs.{way_of}

-- each item of a list with the one that follows it, and the last item
abbrev pub pairs_from : {C : Type 0} → C → List C → List (C × C)
pairs_from c [] = []
pairs_from c (d ∷ ds) = (c, d) ∷ pairs_from d ds

abbrev pub last_from : {C : Type 0} → C → List C → C
last_from c [] = c
last_from c (d ∷ ds) = last_from d ds

pub each_last : {C : Type 0} (P : C → Type 0) (c : C) (cs : List C) → Each P (c ∷ cs) → P (last_from c cs)
each_last P c [] e = e.0
each_last P c (d ∷ ds) e = each_last P d ds e.1

pub each_pairs : {C : Type 0} (P : C → Type 0) (c : C) (cs : List C) → Each P (c ∷ cs) → Each (λ p. P p.0 × P p.1) (pairs_from c cs)
each_pairs P c [] e = tt
each_pairs P c (d ∷ ds) e = ((e.0, e.1.0), each_pairs P d ds e.1)

pub count_same : {X : Type 0} (p q : X → Bool) (xs : List X) → Each (λ x. p x ≡ q x) xs → count_by p xs ≡ count_by q xs
count_same p q [] e = refl
count_same p q (x ∷ xs) e = sum_by-cons (λ y. cond (p y) 1 0) x xs ∙ ap₂ (λ m n. m + n) (ap (λ b. cond b 1 0) e.0) (count_same p q xs e.1) ∙ sym (sum_by-cons (λ y. cond (q y) 1 0) x xs)

pub count_none : {X : Type 0} (p : X → Bool) (xs : List X) → Each (λ x. p x ≡ false) xs → count_by p xs ≡ 0
count_none p [] e = refl
count_none p (x ∷ xs) e = sum_by-cons (λ y. cond (p y) 1 0) x xs ∙ ap₂ (λ m n. m + n) (ap (λ b. cond b 1 0) e.0) (count_none p xs e.1)

-- a flag that does not come back changes once, or not at all
module _ {C : Type 0} (low : C → Bool) where
  abbrev pub changes : C × C → Bool
  changes p = low p.0 && not (low p.1)

  stays : (c : C) (cs : List C) → Each (λ p. low p.1 ≡ true → low p.0 ≡ true) (pairs_from c cs) → low (last_from c cs) ≡ true → low c ≡ true
  stays c [] e h = h
  stays c (d ∷ ds) e h = e.0 (stays d ds e.1 h)

  one_change : (a b z : Bool) → (b ≡ true → a ≡ true) → (z ≡ true → b ≡ true) → cond (a && not b) 1 0 + cond (b && not z) 1 0 ≡ cond (a && not z) 1 0
  one_change true true true h k = refl
  one_change true true false h k = refl
  one_change true false true h k = absurd (true≢false (sym (k refl)))
  one_change true false false h k = refl
  one_change false true z h k = absurd (true≢false (sym (h refl)))
  one_change false false z h k = refl

  unchanged : (b : Bool) → cond {A = ℕ} (b && not b) 1 0 ≡ 0
  unchanged true = refl
  unchanged false = refl

  pub count_changes : (c : C) (cs : List C) → Each (λ p. low p.1 ≡ true → low p.0 ≡ true) (pairs_from c cs) → count_by changes (pairs_from c cs) ≡ cond (low c && not (low (last_from c cs))) 1 0
  count_changes c [] e = sym (unchanged (low c))
  count_changes c (d ∷ ds) e =
      sum_by-cons (λ p. cond (changes p) 1 0) (c, d) (pairs_from d ds)
      ∙ ap (λ n. cond (changes (c, d)) 1 0 + n) (count_changes d ds e.1)
      ∙ one_change (low c) (low d) (low (last_from d ds)) e.0 (stays d ds e.1)

same_flag : (a b : Bool) → (a ≡ true → b ≡ true) → (b ≡ true → a ≡ true) → a ≡ b
same_flag true b h k = sym (h refl)
same_flag false true h k = k refl
same_flag false false h k = refl

both : (b c : Bool) → (b && c) ≡ true → (b ≡ true) × (c ≡ true)
both true c e = (refl, e)
both false c e = absurd (true≢false (sym e))

joined : (b c : Bool) → b ≡ true → c ≡ true → (b && c) ≡ true
joined b c p q = ap (λ x. x && c) p ∙ q

not_true : (b : Bool) → (b ≡ true → ⊥) → b ≡ false
not_true true h = absurd (h refl)
not_true false h = refl

from_not : (b : Bool) → not b ≡ true → b ≡ false
from_not true e = absurd (true≢false (sym e))
from_not false e = refl

above : (x : ℤ) → int_lt (pos 0) x ≡ true → pos 0 <ℤ x
above x e = omega (arith, ints)

above_test : (x : ℤ) (b : Bool) → int_lt (pos 0) x ≡ b → pos 0 <ℤ x → b ≡ true
above_test x true e h = refl
above_test x false e h = absurd (omega (arith, ints))

pub same_turned : (a b : Point) → IsSamePoint a b → IsSamePoint b a
same_turned a b s = record { same_x = sym s.same_x; same_y = sym s.same_y; same_z = sym s.same_z }

-- whether a pair goes from u to v, and how often v follows u
abbrev pub goes_pair : {C : Type 0} → (C → C → Bool) → C → C → C × C → Bool
goes_pair eq u v p = eq p.0 u && eq p.1 v

abbrev pub follows : {C : Type 0} → (C → C → Bool) → C → C → C → List C → ℕ
follows eq u v c cs = count_by (goes_pair eq u v) (pairs_from c cs)

module _ {C : Type 0} (point : C → Point) where
  -- the corner lies on the edge's line
  abbrev pub IsOnLine : Plane → Step → C → Type 0
  IsOnLine s e c = (value s (point c) ≡ pos 0) × (value e.side (point c) ≡ pos 0)

  module _ (In : C → Type 0) where
    -- no corner lies between the two on the edge's line
    abbrev pub IsClear : Plane → Step → C × C → Type 0
    IsClear s e p = (d : C) → In d → IsOnLine s e d → IsAfter (way_of e) (point p.0) (point d) → IsAfter (way_of e) (point d) (point p.1) → ⊥

    -- the edge is cut at every corner on it: the corners lead from its start to its end, each comes after the one before, and
    -- no other corner lies between them
    pub record IsCut (s : Plane) (e : Step) (c : C) (cs : List C) : Type 0 where
      pub starts : IsSamePoint e.start (point c)
      pub ends : IsSamePoint e.end (point (last_from c cs))
      pub corners : Each In (c ∷ cs)
      pub on_line : Each (IsOnLine s e) (c ∷ cs)
      pub rising : Each (λ p. IsAfter (way_of e) (point p.0) (point p.1)) (pairs_from c cs)
      pub complete : Each (IsClear s e) (pairs_from c cs)

module _ {C : Type 0} (eq : C → C → Bool) (decides : (a b : C) → Decides (eq a b) (a ≡ b)) (point : C → Point) (In : C → Type 0) where
  module _ (points : (c : C) → In c → IsPoint (point c)) (distinct : (c d : C) → In c → In d → IsSamePoint (point c) (point d) → c ≡ d) where
    -- an edge that runs along t, and two corners u and v on its line with m and no corner between them
    module _ (s : Plane) (e : Step) (is : IsEdgeOf s e) (t : Vector) (own : pos 0 <ℤ dot (way_of e) (way_of e)) (runs : pos 0 <ℤ dot (way_of e) t)
        (u v : C) (iu : In u) (iv : In v) (lu : IsOnLine point s e u) (lv : IsOnLine point s e v) (m : Point) (im : IsPoint m) (on : value s m ≡ pos 0) (on_side : value e.side m ≡ pos 0)
        (um : IsAfter t (point u) m) (mv : IsAfter t m (point v))
        (clear : (d : C) → In d → IsOnLine point s e d → IsAfter t (point u) (point d) → IsAfter t (point d) (point v) → ⊥) where
      apart : dot (normal s) (cross (normal e.side) t) ≢ pos 0
      apart = off (dot (normal s) (cross (normal e.side) t)) (turned_down s e is t runs m on on_side)
        where
          off : (x : ℤ) → x <ℤ pos 0 → x ≢ pos 0
          off x h e = omega (arith, ints)

      cases : (a b : Point) → value s a ≡ pos 0 → value s b ≡ pos 0 → value e.side a ≡ pos 0 → value e.side b ≡ pos 0 → IsAfter t a b ⊎ (IsSamePoint a b ⊎ IsAfter t b a)
      cases a b sa sb ea eb = line_cases s e.side t a b apart sa sb ea eb

      -- a corner comes before m or after it
      at_m : (c : C) → In c → IsOnLine point s e c → IsAfter t (point c) m ⊎ IsAfter t m (point c)
      at_m c ic lc = elim (cases (point c) m lc.0 on lc.1 on_side) [
        | inl before ↦ inl before
        | inr (inl same) ↦ absurd (clear c ic lc (after_same t (point u) m (point c) im (points c ic) (same_turned (point c) m same) um) (before_same t m (point c) (point v) im (points c ic) (same_turned (point c) m same) mv))
        | inr (inr after) ↦ inr after
      ]

      abbrev low : C → Bool
      low c = int_lt (pos 0) (dot (way_between (point c) m) t)

      low_true : (c : C) → IsAfter t (point c) m → low c ≡ true
      low_true c h = above_test (dot (way_between (point c) m) t) (low c) refl h

      low_false : (c : C) → IsAfter t m (point c) → low c ≡ false
      low_false c h = not_true (low c) (λ e. after_once t (point c) m (above (dot (way_between (point c) m) t) e) h)

      after_low : (c : C) → In c → IsOnLine point s e c → low c ≡ false → IsAfter t m (point c)
      after_low c ic lc h = elim (at_m c ic lc) [
        | inl before ↦ absurd (true≢false (sym (low_true c before) ∙ h))
        | inr after ↦ after
      ]

      -- a pair of the chain goes from u to v exactly where m is passed
      pair_flag : (p : C × C) → In p.0 → In p.1 → IsOnLine point s e p.0 → IsOnLine point s e p.1 → IsClear point In s e p → goes_pair eq u v p ≡ changes low p
      pair_flag p ia ib la lb none = same_flag (goes_pair eq u v p) (changes low p) forth back
        where
          forth : goes_pair eq u v p ≡ true → changes low p ≡ true
          forth h =
              let b = both (eq p.0 u) (eq p.1 v) h in
              joined (low p.0) (not (low p.1)) (low_true p.0 (subst (λ c. IsAfter t (point c) m) (sym ((decides p.0 u).0 b.0)) um))
              (ap not (low_false p.1 (subst (λ c. IsAfter t m (point c)) (sym ((decides p.1 v).0 b.1)) mv)))

          back : changes low p ≡ true → goes_pair eq u v p ≡ true
          back h =
              let b = both (low p.0) (not (low p.1)) h in
              let before : IsAfter t (point p.0) m = above (dot (way_between (point p.0) m) t) b.0 in
              let after : IsAfter t m (point p.1) = after_low p.1 ib lb (from_not (low p.1) b.1) in
              let between : (d : C) → In d → IsOnLine point s e d → IsAfter t (point p.0) (point d) → IsAfter t (point d) (point p.1) → ⊥ = λ d idd ld x y. none d idd ld
              (edge_along s e is true t (point p.0) (point d) own runs la.0 ld.0 la.1 ld.1 x) (edge_along s e is true t (point d) (point p.1) own runs ld.0 lb.0 ld.1 lb.1 y) in
              let first : p.0 ≡ u = elim (cases (point p.0) (point u) la.0 lu.0 la.1 lu.1) [
                | inl early ↦ absurd (between u iu lu early (after_trans t (point u) m (point p.1) (points u iu) im (points p.1 ib) um after))
                | inr (inl same) ↦ distinct p.0 u ia iu same
                | inr (inr late) ↦ absurd (clear p.0 ia la late (after_trans t (point p.0) m (point v) (points p.0 ia) im (points v iv) before mv))
              ] in
              let second : p.1 ≡ v = elim (cases (point p.1) (point v) lb.0 lv.0 lb.1 lv.1) [
                | inl early ↦ absurd (clear p.1 ib lb (after_trans t (point u) m (point p.1) (points u iu) im (points p.1 ib) um after) early)
                | inr (inl same) ↦ distinct p.1 v ib iv same
                | inr (inr late) ↦ absurd (between v iv lv (after_trans t (point p.0) m (point v) (points p.0 ia) im (points v iv) before mv) late)
              ] in
              joined (eq p.0 u) (eq p.1 v) ((decides p.0 u).1 first) ((decides p.1 v).1 second)

      -- v follows u once where the edge passes m, and else never
      pub forward_count : (c : C) (cs : List C) → IsCut point In s e c cs → follows eq u v c cs ≡ cond (passes s m e) 1 0
      forward_count c cs cut =
          count_same (goes_pair eq u v) (changes low) (pairs_from c cs) (flags (pairs_from c cs) (each_pairs In c cs cut.corners) (each_pairs (IsOnLine point s e) c cs cut.on_line) cut.complete)
          ∙ count_changes low c cs (rises (pairs_from c cs) (each_pairs In c cs cut.corners) (each_pairs (IsOnLine point s e) c cs cut.on_line) cut.rising)
          ∙ ap (λ b. cond b 1 0) (same_flag (low c && not (low (last_from c cs))) (passes s m e) forth back)
        where
          flags : (ps : List (C × C)) → Each (λ p. In p.0 × In p.1) ps → Each (λ p. IsOnLine point s e p.0 × IsOnLine point s e p.1) ps → Each (IsClear point In s e) ps → Each (λ p. goes_pair eq u v p ≡ changes low p) ps
          flags [] a b d = tt
          flags (p ∷ ps) a b d = (pair_flag p a.0.0 a.0.1 b.0.0 b.0.1 d.0, flags ps a.1 b.1 d.1)

          rises : (ps : List (C × C)) → Each (λ p. In p.0 × In p.1) ps → Each (λ p. IsOnLine point s e p.0 × IsOnLine point s e p.1) ps → Each (λ p. IsAfter (way_of e) (point p.0) (point p.1)) ps → Each (λ p. low p.1 ≡ true → low p.0 ≡ true) ps
          rises [] a b d = tt
          rises (p ∷ ps) a b d = (
            λ h. low_true p.0 (after_trans t (point p.0) (point p.1) m (points p.0 a.0.0) (points p.1 a.0.1) im (along_edge s e is true t (point p.0) (point p.1) own runs b.0.0.0 b.0.1.0 b.0.0.1 b.0.1.1 d.0) (above (dot (way_between (point p.1) m) t) h)),
            rises ps a.1 b.1 d.1,
          )

          last_in : In (last_from c cs)
          last_in = each_last In c cs cut.corners

          forth : (low c && not (low (last_from c cs))) ≡ true → passes s m e ≡ true
          forth h =
              let b = both (low c) (not (low (last_from c cs))) h in
              inside_passes s m e (record {
                on = on;
                on_side = on_side;
                after_start = start_before s e is t runs m on on_side (before_same t (point c) e.start m (points c cut.corners.0) is.start_point (same_turned e.start (point c) cut.starts) (above (dot (way_between (point c) m) t) b.0));
                before_end = end_after s e is t runs m on on_side (after_same t m (point (last_from c cs)) e.end (points (last_from c cs) last_in) is.end_point (same_turned e.end (point (last_from c cs)) cut.ends) (after_low (last_from c cs) last_in (each_last (IsOnLine point s e) c cs cut.on_line) (from_not (low (last_from c cs)) b.1)));
              })

          back : passes s m e ≡ true → (low c && not (low (last_from c cs))) ≡ true
          back h =
              let inside = passes_inside s m e h in
              joined (low c) (not (low (last_from c cs)))
              (low_true c (before_same t e.start (point c) m is.start_point (points c cut.corners.0) cut.starts (after_start s e is t runs m on on_side inside.after_start)))
              (ap not (low_false (last_from c cs) (after_same t m e.end (point (last_from c cs)) is.end_point (points (last_from c cs) last_in) cut.ends (before_end s e is t runs m on on_side inside.before_end))))

      -- and u never follows v
      pub backward_count : (c : C) (cs : List C) → IsCut point In s e c cs → follows eq v u c cs ≡ 0
      backward_count c cs cut = count_none (goes_pair eq v u) (pairs_from c cs) (none (pairs_from c cs) (each_pairs (IsOnLine point s e) c cs cut.on_line) cut.rising)
        where
          none : (ps : List (C × C)) → Each (λ p. IsOnLine point s e p.0 × IsOnLine point s e p.1) ps → Each (λ p. IsAfter (way_of e) (point p.0) (point p.1)) ps → Each (λ p. goes_pair eq v u p ≡ false) ps
          none [] b d = tt
          none (p ∷ ps) b d = (
            not_true (goes_pair eq v u p) (λ h.
                let q = both (eq p.0 v) (eq p.1 u) h in
                let up : IsAfter t (point p.0) (point p.1) = along_edge s e is true t (point p.0) (point p.1) own runs b.0.0.0 b.0.1.0 b.0.0.1 b.0.1.1 d.0 in
                after_once t (point u) (point v) (after_trans t (point u) m (point v) (points u iu) im (points v iv) um mv) (subst (λ x. IsAfter t x (point u)) (ap point ((decides p.0 v).0 q.0)) (subst (λ x. IsAfter t (point p.0) x) (ap point ((decides p.1 u).0 q.1)) up))),
            none ps b.1 d.1,
          )
