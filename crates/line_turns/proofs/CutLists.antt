-- An edge is cut at every corner on it where its chain is a stretch of the list of all corners on its line, in order.
use Rattle.std.proofs.Common.{◌≡◌, ◌≢◌, inl, inr, List, [], ◌∷◌, ◌++◌, reverse, ℤ, pos, neg_ℤ, ◌-ℤ◌, ◌*ℤ◌, ◌<ℤ◌, refl, sym, ◌∙◌, subst, arith}
use Rattle.std.proofs.lemmas.Int.{ints}
use Rattle.std.proofs.lemmas.List.{reverse-append}
use Rattle.spec_space.specs.declared.Vector.{Vector}
use Rattle.spec_space.specs.declared.Point.{Point}
use Rattle.spec_space.specs.declared.Plane.{Plane}
use Rattle.spec_space.specs.Points.{cross, dot, normal, value, way_between}
use Rattle.integer_laws.proofs.Ring.{var, neg, ◌⊗◌, ◌⊖◌, ring}
use Rattle.spec_space.specs.Sums.{IsSamePoint}
use Rattle.convex_cycles.specs.Cycles.{Step, IsEdgeOf}
use Rattle.convex_cycles.proofs.Lists.{Each, EachPair, Member, each_member, each_split, each_append, each_from_members}
use Rattle.line_turns.proofs.Orders.{LeadsOf}
use Rattle.line_turns.proofs.Dets.{dete}
use Rattle.line_turns.proofs.Along.{dot_swapped, own_way, turned_down, after_turned}
use Rattle.line_turns.proofs.Between.{IsAfter}
use Rattle.line_turns.proofs.Chains.{pairs_from, last_from, each_pairs, IsOnLine, IsClear, IsCut}
use Rattle.line_turns.proofs.Rising.{IsBefore, AreOneWay, rising_after, after_rising, one_way, same_way, leads_with, none_between}
use Rattle.line_turns.proofs.Runs.{way_of, way_on}

-- ---- stretches of lists
-- each item with the one that follows it
abbrev pub next_pairs : {C : Type 0} → List C → List (C × C)
next_pairs [] = []
next_pairs (x ∷ xs) = pairs_from x xs

pairs_left : {C : Type 0} (p : C × C) (x : C) (xs ys : List C) → Member p (pairs_from x xs) → Member p (pairs_from x (xs ++ ys))
pairs_left p x [] ys m = absurd m
pairs_left p x (z ∷ zs) ys (inl same) = inl same
pairs_left p x (z ∷ zs) ys (inr m) = inr (pairs_left p z zs ys m)

pairs_right : {C : Type 0} (p : C × C) (x : C) (xs ys : List C) → Member p (next_pairs ys) → Member p (pairs_from x (xs ++ ys))
pairs_right p x [] [] m = absurd m
pairs_right p x [] (y ∷ ys) m = inr m
pairs_right p x (z ∷ zs) ys m = inr (pairs_right p z zs ys m)

-- the pairs of a stretch are pairs of the list
pub stretch_pairs : {C : Type 0} (p : C × C) (xs : List C) (c : C) (cs ys : List C) → Member p (pairs_from c cs) → Member p (next_pairs (xs ++ ((c ∷ cs) ++ ys)))
stretch_pairs p [] c cs ys m = pairs_left p c cs ys m
stretch_pairs p (x ∷ xs) c cs ys m = pairs_right p x xs ((c ∷ cs) ++ ys) (pairs_left p c cs ys m)

pub pair_split : {X : Type 0} (R : X → X → Type 0) (xs ys : List X) → EachPair R (xs ++ ys) → EachPair R xs × EachPair R ys
pair_split R [] ys e = (tt, e)
pair_split R (x ∷ xs) ys e = let r = pair_split R xs ys e.1 in (((each_split (R x) xs ys e.0).0, r.0), r.1)

pub each_next : {X : Type 0} (R : X → X → Type 0) (c : X) (cs : List X) → EachPair R (c ∷ cs) → Each (λ p. R p.0 p.1) (pairs_from c cs)
each_next R c [] e = tt
each_next R c (d ∷ ds) e = (e.0.0, each_next R d ds e.1)

between_pairs : {C : Type 0} (R : C → C → Type 0) → ((x y : C) → R x y → R y x → ⊥) → (cs : List C) → EachPair R cs → (p : C × C) → Member p (next_pairs cs) → (d : C) → Member d cs → R p.0 d → R d p.1 → ⊥
between_pairs R once [] e p mp d md = absurd md
between_pairs R once (c ∷ cs) e p mp d md = none_between R once c cs e p mp d md

pair_push : {X : Type 0} (R : X → X → Type 0) (xs : List X) (y : X) → EachPair R xs → Each (λ x. R x y) xs → EachPair R (xs ++ y ∷ [])
pair_push R [] y e h = (tt, tt)
pair_push R (x ∷ xs) y e h = (each_append (R x) xs (y ∷ []) e.0 (h.0, tt), pair_push R xs y e.1 h.1)

each_reversed : {X : Type 0} (P : X → Type 0) (xs : List X) → Each P xs → Each P (reverse xs)
each_reversed P [] e = tt
each_reversed P (x ∷ xs) e = subst (Each P) (sym (reverse-append (x ∷ []) xs)) (each_append P (reverse xs) (x ∷ []) (each_reversed P xs e.1) (e.0, tt))

-- an order, turned round, is that of the list turned round
pub pair_reverse : {X : Type 0} (R : X → X → Type 0) (xs : List X) → EachPair R xs → EachPair (λ x y. R y x) (reverse xs)
pair_reverse R [] e = tt
pair_reverse R (x ∷ xs) e = subst (EachPair (λ x y. R y x)) (sym (reverse-append (x ∷ []) xs)) (pair_push (λ x y. R y x) (reverse xs) x (pair_reverse R xs e.1) (each_reversed (R x) xs e.0))

-- ---- the order of corners
level_up : (x y : ℤ) → x ≡ pos 0 → y ≡ neg_ℤ x → pos 0 <ℤ y → ⊥
level_up x y z e h = omega (arith, ints)

both_up : (x y : ℤ) → y ≡ neg_ℤ x → pos 0 <ℤ x → pos 0 <ℤ y → ⊥
both_up x y e h k = omega (arith, ints)

level_too : (x y : ℤ) → y ≡ neg_ℤ x → y ≡ pos 0 → pos 0 <ℤ x → ⊥
level_too x y e h k = omega (arith, ints)

leads_once : (x y z u v w : ℤ) → u ≡ neg_ℤ x → v ≡ neg_ℤ y → w ≡ neg_ℤ z → LeadsOf x y z → LeadsOf u v w → ⊥
leads_once x y z u v w eu ev ew (inl a) (inl b) = both_up x u eu a b
leads_once x y z u v w eu ev ew (inl a) (inr b) = level_too x u eu b.0 a
leads_once x y z u v w eu ev ew (inr a) (inl b) = level_up x u a.0 eu b
leads_once x y z u v w eu ev ew (inr (a, inl h)) (inr (b, inl k)) = both_up y v ev h k
leads_once x y z u v w eu ev ew (inr (a, inl h)) (inr (b, inr k)) = level_too y v ev k.0 h
leads_once x y z u v w eu ev ew (inr (a, inr h)) (inr (b, inl k)) = level_up y v h.0 ev k
leads_once x y z u v w eu ev ew (inr (a, inr h)) (inr (b, inr k)) = both_up z w ew h.1 k.1

turned_difference : (x y : ℤ) → y -ℤ x ≡ neg_ℤ (x -ℤ y)
turned_difference x y = omega (arith, ints)

pub before_once : (a b : Point) → IsBefore a b → IsBefore b a → ⊥
before_once a b h k = leads_once (way_between a b).x (way_between a b).y (way_between a b).z (way_between b a).x (way_between b a).y (way_between b a).z
    (turned_difference (b.x *ℤ a.w) (a.x *ℤ b.w)) (turned_difference (b.y *ℤ a.w) (a.y *ℤ b.w)) (turned_difference (b.z *ℤ a.w) (a.z *ℤ b.w)) h k

-- ---- along an edge whose end comes before its start
flipped : (s e : Vector) (a b : Point) → dot s (cross e (way_between b a)) ≡ neg_ℤ (dot s (cross e (way_between a b)))
flipped s e a b = ring (s.x ∷ (s.y ∷ (s.z ∷ (e.x ∷ (e.y ∷ (e.z ∷ (a.x ∷ (a.y ∷ (a.z ∷ (a.w ∷ (b.x ∷ (b.y ∷ (b.z ∷ (b.w ∷ []))))))))))))))
    (dete (var 0) (var 1) (var 2) (var 3) (var 4) (var 5) (var 6 ⊗ var 13 ⊖ var 10 ⊗ var 9) (var 7 ⊗ var 13 ⊖ var 11 ⊗ var 9) (var 8 ⊗ var 13 ⊖ var 12 ⊗ var 9))
    (neg (dete (var 0) (var 1) (var 2) (var 3) (var 4) (var 5) (var 10 ⊗ var 9 ⊖ var 6 ⊗ var 13) (var 11 ⊗ var 9 ⊖ var 7 ⊗ var 13) (var 12 ⊗ var 9 ⊖ var 8 ⊗ var 13))) refl

module _ (s : Plane) (e : Step) (is : IsEdgeOf s e) where
  back_some : pos 0 <ℤ dot (way_between e.end e.start) (way_between e.end e.start)
  back_some = subst (λ x. pos 0 <ℤ x) (sym (after_turned e.end e.start e.start e.end)) (own_way s e is)

  ways_back : (c d : Point) → value s c ≡ pos 0 → value s d ≡ pos 0 → value e.side c ≡ pos 0 → value e.side d ≡ pos 0 → AreOneWay (way_between e.end e.start) (way_between d c)
  ways_back c d sc sd ec ed = one_way (normal s) (normal e.side) (way_between e.end e.start) (way_between d c)
      (off (dot (normal s) (cross (normal e.side) (way_of e))) (dot (normal s) (cross (normal e.side) (way_between e.end e.start))) (flipped (normal s) (normal e.side) e.start e.end) (turned_down s e is (way_of e) (own_way s e is) e.start is.start_on is.start_side))
      (way_on s e.end e.start is.end_on is.start_on) (way_on e.side e.end e.start is.end_side is.start_side) (way_on s d c sd sc) (way_on e.side d c ed ec)
    where
      off : (x y : ℤ) → y ≡ neg_ℤ x → x <ℤ pos 0 → y ≢ pos 0
      off x y e h z = omega (arith, ints)

  pub falling_after : (c d : Point) → value s c ≡ pos 0 → value s d ≡ pos 0 → value e.side c ≡ pos 0 → value e.side d ≡ pos 0 → IsBefore e.end e.start → IsBefore d c → IsAfter (way_of e) c d
  falling_after c d sc sd ec ed down h = subst (λ x. pos 0 <ℤ x) (sym (after_turned c d e.end e.start ∙ dot_swapped (way_between d c) (way_between e.end e.start)))
      (same_way (way_between e.end e.start) (way_between d c) (ways_back c d sc sd ec ed) back_some down h)

  pub after_falling : (c d : Point) → value s c ≡ pos 0 → value s d ≡ pos 0 → value e.side c ≡ pos 0 → value e.side d ≡ pos 0 → IsBefore e.end e.start → IsAfter (way_of e) c d → IsBefore d c
  after_falling c d sc sd ec ed down h = leads_with (way_between e.end e.start) (way_between d c) (ways_back c d sc sd ec ed) back_some down
      (subst (λ x. pos 0 <ℤ x) (after_turned c d e.end e.start ∙ dot_swapped (way_between d c) (way_between e.end e.start)) h)

-- ---- a stretch of the corners on a line
module _ {C : Type 0} (point : C → Point) (In : C → Type 0) (s : Plane) (e : Step) (is : IsEdgeOf s e) where
  -- the list has all corners on the edge's line and no others
  pub record AreOnLine (line : List C) : Type 0 where
    pub given : Each (λ d. In d × IsOnLine point s e d) line
    pub all : (d : C) → In d → IsOnLine point s e d → Member d line

  cut_by : (R : C → C → Type 0) → ((c d : C) → R c d → R d c → ⊥)
      → ((c d : C) → IsOnLine point s e c → IsOnLine point s e d → R c d → IsAfter (way_of e) (point c) (point d)) → ((c d : C) → IsOnLine point s e c → IsOnLine point s e d → IsAfter (way_of e) (point c) (point d) → R c d)
      → (line xs : List C) (c : C) (cs ys : List C) → line ≡ xs ++ ((c ∷ cs) ++ ys) → AreOnLine line → EachPair R line → IsSamePoint e.start (point c) → IsSamePoint e.end (point (last_from c cs)) → IsCut point In s e c cs
  cut_by R once forth back line xs c cs ys split on order starts ends =
      let given = (each_split (λ d. In d × IsOnLine point s e d) (c ∷ cs) ys (each_split (λ d. In d × IsOnLine point s e d) xs ((c ∷ cs) ++ ys) (subst (Each (λ d. In d × IsOnLine point s e d)) split on.given)).1).0 in
      let ordered = (pair_split R (c ∷ cs) ys (pair_split R xs ((c ∷ cs) ++ ys) (subst (EachPair R) split order)).1).0 in
      let lines = each_pairs (IsOnLine point s e) c cs (seconds (c ∷ cs) given) in
      record {
        starts = starts;
        ends = ends;
        corners = firsts (c ∷ cs) given;
        on_line = seconds (c ∷ cs) given;
        rising = each_from_members (λ p. IsAfter (way_of e) (point p.0) (point p.1)) (pairs_from c cs) (λ p mp. let l = each_member (λ p. IsOnLine point s e p.0 × IsOnLine point s e p.1) p (pairs_from c cs) mp lines in forth p.0 p.1 l.0 l.1 (each_member (λ p. R p.0 p.1) p (pairs_from c cs) mp (each_next R c cs ordered)));
        complete = each_from_members (IsClear point In s e) (pairs_from c cs) (λ p mp d id ld x y.
            let l = each_member (λ p. IsOnLine point s e p.0 × IsOnLine point s e p.1) p (pairs_from c cs) mp lines in
            between_pairs R once line order p (subst (λ zs. Member p (next_pairs zs)) (sym split) (stretch_pairs p xs c cs ys mp)) d (on.all d id ld) (back p.0 d l.0 ld x) (back d p.1 ld l.1 y));
      }
    where
      firsts : (ds : List C) → Each (λ d. In d × IsOnLine point s e d) ds → Each In ds
      firsts [] h = tt
      firsts (d ∷ ds) h = (h.0.0, firsts ds h.1)

      seconds : (ds : List C) → Each (λ d. In d × IsOnLine point s e d) ds → Each (IsOnLine point s e) ds
      seconds [] h = tt
      seconds (d ∷ ds) h = (h.0.1, seconds ds h.1)

  -- for an edge whose start comes before its end, with the corners rising
  pub cut_rising : (line xs : List C) (c : C) (cs ys : List C) → line ≡ xs ++ ((c ∷ cs) ++ ys) → AreOnLine line → EachPair (λ a b. IsBefore (point a) (point b)) line
      → IsBefore e.start e.end → IsSamePoint e.start (point c) → IsSamePoint e.end (point (last_from c cs)) → IsCut point In s e c cs
  cut_rising line xs c cs ys split on order up starts ends = cut_by (λ a b. IsBefore (point a) (point b)) (λ a b h k. before_once (point a) (point b) h k)
      (λ a b la lb h. rising_after s e is (point a) (point b) la.0 lb.0 la.1 lb.1 up h) (λ a b la lb h. after_rising s e is (point a) (point b) la.0 lb.0 la.1 lb.1 up h)
      line xs c cs ys split on order starts ends

  -- for an edge whose end comes before its start, with the corners falling
  pub cut_falling : (line xs : List C) (c : C) (cs ys : List C) → line ≡ xs ++ ((c ∷ cs) ++ ys) → AreOnLine line → EachPair (λ a b. IsBefore (point b) (point a)) line
      → IsBefore e.end e.start → IsSamePoint e.start (point c) → IsSamePoint e.end (point (last_from c cs)) → IsCut point In s e c cs
  cut_falling line xs c cs ys split on order down starts ends = cut_by (λ a b. IsBefore (point b) (point a)) (λ a b h k. before_once (point b) (point a) h k)
      (λ a b la lb h. falling_after s e is (point a) (point b) la.0 lb.0 la.1 lb.1 down h) (λ a b la lb h. after_falling s e is (point a) (point b) la.0 lb.0 la.1 lb.1 down h)
      line xs c cs ys split on order starts ends
