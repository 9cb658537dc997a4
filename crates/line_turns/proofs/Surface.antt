-- THE LAW OF THE SURFACE: where the pieces of planes show a value that its sides of these planes tell, and their edges are
-- cut at every corner, each corner follows another one as often as the other way round.
use Rattle.std.proofs.Common.{◌≡◌, ◌≢◌, ◌⊎◌, inl, inr, ◌↔◌, ◌+◌, ◌≤◌, ◌&&◌, cond, Bool, true, false, not, List, [], ◌∷◌, Option, map, ℕ, ℤ, pos, ◌+ℤ◌, ◌-ℤ◌, ◌*ℤ◌, ◌<ℤ◌, refl, sym, ap, ap₂, ◌∙◌, subst, arith, true≢false, Decides}
use Rattle.std.specs.List.{count_by, sum_by}
use Rattle.std.proofs.lemmas.Int.{ints}
use Rattle.std.proofs.lemmas.List.Sums.{sum_by-cons}
use Rattle.spec_space.specs.declared.Vector.{Vector}
use Rattle.spec_space.specs.declared.Point.{Point}
use Rattle.spec_space.specs.declared.Plane.{Plane}
use Rattle.spec_space.specs.Points.{IsPoint, dot, value, way_between}
use Rattle.integer_laws.proofs.Ring.{var, ◌⊕◌, ◌⊗◌, ◌⊖◌, ring}
use Rattle.integer_laws.proofs.Signs.{mul_positive}
use Rattle.integer_laws.proofs.Products.{cancel_zero, zero_right}
use Rattle.spec_space.specs.Sums.{IsSamePoint}
use Rattle.plane_core.specs.Views.{plane_of}
use Rattle.plane_core.specs.declared.numbers.Plane.{Plane as BookPlane}
use Rattle.convex_cycles.specs.Cycles.{Step, AreConvex}
use Rattle.convex_cycles.proofs.Lists.{Each, EachPair, Member, member_map, each_member, each_from_members, each_weaker, each_both}
use Rattle.convex_cycles.proofs.Links.{sides}
use Rattle.convex_cycles.proofs.Reaches.{reach_positive, positive_number}
use Rattle.line_turns.proofs.Along.{own_way, dot_swapped, some_from, edge_along}
use Rattle.line_turns.proofs.Balance.{IsPieceNear, edge_at, line_balance}
use Rattle.line_turns.proofs.Between.{IsAfter, between, between-value, between-IsPoint, between_on, between_after, between_before, between_each, beyond, after_same, before_same, most, most_each, round_far, round_far_each, all_far, parts}
use Rattle.line_turns.proofs.Bundles.{direction}
use Rattle.line_turns.proofs.Chains.{follows, goes_pair, pairs_from, IsCut, IsOnLine, IsClear, each_pairs}
use Rattle.line_turns.proofs.Lines.{Holds, book_leads}
use Rattle.line_turns.proofs.Near.{IsNear, near_each}
use Rattle.line_turns.proofs.Neighbours.{neighbour, strictly_off, side_of}
use Rattle.line_turns.proofs.Orders.{leads_square}
use Rattle.line_turns.proofs.Pieces.{edge_is}
use Rattle.line_turns.proofs.Places as L
use Rattle.line_turns.proofs.Places.{Parts, IsToldBy, normal_of, place, place-IsPoint, place_on, place_off_through, place_strictly}
use Rattle.line_turns.proofs.Runs.{way_of, way_on}
use Rattle.line_turns.proofs.Steps.{AreNext, piece_counts, sum_same}
use Rattle.line_turns.proofs.Tallies.{ShowTurns, goes, same}

both : (b c : Bool) → (b && c) ≡ true → (b ≡ true) × (c ≡ true)
both true c e = (refl, e)
both false c e = absurd (true≢false (sym e))

-- ---- what a sum that is not 0 has
count_find : {X : Type 0} (p : X → Bool) (xs : List X) → (count_by p xs ≡ 0) ⊎ ((x : X) × Member x xs × (p x ≡ true))
count_find p [] = inl refl
count_find p (x ∷ xs) = head (p x) refl (count_find p xs)
  where
    head : (b : Bool) → p x ≡ b → (count_by p xs ≡ 0) ⊎ ((y : _) × Member y xs × (p y ≡ true)) → (count_by p (x ∷ xs) ≡ 0) ⊎ ((y : _) × Member y (x ∷ xs) × (p y ≡ true))
    head true e rest = inr (x, inl refl, e)
    head false e (inr r) = inr (r.0, inr r.1, r.2)
    head false e (inl none) = inl (sum_by-cons (λ y. cond (p y) 1 0) x xs ∙ ap₂ (λ m n. m + n) (ap (λ b. cond b 1 0) e) none)

sum_find : {X R : Type 0} (f : X → ℕ) (xs : List X) → ((x : X) → Member x xs → (f x ≡ 0) ⊎ R) → (sum_by f xs ≡ 0) ⊎ R
sum_find f [] h = inl refl
sum_find f (x ∷ xs) h = elim (h x (inl refl)) [
  | inr r ↦ inr r
  | inl none ↦ elim (sum_find f xs (λ y m. h y (inr m))) [
    | inr r ↦ inr r
    | inl rest ↦ inl (sum_by-cons f x xs ∙ ap₂ (λ m n. m + n) none rest)
  ]
]

-- ---- one place
same_value : (h : Plane) (a b : Point) → IsSamePoint a b → a.w *ℤ value h b ≡ b.w *ℤ value h a
same_value h a b s =
    outer a.w h.a h.b h.c h.d b.x b.y b.z b.w
    ∙ ap₂ (λ u v. u -ℤ v) (ap₂ (λ u v. u +ℤ v) (ap₂ (λ u v. u +ℤ v) (ap (λ k. h.a *ℤ k) (sym s.same_x)) (ap (λ k. h.b *ℤ k) (sym s.same_y))) (ap (λ k. h.c *ℤ k) (sym s.same_z))) refl
    ∙ inner b.w h.a h.b h.c h.d a.x a.y a.z a.w
  where
    outer : (k a b c d x y z w : ℤ) → k *ℤ (a *ℤ x +ℤ b *ℤ y +ℤ c *ℤ z -ℤ d *ℤ w) ≡ a *ℤ (x *ℤ k) +ℤ b *ℤ (y *ℤ k) +ℤ c *ℤ (z *ℤ k) -ℤ d *ℤ (w *ℤ k)
    outer k a b c d x y z w = ring (k ∷ (a ∷ (b ∷ (c ∷ (d ∷ (x ∷ (y ∷ (z ∷ (w ∷ [])))))))))
        (var 0 ⊗ (var 1 ⊗ var 5 ⊕ var 2 ⊗ var 6 ⊕ var 3 ⊗ var 7 ⊖ var 4 ⊗ var 8))
        (var 1 ⊗ (var 5 ⊗ var 0) ⊕ var 2 ⊗ (var 6 ⊗ var 0) ⊕ var 3 ⊗ (var 7 ⊗ var 0) ⊖ var 4 ⊗ (var 8 ⊗ var 0)) refl

    inner : (k a b c d x y z w : ℤ) → a *ℤ (x *ℤ k) +ℤ b *ℤ (y *ℤ k) +ℤ c *ℤ (z *ℤ k) -ℤ d *ℤ (k *ℤ w) ≡ k *ℤ (a *ℤ x +ℤ b *ℤ y +ℤ c *ℤ z -ℤ d *ℤ w)
    inner k a b c d x y z w = ring (k ∷ (a ∷ (b ∷ (c ∷ (d ∷ (x ∷ (y ∷ (z ∷ (w ∷ [])))))))))
        (var 1 ⊗ (var 5 ⊗ var 0) ⊕ var 2 ⊗ (var 6 ⊗ var 0) ⊕ var 3 ⊗ (var 7 ⊗ var 0) ⊖ var 4 ⊗ (var 0 ⊗ var 8))
        (var 0 ⊗ (var 1 ⊗ var 5 ⊕ var 2 ⊗ var 6 ⊕ var 3 ⊗ var 7 ⊖ var 4 ⊗ var 8)) refl

pub same_zero : (h : Plane) (a b : Point) → IsPoint a → IsSamePoint a b → value h a ≡ pos 0 → value h b ≡ pos 0
same_zero h a b ia s e = cancel_zero a.w (value h b) (off a.w ia) (same_value h a b s ∙ zero_right b.w (value h a) e)
  where
    off : (x : ℤ) → pos 0 <ℤ x → x ≢ pos 0
    off x h e = omega (arith, ints)

-- the point is strictly inside the room, on the plane x, and on no other plane of the list
pub record IsAloneOn (hs : List BookPlane) (walls : List Plane) (x : BookPlane) (p : Point) : Type 0 where
  pub is_point : IsPoint p
  pub in_room : Each (λ w. pos 0 <ℤ value w p) walls
  pub on : value (plane_of x) p ≡ pos 0
  pub off : (z : BookPlane) → Member z hs → x ≢ z → value (plane_of z) p ≢ pos 0

module _ {C Q : Type 0} (eq : C → C → Bool) (steps : Q → List Step) (chain : Q → Step → C × List C) where
  -- how often v follows u round a piece whose edges are cut, seen from the front
  abbrev pub round_count : C → C → Q → ℕ
  round_count u v q = sum_by (λ e. follows eq u v (chain q e).0 (chain q e).1) (steps q)

  -- and seen from outside
  abbrev pub face_count : (Q → Bool) → C → C → Q → ℕ
  face_count out u v q = cond (out q) (round_count u v q) (round_count v u q)

module _ {C Q : Type 0} (point : C → Point) (In : C → Type 0) (hs : List BookPlane) (walls : List Plane) (told : Point → Bool) (qs : List Q)
    (support : Q → BookPlane) (steps : Q → List Step) (out : Q → Bool) (inside : Q → Point → Bool) (chain : Q → Step → C × List C) where
  -- the pieces are convex, and show where the value differs across their planes: at a point alone on a plane, exactly one
  -- piece has it strictly inside if the values at its neighbours differ, and none otherwise; its front is outside where the
  -- front neighbour has not the value. Each edge is cut at every corner on it
  pub record AreFaces : Type 0 where
    pub different : EachPair (λ h k. h ≢ k) hs
    pub told_by : IsToldBy hs told
    pub points : (c : C) → In c → IsPoint (point c)
    pub distinct : (c d : C) → In c → In d → IsSamePoint (point c) (point d) → c ≡ d
    pub in_room : (c : C) → In c → Each (λ w. pos 0 <ℤ value w (point c)) walls
    pub of_list : (q : Q) → Member q qs → Member (support q) hs
    pub convex : (q : Q) → Member q qs → AreConvex (plane_of (support q)) (steps q)
    pub inside_is : (q : Q) (p : Point) → Member q qs → (inside q p ≡ true) ↔ ((value (plane_of (support q)) p ≡ pos 0) × Each (λ h. pos 0 <ℤ value h p) (sides (steps q)))
    pub cut : (q : Q) (e : Step) → Member q qs → Member e (steps q) → IsCut point In (plane_of (support q)) e (chain q e).0 (chain q e).1
    pub one : (x : BookPlane) (p : Point) → Member x hs → IsAloneOn hs walls x p → count_by (λ q. inside q p) qs ≡ cond (not (same (told (neighbour true (plane_of x) p)) (told (neighbour false (plane_of x) p)))) 1 0
    pub outward : (q : Q) (x : BookPlane) (p : Point) → Member q qs → Member x hs → IsAloneOn hs walls x p → inside q p ≡ true → out q ≡ not (told (neighbour true (plane_of x) p))

  module _ (eq : C → C → Bool) (decides : (a b : C) → Decides (eq a b) (a ≡ b)) (faces : AreFaces) where
    -- ---- two corners that are next to each other on a line
    module _ (u v : C) (iu : In u) (iv : In v) (next : AreNext point In u v) (line : pos 0 <ℤ dot (way_between (point u) (point v)) (way_between (point u) (point v))) where
      abbrev t : Vector
      t = way_between (point u) (point v)

      module _ (n : ℕ) (n_some : 1 ≤ n) (hs_far : beyond (point v) (map plane_of hs) ≤ n) (qs_far : Each (λ q. beyond (point v) (sides (steps q)) ≤ n) qs) where
        abbrev m : Point
        m = between n (point u) (point v)

        im : IsPoint m
        im = between-IsPoint n (point u) (point v) n_some (faces.points u iu) (faces.points v iv)

        um : IsAfter t (point u) m
        um = between_after n (point u) (point v) t line

        mv : IsAfter t m (point v)
        mv = between_before n (point u) (point v) t n_some line

        -- planes of the list, and sides of pieces, that hold m hold both corners
        held : (gs : List Plane) → beyond (point v) gs ≤ n → (h : Plane) → Member h gs → value h m ≡ pos 0 → (value h (point u) ≡ pos 0) × (value h (point v) ≡ pos 0)
        held gs large h mh = each_member (λ h. value h m ≡ pos 0 → (value h (point u) ≡ pos 0) × (value h (point v) ≡ pos 0)) h gs mh (between_each gs n (point u) (point v) large)

        plane_held : (x : BookPlane) → Member x hs → value (plane_of x) m ≡ pos 0 → (value (plane_of x) (point u) ≡ pos 0) × (value (plane_of x) (point v) ≡ pos 0)
        plane_held x mx = held (map plane_of hs) hs_far (plane_of x) (member_map plane_of x hs mx)

        side_held : (q : Q) (e : Step) → Member q qs → Member e (steps q) → value e.side m ≡ pos 0 → (value e.side (point u) ≡ pos 0) × (value e.side (point v) ≡ pos 0)
        side_held q e mq me = held (sides (steps q)) (each_member (λ q. beyond (point v) (sides (steps q)) ≤ n) q qs mq qs_far) e.side (member_map (λ e. e.side) e (steps q) me)

        line_parts : Parts m t hs
        line_parts = parts m t hs faces.different (each_from_members (λ h. value (plane_of h) m ≡ pos 0 → dot (normal_of h) t ≡ pos 0) hs (λ h mh e. let r = plane_held h mh e in way_on (plane_of h) (point u) (point v) r.0 r.1))

        m_in_room : Each (λ w. pos 0 <ℤ value w m) walls
        m_in_room = each_weaker (λ w. (pos 0 <ℤ value w (point u)) × (pos 0 <ℤ value w (point v))) (λ w. pos 0 <ℤ value w m)
            (λ w h. subst (λ x. pos 0 <ℤ x) (sym (between-value w n (point u) (point v))) (up (pos n *ℤ value w (point u)) (value w (point v)) (mul_positive (pos n) (value w (point u)) (positive_number n n_some) h.0) h.1))
            walls (each_both (λ w. pos 0 <ℤ value w (point u)) (λ w. pos 0 <ℤ value w (point v)) walls (faces.in_room u iu) (faces.in_room v iv))
          where
            up : (x y : ℤ) → pos 0 <ℤ x → pos 0 <ℤ y → pos 0 <ℤ (x +ℤ y)
            up x y h k = omega (arith, ints)

        -- m is no corner of a piece
        no_corner : (q : Q) (f : Step) → Member q qs → Member f (steps q) → IsSamePoint m f.start → ⊥
        no_corner q f mq mf s =
            let cut = faces.cut q f mq mf in
            let is = edge_is (plane_of (support q)) (steps q) (faces.convex q mq) f mf in
            next (chain q f).0 cut.corners.0
            (λ h hu hv. same_zero h f.start (point (chain q f).0) is.start_point cut.starts (same_zero h m f.start im s (between_on h n (point u) (point v) hu hv)))
            (after_same t (point u) f.start (point (chain q f).0) is.start_point (faces.points (chain q f).0 cut.corners.0) cut.starts (after_same t (point u) m f.start im is.start_point s um))
            (before_same t f.start (point (chain q f).0) (point v) is.start_point (faces.points (chain q f).0 cut.corners.0) cut.starts (before_same t m f.start (point v) im is.start_point s mv))

        module _ (p : Parts m t hs) (k : ℕ) (k_some : 1 ≤ k) (others_far : most (round_far t (map plane_of p.others)) p.through ≤ k) (walls_far : most (round_far t walls) p.through ≤ k) (pieces_far : most (λ q. round_far t (sides (steps q)) (support q)) qs ≤ k) where
          large : Each (L.IsFar m t k p.others) p.through
          large = all_far m t k p.through p.others others_far

          abbrev lies : Q → BookPlane → Bool → Bool
          lies q x s = inside q (place m t k x s)

          -- the places are strictly inside the room
          place_in_room : (x : BookPlane) (s : Bool) → Member x p.through → Each (λ w. pos 0 <ℤ value w (place m t k x s)) walls
          place_in_room x s mx = each_weaker (λ w. IsNear m (direction s (normal_of x) t) (place m t k x s) w × (pos 0 <ℤ value w m)) (λ w. pos 0 <ℤ value w (place m t k x s)) (λ w h. (h.0).front h.1) walls
              (each_both (IsNear m (direction s (normal_of x) t) (place m t k x s)) (λ w. pos 0 <ℤ value w m) walls (near_each walls k m (direction s (normal_of x) t) (round_far_each t walls x k (each_member (λ x. round_far t walls x ≤ k) x p.through mx (most_each (round_far t walls) p.through k walls_far)) s)) m_in_room)

          place_off : (x z : BookPlane) (s : Bool) → Member x p.through → Member z hs → x ≢ z → value (plane_of z) (place m t k x s) ≢ pos 0
          place_off x z s mx mz other = elim (p.either z mz) [
            | inl through ↦ place_off_through m t k x z s im line (each_member (λ h. Holds m t (plane_of h)) x p.through mx p.holds) (each_member (λ h. Holds m t (plane_of h)) z p.through through p.holds) other
            | inr others ↦
                let side = side_of (value (plane_of z) m) (each_member (λ h. value (plane_of h) m ≢ pos 0) z p.others others p.off) in
                strictly_off side.0 (value (plane_of z) (place m t k x s)) (place_strictly m t k p.others x z s side.0 (each_member (L.IsFar m t k p.others) x p.through mx large) others side.1)
          ]

          place_alone : (x : BookPlane) (s : Bool) → Member x p.through → IsAloneOn hs walls x (place m t k x s)
          place_alone x s mx = record {
            is_point = place-IsPoint m t k x s k_some im;
            in_room = place_in_room x s mx;
            on = place_on m t k x s (each_member (λ h. Holds m t (plane_of h)) x p.through mx p.holds);
            off = λ z mz other. place_off x z s mx mz other;
          }

          show : ShowTurns lies out (λ x s a. told (L.beside m t k x s a)) p.through qs
          show = record {
            one = λ x s mx. faces.one x (place m t k x s) (p.through_in x mx) (place_alone x s mx);
            outward = λ q x s mq mx h. faces.outward q x (place m t k x s) mq (p.through_in x mx) (place_alone x s mx) h;
          }

          near : (q : Q) → Member q qs → IsPieceNear m t k hs p im line k_some large support steps lies out q
          near q mq = record {
            of_tree = faces.of_list q mq;
            convex = faces.convex q mq;
            no_corner = λ f mf s. no_corner q f mq mf s;
            along = λ f mf e. let r = side_held q f mq mf e in way_on f.side (point u) (point v) r.0 r.1;
            far_enough = λ s. round_far_each t (sides (steps q)) (support q) k (each_member (λ q. round_far t (sides (steps q)) (support q) ≤ k) q qs mq (most_each (λ q. round_far t (sides (steps q)) (support q)) qs k pieces_far)) s;
            inside = λ x s mx. faces.inside_is q (place m t k x s) mq;
          }

          abbrev runs_at : Q → Option Bool
          runs_at q = edge_at (plane_of (support q)) m t (steps q)

          balanced : count_by (λ q. goes (runs_at q) (out q)) qs ≡ count_by (λ q. goes (runs_at q) (not (out q))) qs
          balanced = line_balance m t k hs p im line k_some large support steps lies out told faces.told_by qs near show

          counts : (q : Q) → Member q qs → (round_count eq steps chain u v q ≡ cond (goes (runs_at q) true) 1 0) × (round_count eq steps chain v u q ≡ cond (goes (runs_at q) false) 1 0)
          counts q mq = piece_counts eq decides point In faces.points faces.distinct u v iu iv next line n m refl im um mv (plane_of (support q)) (leads_square (normal_of (support q)) (book_leads (support q))) (steps q) (faces.convex q mq) (chain q) (λ e me. faces.cut q e mq me) (plane_held (support q) (faces.of_list q mq)) (λ e me. side_held q e mq me)

          seen : (o : Bool) (x y : ℕ) (g : Option Bool) → x ≡ cond (goes g true) 1 0 → y ≡ cond (goes g false) 1 0 → (cond o x y ≡ cond (goes g o) 1 0) × (cond o y x ≡ cond (goes g (not o)) 1 0)
          seen true x y g hx hy = (hx, hy)
          seen false x y g hx hy = (hy, hx)

          faces_balanced : sum_by (face_count eq steps chain out u v) qs ≡ sum_by (face_count eq steps chain out v u) qs
          faces_balanced =
              sum_same (face_count eq steps chain out u v) (λ q. cond (goes (runs_at q) (out q)) 1 0) qs (each_from_members (λ q. face_count eq steps chain out u v q ≡ cond (goes (runs_at q) (out q)) 1 0) qs (λ q mq. (seen (out q) (round_count eq steps chain u v q) (round_count eq steps chain v u q) (runs_at q) (counts q mq).0 (counts q mq).1).0))
              ∙ balanced
              ∙ sym (sum_same (face_count eq steps chain out v u) (λ q. cond (goes (runs_at q) (not (out q))) 1 0) qs (each_from_members (λ q. face_count eq steps chain out v u q ≡ cond (goes (runs_at q) (not (out q))) 1 0) qs (λ q mq. (seen (out q) (round_count eq steps chain u v q) (round_count eq steps chain v u q) (runs_at q) (counts q mq).0 (counts q mq).1).1)))

      next_balanced : sum_by (face_count eq steps chain out u v) qs ≡ sum_by (face_count eq steps chain out v u) qs
      next_balanced =
          with_n (beyond (point v) (map plane_of hs)) (most (λ q. beyond (point v) (sides (steps q))) qs) (reach_positive (λ (h : Plane). value h (point v)) (map plane_of hs))
          (λ n some h l. let p = line_parts n some h (most_each (λ q. beyond (point v) (sides (steps q))) qs n l) in
          with_k (most (round_far t (map plane_of p.others)) p.through) (most (round_far t walls) p.through) (most (λ q. round_far t (sides (steps q)) (support q)) qs)
          (λ k one a b c. faces_balanced n some h (most_each (λ q. beyond (point v) (sides (steps q))) qs n l) p k one a b c))
        where
          with_n : {G : Type 0} (a b : ℕ) → 1 ≤ a → ((n : ℕ) → 1 ≤ n → a ≤ n → b ≤ n → G) → G
          with_n a b h g = g (a + b) (omega arith) (omega arith) (omega arith)

          with_k : {G : Type 0} (a b c : ℕ) → ((k : ℕ) → 1 ≤ k → a ≤ k → b ≤ k → c ≤ k → G) → G
          with_k a b c g = g (1 + a + b + c) (omega arith) (omega arith) (omega arith) (omega arith)

    -- ---- any two corners
    -- what two corners are of which one follows the other
    pub record AreNeighbours (u v : C) : Type 0 where
      pub first_in : In u
      pub second_in : In v
      pub next : AreNext point In u v
      pub line : pos 0 <ℤ dot (way_between (point u) (point v)) (way_between (point u) (point v))

    neighbours : (q : Q) (e : Step) (u v : C) → Member q qs → Member e (steps q) → In u → In v → IsOnLine point (plane_of (support q)) e u → IsOnLine point (plane_of (support q)) e v
        → IsAfter (way_of e) (point u) (point v) → IsClear point In (plane_of (support q)) e (u, v) → AreNeighbours u v
    neighbours q e u v mq me iu iv lu lv after clear =
        let is = edge_is (plane_of (support q)) (steps q) (faces.convex q mq) e me in
        let runs : pos 0 <ℤ dot (way_of e) (way_between (point u) (point v)) = subst (λ x. pos 0 <ℤ x) (dot_swapped (way_between (point u) (point v)) (way_of e)) after in
        let own = own_way (plane_of (support q)) e is in
        record {
          first_in = iu;
          second_in = iv;
          line = some_from (way_of e) (way_between (point u) (point v)) runs;
          next = λ d id through x y.
              let sd = through (plane_of (support q)) lu.0 lv.0 in
              let ed = through e.side lu.1 lv.1 in
              clear d id (sd, ed)
              (edge_along (plane_of (support q)) e is true (way_between (point u) (point v)) (point u) (point d) own runs lu.0 sd lu.1 ed x)
              (edge_along (plane_of (support q)) e is true (way_between (point u) (point v)) (point d) (point v) own runs sd lv.0 ed lv.1 y);
        }

    -- a corner follows another one nowhere on an edge, or they are neighbours
    step_find : (q : Q) (e : Step) (u v : C) → Member q qs → Member e (steps q) → (follows eq u v (chain q e).0 (chain q e).1 ≡ 0) ⊎ AreNeighbours u v
    step_find q e u v mq me = elim (count_find (goes_pair eq u v) (pairs_from (chain q e).0 (chain q e).1)) [
      | inl none ↦ inl none
      | inr found ↦
          let cut = faces.cut q e mq me in
          let p = found.0 in
          let ends = both (eq found.0.0 u) (eq found.0.1 v) found.2 in
          let i = each_member (λ p. In p.0 × In p.1) found.0 (pairs_from (chain q e).0 (chain q e).1) found.1 (each_pairs In (chain q e).0 (chain q e).1 cut.corners) in
          let l = each_member (λ p. IsOnLine point (plane_of (support q)) e p.0 × IsOnLine point (plane_of (support q)) e p.1) found.0 (pairs_from (chain q e).0 (chain q e).1) found.1 (each_pairs (IsOnLine point (plane_of (support q)) e) (chain q e).0 (chain q e).1 cut.on_line) in
          let rising = each_member (λ p. IsAfter (way_of e) (point p.0) (point p.1)) found.0 (pairs_from (chain q e).0 (chain q e).1) found.1 cut.rising in
          let clear = each_member (IsClear point In (plane_of (support q)) e) found.0 (pairs_from (chain q e).0 (chain q e).1) found.1 cut.complete in
          inr (subst (λ w. AreNeighbours w v) ((decides found.0.0 u).0 ends.0) (subst (λ w. AreNeighbours found.0.0 w) ((decides found.0.1 v).0 ends.1) (neighbours q e found.0.0 found.0.1 mq me i.0 i.1 l.0 l.1 rising clear)))
    ]

    round_find : (q : Q) (u v : C) → Member q qs → (round_count eq steps chain u v q ≡ 0) ⊎ AreNeighbours u v
    round_find q u v mq = sum_find (λ e. follows eq u v (chain q e).0 (chain q e).1) (steps q) (λ e me. step_find q e u v mq me)

    face_find : (u v : C) (q : Q) → Member q qs → (face_count eq steps chain out u v q ≡ 0) ⊎ (AreNeighbours u v ⊎ AreNeighbours v u)
    face_find u v q mq = chosen (out q) (round_count eq steps chain u v q) (round_count eq steps chain v u q) (round_find q u v mq) (round_find q v u mq)
      where
        chosen : (o : Bool) (x y : ℕ) → (x ≡ 0) ⊎ AreNeighbours u v → (y ≡ 0) ⊎ AreNeighbours v u → (cond o x y ≡ 0) ⊎ (AreNeighbours u v ⊎ AreNeighbours v u)
        chosen true x y (inl none) h = inl none
        chosen true x y (inr r) h = inr (inl r)
        chosen false x y h (inl none) = inl none
        chosen false x y h (inr r) = inr (inr r)

    neighbours_balanced : (u v : C) → AreNeighbours u v → sum_by (face_count eq steps chain out u v) qs ≡ sum_by (face_count eq steps chain out v u) qs
    neighbours_balanced u v r = next_balanced u v r.first_in r.second_in r.next r.line

    -- over all faces, each seen from outside, v follows u as often as u follows v
    pub surface_balance : (u v : C) → sum_by (face_count eq steps chain out u v) qs ≡ sum_by (face_count eq steps chain out v u) qs
    surface_balance u v = elim (sum_find (face_count eq steps chain out u v) qs (face_find u v)) [
      | inr (inl r) ↦ neighbours_balanced u v r
      | inr (inr r) ↦ sym (neighbours_balanced v u r)
      | inl none ↦ elim (sum_find (face_count eq steps chain out v u) qs (face_find v u)) [
        | inr (inl r) ↦ sym (neighbours_balanced v u r)
        | inr (inr r) ↦ neighbours_balanced u v r
        | inl also ↦ none ∙ sym also
      ]
    ]
