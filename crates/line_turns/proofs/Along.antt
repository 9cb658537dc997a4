-- The order of the points of a line, and the points inside an edge by this order.
use Rattle.std.proofs.Common.{◌≡◌, ◌≢◌, ◌⊎◌, inl, inr, Bool, true, false, [], ◌∷◌, ℤ, pos, neg_ℤ, ◌+ℤ◌, ◌-ℤ◌, ◌*ℤ◌, ◌<ℤ◌, refl, sym, ◌∙◌, subst, arith}
use Rattle.std.proofs.lemmas.Int.{ints}
use Rattle.spec_space.specs.declared.Vector.{Vector}
use Rattle.spec_space.specs.declared.Point.{Point}
use Rattle.spec_space.specs.declared.Plane.{Plane}
use Rattle.spec_space.specs.Points.{IsPoint, cross, dot, normal, value, way_between}
use Rattle.integer_laws.proofs.Ring.{var, neg, ◌⊕◌, ◌⊗◌, ◌⊖◌, ring, *ℤ_comm}
use Rattle.integer_laws.proofs.Signs.{mul_positive, mul_negative}
use Rattle.integer_laws.proofs.Products.{cancel_zero, zero_left, zero_right}
use Rattle.spec_space.specs.Sums.{IsSamePoint}
use Rattle.integer_laws.proofs.Cancel.{sign_cases, positive_right}
use Rattle.convex_cycles.specs.Cycles.{Step, IsEdgeOf, turn}
use Rattle.line_turns.proofs.Dets as D
use Rattle.line_turns.proofs.Orders.{vector_some}
use Rattle.line_turns.proofs.Bundles.{direction}
use Rattle.line_turns.proofs.Neighbours.{IsStrictly}
use Rattle.line_turns.proofs.Runs.{way_of, way-value, way_on, dual, runs_to_side, prev_up, negative_right}
use Rattle.line_turns.proofs.Between.{IsAfter, way_turned}

-- ---- the order
after_sum : (a b c : Point) (t : Vector) → b.w *ℤ dot (way_between a c) t ≡ c.w *ℤ dot (way_between a b) t +ℤ a.w *ℤ dot (way_between b c) t
after_sum a b c t = ring (a.x ∷ (a.y ∷ (a.z ∷ (a.w ∷ (b.x ∷ (b.y ∷ (b.z ∷ (b.w ∷ (c.x ∷ (c.y ∷ (c.z ∷ (c.w ∷ (t.x ∷ (t.y ∷ (t.z ∷ [])))))))))))))))
    (var 7 ⊗ ((var 8 ⊗ var 3 ⊖ var 0 ⊗ var 11) ⊗ var 12 ⊕ (var 9 ⊗ var 3 ⊖ var 1 ⊗ var 11) ⊗ var 13 ⊕ (var 10 ⊗ var 3 ⊖ var 2 ⊗ var 11) ⊗ var 14))
    (var 11 ⊗ ((var 4 ⊗ var 3 ⊖ var 0 ⊗ var 7) ⊗ var 12 ⊕ (var 5 ⊗ var 3 ⊖ var 1 ⊗ var 7) ⊗ var 13 ⊕ (var 6 ⊗ var 3 ⊖ var 2 ⊗ var 7) ⊗ var 14)
    ⊕ var 3 ⊗ ((var 8 ⊗ var 7 ⊖ var 4 ⊗ var 11) ⊗ var 12 ⊕ (var 9 ⊗ var 7 ⊖ var 5 ⊗ var 11) ⊗ var 13 ⊕ (var 10 ⊗ var 7 ⊖ var 6 ⊗ var 11) ⊗ var 14)) refl

pub after_trans : (t : Vector) (a b c : Point) → IsPoint a → IsPoint b → IsPoint c → IsAfter t a b → IsAfter t b c → IsAfter t a c
after_trans t a b c ha hb hc h k = positive_right b.w (dot (way_between a c) t) hb (subst (λ x. pos 0 <ℤ x) (sym (after_sum a b c t)) (up (c.w *ℤ dot (way_between a b) t) (a.w *ℤ dot (way_between b c) t) (mul_positive c.w (dot (way_between a b) t) hc h) (mul_positive a.w (dot (way_between b c) t) ha k)))
  where
    up : (x y : ℤ) → pos 0 <ℤ x → pos 0 <ℤ y → pos 0 <ℤ (x +ℤ y)
    up x y h k = omega (arith, ints)

pub after_once : (t : Vector) (a b : Point) → IsAfter t a b → IsAfter t b a → ⊥
after_once t a b h k = clash (dot (way_between a b) t) h (subst (λ x. pos 0 <ℤ x) (way_turned a b t) k)
  where
    clash : (x : ℤ) → pos 0 <ℤ x → pos 0 <ℤ neg_ℤ x → ⊥
    clash x h k = omega (arith, ints)

-- ---- a line in two planes
-- what is across three independent vectors is 0
across_none : (s e t d : Vector) (i : Vector) → dot s (cross e t) ≢ pos 0 → dot s d ≡ pos 0 → dot e d ≡ pos 0 → dot t d ≡ pos 0 → dot d i ≡ pos 0
across_none s e t d i some hs he ht = cancel_zero (dot s (cross e t)) (dot d i) some (dual s e t d i ∙ gone (dot e d *ℤ dot t (cross s i)) (dot t d *ℤ dot s (cross e i)) (dot s d *ℤ dot e (cross t i)) (zero_left (dot e d) (dot t (cross s i)) he) (zero_left (dot t d) (dot s (cross e i)) ht) (zero_left (dot s d) (dot e (cross t i)) hs))
  where
    gone : (x y z : ℤ) → x ≡ pos 0 → y ≡ pos 0 → z ≡ pos 0 → x +ℤ (y +ℤ z) ≡ pos 0
    gone x y z p q r = omega (arith, ints)

pub along_first : (x y z : ℤ) → x *ℤ pos 1 +ℤ y *ℤ pos 0 +ℤ z *ℤ pos 0 ≡ x
along_first x y z = omega (arith, ints)

pub along_second : (x y z : ℤ) → x *ℤ pos 0 +ℤ y *ℤ pos 1 +ℤ z *ℤ pos 0 ≡ y
along_second x y z = omega (arith, ints)

pub along_third : (x y z : ℤ) → x *ℤ pos 0 +ℤ y *ℤ pos 0 +ℤ z *ℤ pos 1 ≡ z
along_third x y z = omega (arith, ints)

pub dot_swapped : (a b : Vector) → dot a b ≡ dot b a
dot_swapped a b = ring (a.x ∷ (a.y ∷ (a.z ∷ (b.x ∷ (b.y ∷ (b.z ∷ [])))))) (var 0 ⊗ var 3 ⊕ var 1 ⊗ var 4 ⊕ var 2 ⊗ var 5) (var 3 ⊗ var 0 ⊕ var 4 ⊗ var 1 ⊕ var 5 ⊗ var 2) refl

-- a product with a vector across two others
pub third : (s e t w i : Vector) → dot s w ≡ pos 0 → dot e w ≡ pos 0 → dot s (cross e t) *ℤ dot w i ≡ dot t w *ℤ dot s (cross e i)
third s e t w i hs he = dual s e t w i ∙ keep (dot e w *ℤ dot t (cross s i)) (dot t w *ℤ dot s (cross e i)) (dot s w *ℤ dot e (cross t i)) (zero_left (dot e w) (dot t (cross s i)) he) (zero_left (dot s w) (dot e (cross t i)) hs)
  where
    keep : (x y z : ℤ) → x ≡ pos 0 → z ≡ pos 0 → x +ℤ (y +ℤ z) ≡ y
    keep x y z p r = omega (arith, ints)

-- a point of the line through u and v, in two planes, is on each plane that holds both
abbrev pub IsThrough : Point → Point → Point → Type 0
IsThrough u v d = (h : Plane) → value h u ≡ pos 0 → value h v ≡ pos 0 → value h d ≡ pos 0

pub on_through : (s e : Plane) (u v d : Point) → IsPoint u → pos 0 <ℤ dot (way_between u v) (way_between u v) → dot (normal s) (cross (normal e) (way_between u v)) ≢ pos 0
    → value s u ≡ pos 0 → value s v ≡ pos 0 → value s d ≡ pos 0 → value e u ≡ pos 0 → value e v ≡ pos 0 → value e d ≡ pos 0 → IsThrough u v d
on_through s e u v d iu line some su sv sd eu ev ed h hu hv =
    let flat : dot (normal s) (cross (normal e) (normal h)) ≡ pos 0 = cancel_zero (dot (way_between u v) (way_between u v)) (dot (normal s) (cross (normal e) (normal h))) (off (dot (way_between u v) (way_between u v)) line)
    (sym (third (normal s) (normal e) (way_between u v) (way_between u v) (normal h) (way_on s u v su sv) (way_on e u v eu ev)) ∙ zero_right (dot (normal s) (cross (normal e) (way_between u v))) (dot (way_between u v) (normal h)) (dot_swapped (way_between u v) (normal h) ∙ way_on h u v hu hv)) in
    let across : dot (way_between u d) (normal h) ≡ pos 0 = cancel_zero (dot (normal s) (cross (normal e) (way_between u v))) (dot (way_between u d) (normal h)) some
    (third (normal s) (normal e) (way_between u v) (way_between u d) (normal h) (way_on s u d su sd) (way_on e u d eu ed) ∙ zero_right (dot (way_between u v) (way_between u d)) (dot (normal s) (cross (normal e) (normal h))) flat) in
    cancel_zero u.w (value h d) (off u.w iu) (plain (u.w *ℤ value h d) (d.w *ℤ value h u) (sym (way-value h u d) ∙ dot_swapped (normal h) (way_between u d) ∙ across) (zero_right d.w (value h u) hu))
  where
    off : (x : ℤ) → pos 0 <ℤ x → x ≢ pos 0
    off x h e = omega (arith, ints)

    plain : (x y : ℤ) → x -ℤ y ≡ pos 0 → y ≡ pos 0 → x ≡ pos 0
    plain x y h e = omega (arith, ints)

level_apart : (x y : ℤ) → x -ℤ y ≡ pos 0 → y ≡ x
level_apart x y e = omega (arith, ints)

-- points of the line with no way along it are one place
same_place : (s e : Plane) (t : Vector) (a b : Point) → dot (normal s) (cross (normal e) t) ≢ pos 0 → value s a ≡ pos 0 → value s b ≡ pos 0 → value e a ≡ pos 0 → value e b ≡ pos 0 → dot (way_between a b) t ≡ pos 0 → IsSamePoint a b
same_place s e t a b some sa sb ea eb h =
    let none : (i : Vector) → dot (way_between a b) i ≡ pos 0 = λ i. across_none (normal s) (normal e) t (way_between a b) i some (way_on s a b sa sb) (way_on e a b ea eb) (dot_swapped t (way_between a b) ∙ h) in
    record {
      same_x = level_apart (b.x *ℤ a.w) (a.x *ℤ b.w) (sym (along_first (way_between a b).x (way_between a b).y (way_between a b).z) ∙ none (record { x = pos 1; y = pos 0; z = pos 0 }));
      same_y = level_apart (b.y *ℤ a.w) (a.y *ℤ b.w) (sym (along_second (way_between a b).x (way_between a b).y (way_between a b).z) ∙ none (record { x = pos 0; y = pos 1; z = pos 0 }));
      same_z = level_apart (b.z *ℤ a.w) (a.z *ℤ b.w) (sym (along_third (way_between a b).x (way_between a b).y (way_between a b).z) ∙ none (record { x = pos 0; y = pos 0; z = pos 1 }));
    }

-- two points of the line are in order, or one place
pub line_cases : (s e : Plane) (t : Vector) (a b : Point) → dot (normal s) (cross (normal e) t) ≢ pos 0 → value s a ≡ pos 0 → value s b ≡ pos 0 → value e a ≡ pos 0 → value e b ≡ pos 0
    → IsAfter t a b ⊎ (IsSamePoint a b ⊎ IsAfter t b a)
line_cases s e t a b some sa sb ea eb = elim (sign_cases (dot (way_between a b) t)) [
  | inl low ↦ inr (inr (subst (λ x. pos 0 <ℤ x) (sym (way_turned a b t)) (up (dot (way_between a b) t) low)))
  | inr (inl none) ↦ inr (inl (same_place s e t a b some sa sb ea eb none))
  | inr (inr high) ↦ inl high
]
  where
    up : (x : ℤ) → x <ℤ pos 0 → pos 0 <ℤ neg_ℤ x
    up x h = omega (arith, ints)

-- ---- the points inside an edge
-- products
strictly_times : (b : Bool) (x y : ℤ) → pos 0 <ℤ x → IsStrictly b y → IsStrictly b (x *ℤ y)
strictly_times true x y h k = mul_positive x y h k
strictly_times false x y h k = mul_negative x y h k

strictly_divided : (b : Bool) (k x : ℤ) → pos 0 <ℤ k → IsStrictly b (k *ℤ x) → IsStrictly b x
strictly_divided true k x h l = positive_right k x h l
strictly_divided false k x h l = negative_right k x h l

factor_up : (b : Bool) (x y : ℤ) → IsStrictly b y → IsStrictly b (x *ℤ y) → pos 0 <ℤ x
factor_up true x y h k = positive_right y x h (subst (λ v. pos 0 <ℤ v) (*ℤ_comm x y) k)
factor_up false x y h k = positive_right (neg_ℤ y) x (up y h) (subst (λ v. pos 0 <ℤ v) (turned x y) (up (x *ℤ y) k))
  where
    up : (x : ℤ) → x <ℤ pos 0 → pos 0 <ℤ neg_ℤ x
    up x h = omega (arith, ints)

    turned : (x y : ℤ) → neg_ℤ (x *ℤ y) ≡ neg_ℤ y *ℤ x
    turned x y = ring (x ∷ (y ∷ [])) (neg (var 0 ⊗ var 1)) (neg (var 1) ⊗ var 0) refl

module _ (s : Plane) (e : Step) (is : IsEdgeOf s e) where
  -- a way in the planes of an edge, by its part across the edge before
  way_as : (a b : Point) (t : Vector) → value s a ≡ pos 0 → value s b ≡ pos 0 → value e.side a ≡ pos 0 → value e.side b ≡ pos 0
      → turn s e.prev e.side *ℤ dot (way_between a b) t ≡ dot (normal e.prev) (way_between a b) *ℤ dot (normal e.side) (direction true (normal s) t)
  way_as a b t sa sb ea eb =
      dual (normal s) (normal e.prev) (normal e.side) (way_between a b) t
      ∙ plain (dot (normal e.prev) (way_between a b) *ℤ dot (normal e.side) (cross (normal s) t)) (dot (normal e.side) (way_between a b) *ℤ dot (normal s) (cross (normal e.prev) t)) (dot (normal s) (way_between a b) *ℤ dot (normal e.prev) (cross (normal e.side) t))
      (zero_left (dot (normal e.side) (way_between a b)) (dot (normal s) (cross (normal e.prev) t)) (way_on e.side a b ea eb))
      (zero_left (dot (normal s) (way_between a b)) (dot (normal e.prev) (cross (normal e.side) t)) (way_on s a b sa sb))
    where
      plain : (x y z : ℤ) → y ≡ pos 0 → z ≡ pos 0 → x +ℤ (y +ℤ z) ≡ x
      plain x y z p q = omega (arith, ints)

  -- and by its part across the edge after
  way_as_next : (a b : Point) (t : Vector) → value s a ≡ pos 0 → value s b ≡ pos 0 → value e.side a ≡ pos 0 → value e.side b ≡ pos 0
      → turn s e.side e.next *ℤ dot (way_between a b) t ≡ dot (normal e.next) (way_between a b) *ℤ dot (normal s) (cross (normal e.side) t)
  way_as_next a b t sa sb ea eb =
      dual (normal s) (normal e.side) (normal e.next) (way_between a b) t
      ∙ plain (dot (normal e.side) (way_between a b) *ℤ dot (normal e.next) (cross (normal s) t)) (dot (normal e.next) (way_between a b) *ℤ dot (normal s) (cross (normal e.side) t)) (dot (normal s) (way_between a b) *ℤ dot (normal e.side) (cross (normal e.next) t))
      (zero_left (dot (normal e.side) (way_between a b)) (dot (normal e.next) (cross (normal s) t)) (way_on e.side a b ea eb))
      (zero_left (dot (normal s) (way_between a b)) (dot (normal e.side) (cross (normal e.next) t)) (way_on s a b sa sb))
    where
      plain : (x y z : ℤ) → x ≡ pos 0 → z ≡ pos 0 → x +ℤ (y +ℤ z) ≡ y
      plain x y z p q = omega (arith, ints)

  -- the edge's own way leads into its first half-plane
  own_up : pos 0 <ℤ dot (way_of e) (way_of e) → pos 0 <ℤ dot (normal e.side) (direction true (normal s) (way_of e))
  own_up h = runs_to_side true s e (way_of e) is h

  -- where an edge runs along t, for true, or against it, for false, so do the ways along it
  pub along_edge : (b : Bool) (t : Vector) (c d : Point) → pos 0 <ℤ dot (way_of e) (way_of e) → IsStrictly b (dot (way_of e) t)
      → value s c ≡ pos 0 → value s d ≡ pos 0 → value e.side c ≡ pos 0 → value e.side d ≡ pos 0 → IsAfter (way_of e) c d → IsStrictly b (dot (way_between c d) t)
  along_edge b t c d some runs sc sd ec ed h =
      let x_up : pos 0 <ℤ dot (normal e.prev) (way_between c d) = factor_up true (dot (normal e.prev) (way_between c d)) (dot (normal e.side) (direction true (normal s) (way_of e))) (own_up some)
      (subst (λ v. pos 0 <ℤ v) (way_as c d (way_of e) sc sd ec ed) (mul_positive (turn s e.prev e.side) (dot (way_between c d) (way_of e)) is.left h)) in
      strictly_divided b (turn s e.prev e.side) (dot (way_between c d) t) is.left
      (subst (IsStrictly b) (sym (way_as c d t sc sd ec ed)) (strictly_times b (dot (normal e.prev) (way_between c d)) (dot (normal e.side) (direction true (normal s) t)) x_up (runs_to_side b s e t is runs)))

  pub edge_along : (b : Bool) (t : Vector) (c d : Point) → pos 0 <ℤ dot (way_of e) (way_of e) → IsStrictly b (dot (way_of e) t)
      → value s c ≡ pos 0 → value s d ≡ pos 0 → value e.side c ≡ pos 0 → value e.side d ≡ pos 0 → IsStrictly b (dot (way_between c d) t) → IsAfter (way_of e) c d
  edge_along b t c d some runs sc sd ec ed h =
      let x_up : pos 0 <ℤ dot (normal e.prev) (way_between c d) = factor_up b (dot (normal e.prev) (way_between c d)) (dot (normal e.side) (direction true (normal s) t)) (runs_to_side b s e t is runs)
      (subst (IsStrictly b) (way_as c d t sc sd ec ed) (strictly_times b (turn s e.prev e.side) (dot (way_between c d) t) is.left h)) in
      positive_right (turn s e.prev e.side) (dot (way_between c d) (way_of e)) is.left
      (subst (λ v. pos 0 <ℤ v) (sym (way_as c d (way_of e) sc sd ec ed)) (mul_positive (dot (normal e.prev) (way_between c d)) (dot (normal e.side) (direction true (normal s) (way_of e))) x_up (own_up some)))

  -- ---- between the ends, for an edge that runs along t
  start_way : (m : Point) → dot (normal e.prev) (way_between e.start m) ≡ e.start.w *ℤ value e.prev m
  start_way m = way-value e.prev e.start m ∙ plain (e.start.w *ℤ value e.prev m) (m.w *ℤ value e.prev e.start) (zero_right m.w (value e.prev e.start) is.start_prev)
    where
      plain : (x y : ℤ) → y ≡ pos 0 → x -ℤ y ≡ x
      plain x y h = omega (arith, ints)

  end_way : (m : Point) → dot (normal e.next) (way_between e.end m) ≡ e.end.w *ℤ value e.next m
  end_way m = way-value e.next e.end m ∙ plain (e.end.w *ℤ value e.next m) (m.w *ℤ value e.next e.end) (zero_right m.w (value e.next e.end) is.end_next)
    where
      plain : (x y : ℤ) → y ≡ pos 0 → x -ℤ y ≡ x
      plain x y h = omega (arith, ints)

  module _ (t : Vector) (runs : pos 0 <ℤ dot (way_of e) t) (m : Point) (on : value s m ≡ pos 0) (on_side : value e.side m ≡ pos 0) where
    side_up : pos 0 <ℤ dot (normal e.side) (direction true (normal s) t)
    side_up = runs_to_side true s e t is runs

    pub turned_down : dot (normal s) (cross (normal e.side) t) <ℤ pos 0
    turned_down = low (dot (normal e.side) (cross (normal s) t)) (dot (normal s) (cross (normal e.side) t)) (det_swapped (normal s) (normal e.side) t) side_up
      where
        low : (x y : ℤ) → y ≡ neg_ℤ x → pos 0 <ℤ x → y <ℤ pos 0
        low x y e h = omega (arith, ints)

        det_swapped : (s e t : Vector) → dot s (cross e t) ≡ neg_ℤ (dot e (cross s t))
        det_swapped s e t = D.det_turned e s t

    pub after_start : pos 0 <ℤ value e.prev m → IsAfter t e.start m
    after_start h = positive_right (turn s e.prev e.side) (dot (way_between e.start m) t) is.left
        (subst (λ v. pos 0 <ℤ v) (sym (way_as e.start m t is.start_on on is.start_side on_side)) (mul_positive (dot (normal e.prev) (way_between e.start m)) (dot (normal e.side) (direction true (normal s) t)) (subst (λ v. pos 0 <ℤ v) (sym (start_way m)) (mul_positive e.start.w (value e.prev m) is.start_point h)) side_up))

    pub start_before : IsAfter t e.start m → pos 0 <ℤ value e.prev m
    start_before h = positive_right e.start.w (value e.prev m) is.start_point (subst (λ v. pos 0 <ℤ v) (start_way m)
        (factor_up true (dot (normal e.prev) (way_between e.start m)) (dot (normal e.side) (direction true (normal s) t)) side_up (subst (λ v. pos 0 <ℤ v) (way_as e.start m t is.start_on on is.start_side on_side) (mul_positive (turn s e.prev e.side) (dot (way_between e.start m) t) is.left h))))

    pub before_end : pos 0 <ℤ value e.next m → IsAfter t m e.end
    before_end h = subst (λ x. pos 0 <ℤ x) (sym (way_turned e.end m t)) (up (dot (way_between e.end m) t) (negative_right (turn s e.side e.next) (dot (way_between e.end m) t) is.left_next
        (subst (λ v. v <ℤ pos 0) (sym (way_as_next e.end m t is.end_on on is.end_side on_side)) (mul_negative (dot (normal e.next) (way_between e.end m)) (dot (normal s) (cross (normal e.side) t)) (subst (λ v. pos 0 <ℤ v) (sym (end_way m)) (mul_positive e.end.w (value e.next m) is.end_point h)) turned_down))))
      where
        up : (x : ℤ) → x <ℤ pos 0 → pos 0 <ℤ neg_ℤ x
        up x h = omega (arith, ints)

    pub end_after : IsAfter t m e.end → pos 0 <ℤ value e.next m
    end_after h = positive_right e.end.w (value e.next m) is.end_point (subst (λ v. pos 0 <ℤ v) (end_way m)
        (factor_up false (dot (normal e.next) (way_between e.end m)) (dot (normal s) (cross (normal e.side) t)) turned_down (subst (λ v. v <ℤ pos 0) (way_as_next e.end m t is.end_on on is.end_side on_side) (mul_negative (turn s e.side e.next) (dot (way_between e.end m) t) is.left_next (low (dot (way_between m e.end) t) (dot (way_between e.end m) t) (way_turned m e.end t) h)))))
      where
        low : (x y : ℤ) → y ≡ neg_ℤ x → pos 0 <ℤ x → y <ℤ pos 0
        low x y e h = omega (arith, ints)

-- where a product with another vector is above 0, a vector is not 0
pub some_from : (a d : Vector) → pos 0 <ℤ dot a d → pos 0 <ℤ dot d d
some_from a d h = vector_some d (λ x y z. level_up (a.x *ℤ d.x) (a.y *ℤ d.y) (a.z *ℤ d.z) (zero_right a.x d.x x) (zero_right a.y d.y y) (zero_right a.z d.z z) h)
  where
    level_up : (x y z : ℤ) → x ≡ pos 0 → y ≡ pos 0 → z ≡ pos 0 → pos 0 <ℤ (x +ℤ y +ℤ z) → ⊥
    level_up x y z p q r h = omega (arith, ints)

-- the way of an edge is not 0
pub own_way : (s : Plane) (e : Step) → IsEdgeOf s e → pos 0 <ℤ dot (way_of e) (way_of e)
own_way s e is = some_from (normal e.prev) (way_of e) (prev_up s e is)

-- seen the other way round
pub after_turned : (a b u v : Point) → dot (way_between a b) (way_between v u) ≡ dot (way_between b a) (way_between u v)
after_turned a b u v = ring (a.x ∷ (a.y ∷ (a.z ∷ (a.w ∷ (b.x ∷ (b.y ∷ (b.z ∷ (b.w ∷ (u.x ∷ (u.y ∷ (u.z ∷ (u.w ∷ (v.x ∷ (v.y ∷ (v.z ∷ (v.w ∷ []))))))))))))))))
    ((var 4 ⊗ var 3 ⊖ var 0 ⊗ var 7) ⊗ (var 8 ⊗ var 15 ⊖ var 12 ⊗ var 11) ⊕ (var 5 ⊗ var 3 ⊖ var 1 ⊗ var 7) ⊗ (var 9 ⊗ var 15 ⊖ var 13 ⊗ var 11) ⊕ (var 6 ⊗ var 3 ⊖ var 2 ⊗ var 7) ⊗ (var 10 ⊗ var 15 ⊖ var 14 ⊗ var 11))
    ((var 0 ⊗ var 7 ⊖ var 4 ⊗ var 3) ⊗ (var 12 ⊗ var 11 ⊖ var 8 ⊗ var 15) ⊕ (var 1 ⊗ var 7 ⊖ var 5 ⊗ var 3) ⊗ (var 13 ⊗ var 11 ⊖ var 9 ⊗ var 15) ⊕ (var 2 ⊗ var 7 ⊖ var 6 ⊗ var 3) ⊗ (var 14 ⊗ var 11 ⊖ var 10 ⊗ var 15)) refl
