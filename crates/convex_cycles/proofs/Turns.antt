-- Where an edge leaves or enters the front of a plane, and that a convex cycle leaves it once and enters it once.
use Rattle.std.proofs.Common.{◌≡◌, List, [], ◌∷◌, ℤ, pos, neg_ℤ, ◌+ℤ◌, ◌*ℤ◌, ◌-ℤ◌, ◌<ℤ◌, ◌≤ℤ◌, refl, sym, ap, ◌∙◌, subst, arith}
use Rattle.std.proofs.lemmas.Int.{ints}
use Rattle.integer_laws.proofs.Ring.{Expr, var, neg, ◌⊕◌, ◌⊗◌, ◌⊖◌, ring, *ℤ_comm}
use Rattle.integer_laws.proofs.Signs.{mul_positive, mul_nonneg}
use Rattle.spec_space.specs.declared.Point.{Point}
use Rattle.spec_space.specs.declared.Plane.{Plane}
use Rattle.spec_space.specs.Points.{IsPoint, value}
use Rattle.integer_laws.proofs.Cancel.{mul_nonpos, positive_right, zero_right}
use Rattle.convex_cycles.specs.Cycles.{turn, Step, IsEdgeOf}
use Rattle.convex_cycles.proofs.Quotes.{valuee, turne}
use Rattle.convex_cycles.proofs.Orders.{weaker, level_below, turned_up, turned_down, turned_weakly, difference_positive, difference_negative, first_of_sum, positive_unless}
use Rattle.convex_cycles.proofs.Crossings.{crossing, crossing-value, crossing-IsPoint, crossing_on, crossing_zero, crossing_nonneg}

-- exchanging two sides turns the sign
pub turned : (s g h : Plane) → turn s h g ≡ neg_ℤ (turn s g h)
turned s g h = ring (s.a ∷ (s.b ∷ (s.c ∷ (g.a ∷ (g.b ∷ (g.c ∷ (h.a ∷ (h.b ∷ (h.c ∷ [])))))))))
    (turne (var 0) (var 1) (var 2) (var 6) (var 7) (var 8) (var 3) (var 4) (var 5))
    (neg (turne (var 0) (var 1) (var 2) (var 3) (var 4) (var 5) (var 6) (var 7) (var 8))) refl

-- how a value changes from c to d, times both weights
abbrev pub change : Plane → Point → Point → ℤ
change k c d = value k d *ℤ c.w -ℤ value k c *ℤ d.w

-- the change from a point of the plane, and to a point of the plane
pub change_from : (k : Plane) (c d : Point) → value k c ≡ pos 0 → change k c d ≡ value k d *ℤ c.w
change_from k c d e = ap (λ x. value k d *ℤ c.w -ℤ x *ℤ d.w) e ∙ first (value k d *ℤ c.w) d.w
  where
    first : (x y : ℤ) → x -ℤ pos 0 *ℤ y ≡ x
    first x y = omega (arith, ints)

pub change_to : (k : Plane) (c d : Point) → value k d ≡ pos 0 → change k c d ≡ neg_ℤ (value k c *ℤ d.w)
change_to k c d e = ap (λ x. x *ℤ c.w -ℤ value k c *ℤ d.w) e ∙ second c.w (value k c *ℤ d.w)
  where
    second : (x y : ℤ) → pos 0 *ℤ x -ℤ y ≡ neg_ℤ y
    second x y = omega (arith, ints)

pub no_change : (k : Plane) (c d : Point) → value k c ≡ pos 0 → value k d ≡ pos 0 → change k c d ≡ pos 0
no_change k c d u v = change_from k c d u ∙ ap (λ x. x *ℤ c.w) v ∙ none c.w
  where
    none : (x : ℤ) → pos 0 *ℤ x ≡ pos 0
    none x = omega (arith, ints)

-- a value falls from a point in front to one that is not
pub falls : (k : Plane) (c d : Point) → IsPoint c → IsPoint d → pos 0 <ℤ value k c → value k d ≤ℤ pos 0 → change k c d <ℤ pos 0
falls k c d hc hd front back = difference_negative (value k d *ℤ c.w) (value k c *ℤ d.w) (rw (*ℤ_comm (value k d) c.w) (mul_nonpos c.w (value k d) (weaker c.w hc) back)) (mul_positive (value k c) d.w front hd)

-- and grows the other way
pub grows : (k : Plane) (c d : Point) → IsPoint c → IsPoint d → value k c ≤ℤ pos 0 → pos 0 <ℤ value k d → pos 0 <ℤ change k c d
grows k c d hc hd back front = difference_positive (value k d *ℤ c.w) (value k c *ℤ d.w) (mul_positive (value k d) c.w front hc) (rw (*ℤ_comm (value k c) d.w) (mul_nonpos d.w (value k c) (weaker d.w hd) back))

module _ (s e p k : Plane) (c d : Point) where
  numbers : List ℤ
  numbers = s.a ∷ (s.b ∷ (s.c ∷ (s.d ∷ (e.a ∷ (e.b ∷ (e.c ∷ (e.d ∷ (p.a ∷ (p.b ∷ (p.c ∷ (p.d ∷ (k.a ∷ (k.b ∷ (k.c ∷ (k.d ∷ (c.x ∷ (c.y ∷ (c.z ∷ (c.w ∷ (d.x ∷ (d.y ∷ (d.z ∷ (d.w ∷ [])))))))))))))))))))))))

  abbrev changee : Expr → Expr → Expr → Expr → Expr
  changee a b c d = valuee a b c d (var 20) (var 21) (var 22) (var 23) ⊗ var 19 ⊖ valuee a b c d (var 16) (var 17) (var 18) (var 19) ⊗ var 23

  -- of four normals, the change of the fourth value in those of the others
  four_normals : turn s e p *ℤ change k c d ≡ turn s e k *ℤ change p c d +ℤ turn s k p *ℤ change e c d +ℤ turn k e p *ℤ change s c d
  unfolding numbers
  four_normals = ring numbers
      (turne (var 0) (var 1) (var 2) (var 4) (var 5) (var 6) (var 8) (var 9) (var 10) ⊗ changee (var 12) (var 13) (var 14) (var 15))
      (turne (var 0) (var 1) (var 2) (var 4) (var 5) (var 6) (var 12) (var 13) (var 14) ⊗ changee (var 8) (var 9) (var 10) (var 11)
      ⊕ turne (var 0) (var 1) (var 2) (var 12) (var 13) (var 14) (var 8) (var 9) (var 10) ⊗ changee (var 4) (var 5) (var 6) (var 7)
      ⊕ turne (var 12) (var 13) (var 14) (var 4) (var 5) (var 6) (var 8) (var 9) (var 10) ⊗ changee (var 0) (var 1) (var 2) (var 3)) refl

  -- along the line of two planes two values change in proportion
  pub in_proportion : value s c ≡ pos 0 → value s d ≡ pos 0 → value e c ≡ pos 0 → value e d ≡ pos 0 → turn s e p *ℤ change k c d ≡ turn s e k *ℤ change p c d
  in_proportion sc sd ec ed = four_normals ∙ ap (λ x. turn s e k *ℤ change p c d +ℤ turn s k p *ℤ x +ℤ turn k e p *ℤ change s c d) (no_change e c d ec ed)
      ∙ ap (λ x. turn s e k *ℤ change p c d +ℤ turn s k p *ℤ pos 0 +ℤ turn k e p *ℤ x) (no_change s c d sc sd) ∙ gone (turn s e k *ℤ change p c d) (turn s k p) (turn k e p)
    where
      gone : (x y z : ℤ) → x +ℤ y *ℤ pos 0 +ℤ z *ℤ pos 0 ≡ x
      gone x y z = omega (arith, ints)

-- ---- turns
both_negative : (x y : ℤ) → x <ℤ pos 0 → y <ℤ pos 0 → pos 0 <ℤ (x *ℤ y)
both_negative x y h k = subst (λ v. pos 0 <ℤ v) (same x y) (mul_positive (neg_ℤ x) (neg_ℤ y) (turned_up x h) (turned_up y k))
  where
    same : (x y : ℤ) → neg_ℤ x *ℤ neg_ℤ y ≡ x *ℤ y
    same x y = ring (x ∷ (y ∷ [])) (neg (var 0) ⊗ neg (var 1)) (var 0 ⊗ var 1) refl

negative_left : (x y : ℤ) → y <ℤ pos 0 → pos 0 <ℤ (x *ℤ y) → x <ℤ pos 0
negative_left x y h k = back (positive_right (neg_ℤ y) (neg_ℤ x) (turned_up y h) (subst (λ v. pos 0 <ℤ v) (ring (x ∷ (y ∷ [])) (var 0 ⊗ var 1) (neg (var 1) ⊗ neg (var 0)) refl) k))
  where
    back : pos 0 <ℤ neg_ℤ x → x <ℤ pos 0
    back h = omega (arith, ints)

-- the edge e runs from c, where it follows the edge p, to d. Where it leaves the front of k, it turns into k
pub leaving_turn : (s p e k : Plane) (c d : Point) → IsPoint c → IsPoint d → pos 0 <ℤ turn s p e
    → value s c ≡ pos 0 → value s d ≡ pos 0 → value e c ≡ pos 0 → value e d ≡ pos 0
    → value p c ≡ pos 0 → pos 0 <ℤ value p d → pos 0 <ℤ value k c → value k d ≤ℤ pos 0 → pos 0 <ℤ turn s e k
leaving_turn s p e k c d hc hd left sc sd ec ed pc pd front back =
    let right : turn s e p <ℤ pos 0 = subst (λ x. x <ℤ pos 0) (sym (turned s p e)) (turned_down (turn s p e) left) in
    positive_right (change p c d) (turn s e k) (grows p c d hc hd (level_below (value p c) pc) pd)
    (subst (λ x. pos 0 <ℤ x) (in_proportion s e p k c d sc sd ec ed ∙ *ℤ_comm (turn s e k) (change p c d))
    (both_negative (turn s e p) (change k c d) right (falls k c d hc hd front back)))

-- the edge e runs from c to d, where the edge n follows. Where it enters the front of k, k turns into it
pub entering_turn : (s e n k : Plane) (c d : Point) → IsPoint c → IsPoint d → pos 0 <ℤ turn s e n
    → value s c ≡ pos 0 → value s d ≡ pos 0 → value e c ≡ pos 0 → value e d ≡ pos 0
    → value n d ≡ pos 0 → pos 0 <ℤ value n c → value k c ≤ℤ pos 0 → pos 0 <ℤ value k d → pos 0 <ℤ turn s k e
entering_turn s e n k c d hc hd left sc sd ec ed nd nc back front =
    let less : turn s e k <ℤ pos 0 = negative_left (turn s e k) (change n c d) (falls n c d hc hd nc (level_below (value n d) nd))
    (subst (λ x. pos 0 <ℤ x) (in_proportion s e n k c d sc sd ec ed) (mul_positive (turn s e n) (change k c d) left (grows k c d hc hd back front))) in
    subst (λ x. pos 0 <ℤ x) (sym (turned s e k)) (turned_up (turn s e k) less)

-- the same of a step
pub leaving_edge : (s k : Plane) (e : Step) → IsEdgeOf s e → pos 0 <ℤ value k e.start → value k e.end ≤ℤ pos 0 → pos 0 <ℤ turn s e.side k
leaving_edge s k e is front back = leaving_turn s e.prev e.side k e.start e.end is.start_point is.end_point is.left is.start_on is.end_on is.start_side is.end_side is.start_prev is.inside_prev front back

pub entering_edge : (s k : Plane) (e : Step) → IsEdgeOf s e → value k e.start ≤ℤ pos 0 → pos 0 <ℤ value k e.end → pos 0 <ℤ turn s k e.side
entering_edge s k e is back front = entering_turn s e.side e.next k e.start e.end is.start_point is.end_point is.left_next is.start_on is.end_on is.start_side is.end_side is.end_next is.inside_next back front

-- ---- a cycle leaves once, and enters once
balanced : (t u x y : ℤ) → pos 0 <ℤ t → pos 0 <ℤ u → pos 0 ≤ℤ x → pos 0 ≤ℤ y → t *ℤ neg_ℤ x ≡ u *ℤ y → x ≡ pos 0
balanced t u x y ht hu hx hy e = zero_right t x ht (first_of_sum (t *ℤ x) (u *ℤ y) (mul_nonneg t x (weaker t ht) hx) (mul_nonneg u y (weaker u hu) hy) (gone (t *ℤ x) (u *ℤ y) (turned_left t x ∙ e)))
  where
    turned_left : (t x : ℤ) → neg_ℤ (t *ℤ x) ≡ t *ℤ neg_ℤ x
    turned_left t x = ring (t ∷ (x ∷ [])) (neg (var 0 ⊗ var 1)) (var 0 ⊗ neg (var 1)) refl

    gone : (x y : ℤ) → neg_ℤ x ≡ y → x +ℤ y ≡ pos 0
    gone x y e = omega (arith, ints)

balanced_back : (t u x y : ℤ) → pos 0 <ℤ t → pos 0 <ℤ u → pos 0 ≤ℤ x → pos 0 ≤ℤ y → neg_ℤ t *ℤ neg_ℤ x ≡ neg_ℤ u *ℤ y → x ≡ pos 0
balanced_back t u x y ht hu hx hy e = balanced t u x y ht hu hx hy (swap t x ∙ ap neg_ℤ e ∙ again u y)
  where
    swap : (t x : ℤ) → t *ℤ neg_ℤ x ≡ neg_ℤ (neg_ℤ t *ℤ neg_ℤ x)
    swap t x = ring (t ∷ (x ∷ [])) (var 0 ⊗ neg (var 1)) (neg (neg (var 0) ⊗ neg (var 1))) refl

    again : (u y : ℤ) → neg_ℤ (neg_ℤ u *ℤ y) ≡ u *ℤ y
    again u y = ring (u ∷ (y ∷ [])) (neg (neg (var 0) ⊗ var 1)) (var 0 ⊗ var 1) refl

-- along the line of s and k, from a point of e to one of f
from_side_to_side : (s e f k : Plane) (a b : Point) → value s a ≡ pos 0 → value s b ≡ pos 0 → value k a ≡ pos 0 → value k b ≡ pos 0 → value e a ≡ pos 0 → value f b ≡ pos 0
    → turn s k e *ℤ neg_ℤ (value f a *ℤ b.w) ≡ turn s k f *ℤ (value e b *ℤ a.w)
from_side_to_side s e f k a b sa sb ka kb ea fb = ap (λ x. turn s k e *ℤ x) (sym (change_to f a b fb)) ∙ in_proportion s k e f a b sa sb ka kb ∙ ap (λ x. turn s k f *ℤ x) (change_from e a b ea)

weight_gone : (v w : ℤ) → pos 0 <ℤ w → v *ℤ w ≡ pos 0 → v ≡ pos 0
weight_gone v w h e = zero_right w v h (*ℤ_comm w v ∙ e)

-- two edges that both turn into k, at points of k that each keeps: each point lies on both edges
pub leaving_meet : (s e f k : Plane) (a b : Point) → IsPoint a → IsPoint b → pos 0 <ℤ turn s e k → pos 0 <ℤ turn s f k
    → value s a ≡ pos 0 → value s b ≡ pos 0 → value k a ≡ pos 0 → value k b ≡ pos 0
    → value e a ≡ pos 0 → value f b ≡ pos 0 → pos 0 ≤ℤ value f a → pos 0 ≤ℤ value e b → value f a ≡ pos 0
leaving_meet s e f k a b ha hb e_turns f_turns sa sb ka kb ea fb fa eb =
    weight_gone (value f a) b.w hb (balanced_back (turn s e k) (turn s f k) (value f a *ℤ b.w) (value e b *ℤ a.w) e_turns f_turns
    (mul_nonneg (value f a) b.w fa (weaker b.w hb)) (mul_nonneg (value e b) a.w eb (weaker a.w ha))
    (subst (λ t. t *ℤ neg_ℤ (value f a *ℤ b.w) ≡ neg_ℤ (turn s f k) *ℤ (value e b *ℤ a.w)) (turned s e k)
    (subst (λ u. turn s k e *ℤ neg_ℤ (value f a *ℤ b.w) ≡ u *ℤ (value e b *ℤ a.w)) (turned s f k) (from_side_to_side s e f k a b sa sb ka kb ea fb))))

-- and two edges into which k turns
pub entering_meet : (s e f k : Plane) (a b : Point) → IsPoint a → IsPoint b → pos 0 <ℤ turn s k e → pos 0 <ℤ turn s k f
    → value s a ≡ pos 0 → value s b ≡ pos 0 → value k a ≡ pos 0 → value k b ≡ pos 0
    → value e a ≡ pos 0 → value f b ≡ pos 0 → pos 0 ≤ℤ value f a → pos 0 ≤ℤ value e b → value f a ≡ pos 0
entering_meet s e f k a b ha hb e_turns f_turns sa sb ka kb ea fb fa eb =
    weight_gone (value f a) b.w hb (balanced (turn s k e) (turn s k f) (value f a *ℤ b.w) (value e b *ℤ a.w) e_turns f_turns
    (mul_nonneg (value f a) b.w fa (weaker b.w hb)) (mul_nonneg (value e b) a.w eb (weaker a.w ha)) (from_side_to_side s e f k a b sa sb ka kb ea fb))

-- a crossing that lies on h, of a segment that h leaves out nowhere: the end that k does not keep lies on h
crossing_level : (k h : Plane) (p m : Point) → value k p ≤ℤ pos 0 → pos 0 <ℤ value k m → pos 0 ≤ℤ value h p → pos 0 ≤ℤ value h m → value h (crossing k p m) ≡ pos 0 → value h p ≡ pos 0
crossing_level k h p m out within hp hm e =
    zero_right (value k m) (value h p) within
    (first_of_sum (value k m *ℤ value h p) (neg_ℤ (value k p) *ℤ value h m)
    (mul_nonneg (value k m) (value h p) (weaker (value k m) within) hp) (mul_nonneg (neg_ℤ (value k p)) (value h m) (turned_weakly (value k p) out) hm)
    (sym (crossing-value k p m h) ∙ e))

-- of two edges that leave the front of k, each kept by the other's side, the first ends on the side of the second
pub one_leaving : (s k : Plane) (e f : Step) → IsEdgeOf s e → IsEdgeOf s f
    → pos 0 <ℤ value k e.start → value k e.end ≤ℤ pos 0 → pos 0 <ℤ value k f.start → value k f.end ≤ℤ pos 0
    → pos 0 ≤ℤ value f.side e.start → pos 0 ≤ℤ value f.side e.end → pos 0 ≤ℤ value e.side f.start → pos 0 ≤ℤ value e.side f.end
    → value f.side e.end ≡ pos 0
one_leaving s k e f ie jf e_front e_back f_front f_back fes fee efs efe =
    crossing_level k f.side e.end e.start e_back e_front fee fes
    (leaving_meet s e.side f.side k (crossing k e.end e.start) (crossing k f.end f.start)
    (crossing-IsPoint k e.end e.start ie.end_point ie.start_point e_back e_front) (crossing-IsPoint k f.end f.start jf.end_point jf.start_point f_back f_front)
    (leaving_edge s k e ie e_front e_back) (leaving_edge s k f jf f_front f_back)
    (crossing_zero k s e.end e.start ie.end_on ie.start_on) (crossing_zero k s f.end f.start jf.end_on jf.start_on)
    (crossing_on k e.end e.start) (crossing_on k f.end f.start)
    (crossing_zero k e.side e.end e.start ie.end_side ie.start_side) (crossing_zero k f.side f.end f.start jf.end_side jf.start_side)
    (crossing_nonneg k f.side e.end e.start e_back e_front fee fes) (crossing_nonneg k e.side f.end f.start f_back f_front efe efs))

-- of two edges that enter it, the first starts on the side of the second
pub one_entering : (s k : Plane) (e f : Step) → IsEdgeOf s e → IsEdgeOf s f
    → value k e.start ≤ℤ pos 0 → pos 0 <ℤ value k e.end → value k f.start ≤ℤ pos 0 → pos 0 <ℤ value k f.end
    → pos 0 ≤ℤ value f.side e.start → pos 0 ≤ℤ value f.side e.end → pos 0 ≤ℤ value e.side f.start → pos 0 ≤ℤ value e.side f.end
    → value f.side e.start ≡ pos 0
one_entering s k e f ie jf e_back e_front f_back f_front fes fee efs efe =
    crossing_level k f.side e.start e.end e_back e_front fes fee
    (entering_meet s e.side f.side k (crossing k e.start e.end) (crossing k f.start f.end)
    (crossing-IsPoint k e.start e.end ie.start_point ie.end_point e_back e_front) (crossing-IsPoint k f.start f.end jf.start_point jf.end_point f_back f_front)
    (entering_edge s k e ie e_back e_front) (entering_edge s k f jf f_back f_front)
    (crossing_zero k s e.start e.end ie.start_on ie.end_on) (crossing_zero k s f.start f.end jf.start_on jf.end_on)
    (crossing_on k e.start e.end) (crossing_on k f.start f.end)
    (crossing_zero k e.side e.start e.end ie.start_side ie.end_side) (crossing_zero k f.side f.start f.end jf.start_side jf.end_side)
    (crossing_nonneg k f.side e.start e.end e_back e_front fes fee) (crossing_nonneg k e.side f.start f.end f_back f_front efs efe))

-- ---- where it leaves is not where it enters
-- u turns into k and k into v, at points of the line of s and k: if q of the line is strictly inside both, and a on both, then
-- both values would grow from a to q, of which one falls where the other grows
line_clash : (s k u v : Plane) (a q : Point) → IsPoint a → pos 0 <ℤ turn s u k → pos 0 <ℤ turn s k v
    → value s a ≡ pos 0 → value k a ≡ pos 0 → value s q ≡ pos 0 → value k q ≡ pos 0
    → value u a ≡ pos 0 → value v a ≡ pos 0 → pos 0 <ℤ value u q → pos 0 <ℤ value v q → ⊥
line_clash s k u v a q ha u_turns v_turns sa ka sq kq ua va uq vq =
    let u_grows : pos 0 <ℤ change u a q = subst (λ x. pos 0 <ℤ x) (sym (change_from u a q ua)) (mul_positive (value u q) a.w uq ha) in
    let v_grows : pos 0 <ℤ change v a q = subst (λ x. pos 0 <ℤ x) (sym (change_from v a q va)) (mul_positive (value v q) a.w vq ha) in
    let same : neg_ℤ (turn s u k) *ℤ change v a q ≡ turn s k v *ℤ change u a q = subst (λ x. x *ℤ change v a q ≡ turn s k v *ℤ change u a q) (turned s u k) (in_proportion s k u v a q sa sq ka kq) in
    clash (turn s u k) (change v a q) (turn s k v *ℤ change u a q) (mul_positive (turn s u k) (change v a q) u_turns v_grows) (mul_positive (turn s k v) (change u a q) v_turns u_grows) same
  where
    clash : (t x y : ℤ) → pos 0 <ℤ (t *ℤ x) → pos 0 <ℤ y → neg_ℤ t *ℤ x ≡ y → ⊥
    clash t x y h k e = apart (t *ℤ x) y h k (ring (t ∷ (x ∷ [])) (neg (var 0 ⊗ var 1)) (neg (var 0) ⊗ var 1) refl ∙ e)
      where
        apart : (x y : ℤ) → pos 0 <ℤ x → pos 0 <ℤ y → neg_ℤ x ≡ y → ⊥
        apart x y h k e = omega (arith, ints)

-- the edge u leaves the front of k and v enters it, and q on k is strictly inside both: the corners on k differ
pub ends_differ : (s k : Plane) (u v : Step) (q : Point) → IsEdgeOf s u → IsEdgeOf s v
    → pos 0 <ℤ value k u.start → value k u.end ≤ℤ pos 0 → value k v.start ≤ℤ pos 0 → pos 0 <ℤ value k v.end
    → IsPoint q → value s q ≡ pos 0 → value k q ≡ pos 0 → pos 0 <ℤ value u.side q → pos 0 <ℤ value v.side q
    → pos 0 ≤ℤ value v.side u.start → pos 0 ≤ℤ value v.side u.end → pos 0 ≤ℤ value u.side v.start → pos 0 ≤ℤ value u.side v.end
    → (pos 0 <ℤ value u.side (crossing k v.start v.end)) × (pos 0 <ℤ value v.side (crossing k u.end u.start))
ends_differ s k u v q iu iv u_front u_back v_back v_front hq sq kq uq vq vus vue uvs uve =
    let u_turns = leaving_edge s k u iu u_front u_back in
    let v_turns = entering_edge s k v iv v_back v_front in (
      positive_unless (value u.side (crossing k v.start v.end)) (crossing_nonneg k u.side v.start v.end v_back v_front uvs uve)
          (λ ub. line_clash s k u.side v.side (crossing k v.start v.end) q (crossing-IsPoint k v.start v.end iv.start_point iv.end_point v_back v_front) u_turns v_turns
          (crossing_zero k s v.start v.end iv.start_on iv.end_on) (crossing_on k v.start v.end) sq kq
          ub (crossing_zero k v.side v.start v.end iv.start_side iv.end_side) uq vq),
      positive_unless (value v.side (crossing k u.end u.start)) (crossing_nonneg k v.side u.end u.start u_back u_front vue vus)
          (λ va. line_clash s k u.side v.side (crossing k u.end u.start) q (crossing-IsPoint k u.end u.start iu.end_point iu.start_point u_back u_front) u_turns v_turns
          (crossing_zero k s u.end u.start iu.end_on iu.start_on) (crossing_on k u.end u.start) sq kq
          (crossing_zero k u.side u.end u.start iu.end_side iu.start_side) va uq vq),
    )
