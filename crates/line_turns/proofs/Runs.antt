-- Edges of pieces on a line: which way they run along it, and at which half-plane their pieces lie.
use Rattle.std.proofs.Common.{◌≡◌, ◌≢◌, inl, inr, Bool, true, false, not, [], ◌∷◌, ℤ, pos, neg_ℤ, ◌+ℤ◌, ◌-ℤ◌, ◌*ℤ◌, ◌<ℤ◌, refl, sym, ◌∙◌, subst, arith}
use Rattle.std.proofs.lemmas.Int.{ints}
use Rattle.spec_space.specs.declared.Vector.{Vector}
use Rattle.spec_space.specs.declared.Point.{Point}
use Rattle.spec_space.specs.declared.Plane.{Plane}
use Rattle.spec_space.specs.Points.{IsPoint, cross, dot, normal, value, way_between}
use Rattle.integer_laws.proofs.Ring.{var, con, ◌⊕◌, ◌⊗◌, ◌⊖◌, ring}
use Rattle.integer_laws.proofs.Signs.{mul_positive, mul_negative}
use Rattle.integer_laws.proofs.Products.{cancel_zero, zero_left, zero_right}
use Rattle.integer_laws.proofs.Cancel.{sign_cases, positive_right}
use Rattle.convex_cycles.specs.Cycles.{Step, IsEdgeOf, turn}
use Rattle.line_turns.proofs.Dets.{det, det_turned, dote, dete}
use Rattle.line_turns.proofs.Bundles.{direction, direction_false}
use Rattle.line_turns.proofs.Lines.{AreAlong, along}
use Rattle.line_turns.proofs.Neighbours.{IsStrictly}

-- ---- the way of an edge
pub way-value : (h : Plane) (c d : Point) → dot (normal h) (way_between c d) ≡ c.w *ℤ value h d -ℤ d.w *ℤ value h c
way-value h c d = ring (h.a ∷ (h.b ∷ (h.c ∷ (h.d ∷ (c.x ∷ (c.y ∷ (c.z ∷ (c.w ∷ (d.x ∷ (d.y ∷ (d.z ∷ (d.w ∷ []))))))))))))
    (var 0 ⊗ (var 8 ⊗ var 7 ⊖ var 4 ⊗ var 11) ⊕ var 1 ⊗ (var 9 ⊗ var 7 ⊖ var 5 ⊗ var 11) ⊕ var 2 ⊗ (var 10 ⊗ var 7 ⊖ var 6 ⊗ var 11))
    (var 7 ⊗ (var 0 ⊗ var 8 ⊕ var 1 ⊗ var 9 ⊕ var 2 ⊗ var 10 ⊖ var 3 ⊗ var 11) ⊖ var 11 ⊗ (var 0 ⊗ var 4 ⊕ var 1 ⊗ var 5 ⊕ var 2 ⊗ var 6 ⊖ var 3 ⊗ var 7)) refl

-- a vector by its products with three others
pub dual : (s p e w t : Vector) → dot s (cross p e) *ℤ dot w t ≡ dot p w *ℤ dot e (cross s t) +ℤ (dot e w *ℤ dot s (cross p t) +ℤ dot s w *ℤ dot p (cross e t))
dual s p e w t = ring (s.x ∷ (s.y ∷ (s.z ∷ (p.x ∷ (p.y ∷ (p.z ∷ (e.x ∷ (e.y ∷ (e.z ∷ (w.x ∷ (w.y ∷ (w.z ∷ (t.x ∷ (t.y ∷ (t.z ∷ [])))))))))))))))
    (dete (var 0) (var 1) (var 2) (var 3) (var 4) (var 5) (var 6) (var 7) (var 8) ⊗ dote (var 9) (var 10) (var 11) (var 12) (var 13) (var 14))
    (dote (var 3) (var 4) (var 5) (var 9) (var 10) (var 11) ⊗ dete (var 6) (var 7) (var 8) (var 0) (var 1) (var 2) (var 12) (var 13) (var 14)
    ⊕ (dote (var 6) (var 7) (var 8) (var 9) (var 10) (var 11) ⊗ dete (var 0) (var 1) (var 2) (var 3) (var 4) (var 5) (var 12) (var 13) (var 14)
    ⊕ dote (var 0) (var 1) (var 2) (var 9) (var 10) (var 11) ⊗ dete (var 3) (var 4) (var 5) (var 6) (var 7) (var 8) (var 12) (var 13) (var 14))) refl

both_zero : (c d u v : ℤ) → u ≡ pos 0 → v ≡ pos 0 → c *ℤ u -ℤ d *ℤ v ≡ pos 0
both_zero c d u v eu ev = gone (c *ℤ u) (d *ℤ v) (zero_right c u eu) (zero_right d v ev)
  where
    gone : (x y : ℤ) → x ≡ pos 0 → y ≡ pos 0 → x -ℤ y ≡ pos 0
    gone x y p q = omega (arith, ints)

pub way_on : (h : Plane) (c d : Point) → value h c ≡ pos 0 → value h d ≡ pos 0 → dot (normal h) (way_between c d) ≡ pos 0
way_on h c d ec ed = way-value h c d ∙ both_zero c.w d.w (value h d) (value h c) ed ec

way_up : (h : Plane) (c d : Point) → IsPoint c → value h c ≡ pos 0 → pos 0 <ℤ value h d → pos 0 <ℤ dot (normal h) (way_between c d)
way_up h c d is ec up = subst (λ x. pos 0 <ℤ x) (sym (way-value h c d)) (more (c.w *ℤ value h d) (d.w *ℤ value h c) (mul_positive c.w (value h d) is up) (zero_right d.w (value h c) ec))
  where
    more : (x y : ℤ) → pos 0 <ℤ x → y ≡ pos 0 → pos 0 <ℤ (x -ℤ y)
    more x y h e = omega (arith, ints)

-- the way of an edge
abbrev pub way_of : Step → Vector
way_of e = way_between e.start e.end

-- the way of an edge along t, times a positive number, is its side's part along the first half-plane, times another one
pub runs_as : (s : Plane) (e : Step) (t : Vector) → IsEdgeOf s e → turn s e.prev e.side *ℤ dot (way_of e) t ≡ dot (normal e.prev) (way_of e) *ℤ dot (normal e.side) (direction true (normal s) t)
runs_as s e t is =
    dual (normal s) (normal e.prev) (normal e.side) (way_of e) t
    ∙ plain (dot (normal e.prev) (way_of e) *ℤ dot (normal e.side) (cross (normal s) t)) (dot (normal e.side) (way_of e) *ℤ dot (normal s) (cross (normal e.prev) t)) (dot (normal s) (way_of e) *ℤ dot (normal e.prev) (cross (normal e.side) t))
    (zero_left (dot (normal e.side) (way_of e)) (dot (normal s) (cross (normal e.prev) t)) (way_on e.side e.start e.end is.start_side is.end_side))
    (zero_left (dot (normal s) (way_of e)) (dot (normal e.prev) (cross (normal e.side) t)) (way_on s e.start e.end is.start_on is.end_on))
  where
    plain : (x y z : ℤ) → y ≡ pos 0 → z ≡ pos 0 → x +ℤ (y +ℤ z) ≡ x
    plain x y z p q = omega (arith, ints)

pub prev_up : (s : Plane) (e : Step) → IsEdgeOf s e → pos 0 <ℤ dot (normal e.prev) (way_of e)
prev_up s e is = way_up e.prev e.start e.end is.start_point is.start_prev is.inside_prev

pub negative_right : (a b : ℤ) → pos 0 <ℤ a → (a *ℤ b) <ℤ pos 0 → b <ℤ pos 0
negative_right a b h low = elim (sign_cases b) [
  | inl n ↦ n
  | inr (inl z) ↦ absurd (level (a *ℤ b) (zero_right a b z) low)
  | inr (inr p) ↦ absurd (clash (a *ℤ b) (mul_positive a b h p) low)
]
  where
    level : (x : ℤ) → x ≡ pos 0 → x <ℤ pos 0 → ⊥
    level x e h = omega (arith, ints)

    clash : (x : ℤ) → pos 0 <ℤ x → x <ℤ pos 0 → ⊥
    clash x h k = omega (arith, ints)

-- numbers with one positive multiple have one sign
pub strictly_as : (b : Bool) (k l x y : ℤ) → pos 0 <ℤ k → pos 0 <ℤ l → k *ℤ x ≡ l *ℤ y → IsStrictly b x → IsStrictly b y
strictly_as true k l x y hk hl e h = positive_right l y hl (subst (λ v. pos 0 <ℤ v) e (mul_positive k x hk h))
strictly_as false k l x y hk hl e h = negative_right l y hl (subst (λ v. v <ℤ pos 0) e (mul_negative k x hk h))

-- an edge runs along t where its side keeps the first half-plane, and against t where it keeps the second
pub runs_to_side : (b : Bool) (s : Plane) (e : Step) (t : Vector) → IsEdgeOf s e → IsStrictly b (dot (way_of e) t) → IsStrictly b (dot (normal e.side) (direction true (normal s) t))
runs_to_side b s e t is h = strictly_as b (turn s e.prev e.side) (dot (normal e.prev) (way_of e)) (dot (way_of e) t) (dot (normal e.side) (direction true (normal s) t)) is.left (prev_up s e is) (runs_as s e t is) h

pub side_to_runs : (b : Bool) (s : Plane) (e : Step) (t : Vector) → IsEdgeOf s e → IsStrictly b (dot (normal e.side) (direction true (normal s) t)) → IsStrictly b (dot (way_of e) t)
side_to_runs b s e t is h = strictly_as b (dot (normal e.prev) (way_of e)) (turn s e.prev e.side) (dot (normal e.side) (direction true (normal s) t)) (dot (way_of e) t) (prev_up s e is) is.left (sym (runs_as s e t is)) h

-- the part along the second half-plane is that along the first, turned round
pub second_turned : (b a t : Vector) → dot b (direction false a t) ≡ neg_ℤ (dot b (direction true a t))
second_turned b a t = direction_false b a t ∙ det_turned b a t

-- the side keeps the half-plane of its flag, and not the other one
pub keeps_own : (b : Bool) (e a t : Vector) → IsStrictly b (dot e (direction true a t)) → pos 0 <ℤ dot e (direction b a t)
keeps_own true e a t h = h
keeps_own false e a t h = subst (λ x. pos 0 <ℤ x) (sym (second_turned e a t)) (up (dot e (direction true a t)) h)
  where
    up : (x : ℤ) → x <ℤ pos 0 → pos 0 <ℤ neg_ℤ x
    up x h = omega (arith, ints)

pub loses_other : (b : Bool) (e a t : Vector) → IsStrictly b (dot e (direction true a t)) → pos 0 <ℤ dot e (direction (not b) a t) → ⊥
loses_other true e a t h k = clash (dot e (direction true a t)) h (subst (λ x. pos 0 <ℤ x) (second_turned e a t) k)
  where
    clash : (x : ℤ) → pos 0 <ℤ x → pos 0 <ℤ neg_ℤ x → ⊥
    clash x h k = omega (arith, ints)
loses_other false e a t h k = clash (dot e (direction true a t)) h k
  where
    clash : (x : ℤ) → x <ℤ pos 0 → pos 0 <ℤ x → ⊥
    clash x h k = omega (arith, ints)

-- ---- an edge on the line has a direction
spread : (k l : ℤ) (s p e : Vector) → k *ℤ dot s (cross p e) ≡ l *ℤ dot s (cross p s) +ℤ ((s.x *ℤ (p.y *ℤ (k *ℤ e.z -ℤ l *ℤ s.z) -ℤ p.z *ℤ (k *ℤ e.y -ℤ l *ℤ s.y)) +ℤ s.y *ℤ (p.z *ℤ (k *ℤ e.x -ℤ l *ℤ s.x) -ℤ p.x *ℤ (k *ℤ e.z -ℤ l *ℤ s.z))) +ℤ s.z *ℤ (p.x *ℤ (k *ℤ e.y -ℤ l *ℤ s.y) -ℤ p.y *ℤ (k *ℤ e.x -ℤ l *ℤ s.x)))
spread k l s p e = ring (k ∷ (l ∷ (s.x ∷ (s.y ∷ (s.z ∷ (p.x ∷ (p.y ∷ (p.z ∷ (e.x ∷ (e.y ∷ (e.z ∷ [])))))))))))
    (var 0 ⊗ dete (var 2) (var 3) (var 4) (var 5) (var 6) (var 7) (var 8) (var 9) (var 10))
    (var 1 ⊗ dete (var 2) (var 3) (var 4) (var 5) (var 6) (var 7) (var 2) (var 3) (var 4)
    ⊕ ((var 2 ⊗ (var 6 ⊗ (var 0 ⊗ var 10 ⊖ var 1 ⊗ var 4) ⊖ var 7 ⊗ (var 0 ⊗ var 9 ⊖ var 1 ⊗ var 3)) ⊕ var 3 ⊗ (var 7 ⊗ (var 0 ⊗ var 8 ⊖ var 1 ⊗ var 2) ⊖ var 5 ⊗ (var 0 ⊗ var 10 ⊖ var 1 ⊗ var 4))) ⊕ var 4 ⊗ (var 5 ⊗ (var 0 ⊗ var 9 ⊖ var 1 ⊗ var 3) ⊖ var 6 ⊗ (var 0 ⊗ var 8 ⊖ var 1 ⊗ var 2)))) refl

level_turn : (s p : Vector) → dot s (cross p s) ≡ pos 0
level_turn s p = ring (s.x ∷ (s.y ∷ (s.z ∷ (p.x ∷ (p.y ∷ (p.z ∷ [])))))) (dete (var 0) (var 1) (var 2) (var 3) (var 4) (var 5) (var 0) (var 1) (var 2)) (con (pos 0)) refl

flat_turn : (s p e : Vector) → AreAlong s e → pos 0 <ℤ dot s s → dot s (cross p e) ≡ pos 0
flat_turn s p e a some = cancel_zero (dot s s) (dot s (cross p e)) (off (dot s s) some)
    (spread (dot s s) (dot s e) s p e
    ∙ vanish (dot s e) (dot s (cross p s)) s.x s.y s.z p.x p.y p.z (dot s s *ℤ e.x -ℤ dot s e *ℤ s.x) (dot s s *ℤ e.y -ℤ dot s e *ℤ s.y) (dot s s *ℤ e.z -ℤ dot s e *ℤ s.z) (level_turn s p)
    (apart (dot s s *ℤ e.x) (dot s e *ℤ s.x) a.on_x) (apart (dot s s *ℤ e.y) (dot s e *ℤ s.y) a.on_y) (apart (dot s s *ℤ e.z) (dot s e *ℤ s.z) a.on_z))
  where
    off : (x : ℤ) → pos 0 <ℤ x → x ≢ pos 0
    off x h e = omega (arith, ints)

    apart : (x y : ℤ) → x ≡ y → x -ℤ y ≡ pos 0
    apart x y e = omega (arith, ints)

    sum : (w x y z : ℤ) → w ≡ pos 0 → x ≡ pos 0 → y ≡ pos 0 → z ≡ pos 0 → w +ℤ ((x +ℤ y) +ℤ z) ≡ pos 0
    sum w x y z a b c d = omega (arith, ints)

    vanish : (l q sx sy sz px py pz dx dy dz : ℤ) → q ≡ pos 0 → dx ≡ pos 0 → dy ≡ pos 0 → dz ≡ pos 0
        → l *ℤ q +ℤ ((sx *ℤ (py *ℤ dz -ℤ pz *ℤ dy) +ℤ sy *ℤ (pz *ℤ dx -ℤ px *ℤ dz)) +ℤ sz *ℤ (px *ℤ dy -ℤ py *ℤ dx)) ≡ pos 0
    vanish l q sx sy sz px py pz dx dy dz eq ex ey ez = sum (l *ℤ q) (sx *ℤ (py *ℤ dz -ℤ pz *ℤ dy)) (sy *ℤ (pz *ℤ dx -ℤ px *ℤ dz)) (sz *ℤ (px *ℤ dy -ℤ py *ℤ dx))
        (zero_right l q eq) (zero_right sx (py *ℤ dz -ℤ pz *ℤ dy) (both_zero py pz dz dy ez ey)) (zero_right sy (pz *ℤ dx -ℤ px *ℤ dz) (both_zero pz px dx dz ex ez)) (zero_right sz (px *ℤ dy -ℤ py *ℤ dx) (both_zero px py dy dx ey ex))

-- an edge on the line runs along it or against it
pub edge_runs : (s : Plane) (e : Step) (t : Vector) → IsEdgeOf s e → pos 0 <ℤ dot (normal s) (normal s) → pos 0 <ℤ dot t t → dot (normal s) t ≡ pos 0 → dot (normal e.side) t ≡ pos 0
    → (b : Bool) × IsStrictly b (dot (way_of e) t)
edge_runs s e t is some line on_s on_e = elim (sign_cases (dot (normal e.side) (direction true (normal s) t))) [
  | inl low ↦ (false, side_to_runs false s e t is low)
  | inr (inl none) ↦ absurd (up (turn s e.prev e.side) is.left (flat_turn (normal s) (normal e.prev) (normal e.side) (along (normal s) (normal e.side) t line on_s on_e (turned (det (normal s) (normal e.side) t) (det (normal e.side) (normal s) t) (det_turned (normal s) (normal e.side) t) none)) some))
  | inr (inr high) ↦ (true, side_to_runs true s e t is high)
]
  where
    up : (x : ℤ) → pos 0 <ℤ x → x ≡ pos 0 → ⊥
    up x h e = omega (arith, ints)

    turned : (x y : ℤ) → y ≡ neg_ℤ x → y ≡ pos 0 → x ≡ pos 0
    turned x y e z = omega (arith, ints)
