-- Points that span an area of a plane: what vanishes at three of them vanishes on the whole plane, and corners of a convex
-- cycle span one.
use Rattle.std.proofs.Common.{◌≡◌, List, [], ◌∷◌, ℤ, pos, ◌+ℤ◌, ◌-ℤ◌, ◌*ℤ◌, ◌<ℤ◌, ◌≤ℤ◌, ◌⊎◌, inl, inr, refl, sym, ap, subst, ◌∙◌, arith}
use Rattle.std.specs.Prelude.{◌≢◌}
use Rattle.std.proofs.lemmas.Int.{ints}
use Rattle.integer_laws.proofs.Ring.{Expr, var, ◌⊕◌, ◌⊗◌, ◌⊖◌, ring, *ℤ_comm}
use Rattle.integer_laws.proofs.Signs.{mul_positive, square_positive}
use Rattle.integer_laws.proofs.Products.{cancel_zero, cancel_factor, zero_left, zero_right}
use Rattle.spec_space.specs.declared.Point.{Point}
use Rattle.spec_space.specs.declared.Plane.{Plane}
use Rattle.spec_space.specs.declared.Vector.{Vector}
use Rattle.spec_space.specs.Points.{IsPoint, value, normal, dot, cross, way_between}
use Rattle.integer_laws.proofs.Cancel.{sign_cases}
use Rattle.convex_cycles.specs.Areas.{AreSpread}
use Rattle.convex_cycles.specs.Cycles.{Step, IsEdgeOf, Follows, turn}

-- ---- identities of vectors
pub record Three : Type 0 where
  pub x : Expr
  pub y : Expr
  pub z : Expr

abbrev three : Expr → Expr → Expr → Three
three a b c = record { x = a; y = b; z = c }

abbrev dote : Three → Three → Expr
dote u v = u.x ⊗ v.x ⊕ u.y ⊗ v.y ⊕ u.z ⊗ v.z

abbrev crosse : Three → Three → Three
crosse u v = three (u.y ⊗ v.z ⊖ u.z ⊗ v.y) (u.z ⊗ v.x ⊖ u.x ⊗ v.z) (u.x ⊗ v.y ⊖ u.y ⊗ v.x)

five_list : Vector → Vector → Vector → Vector → Vector → List ℤ
five_list k n u v t = k.x ∷ (k.y ∷ (k.z ∷ (n.x ∷ (n.y ∷ (n.z ∷ (u.x ∷ (u.y ∷ (u.z ∷ (v.x ∷ (v.y ∷ (v.z ∷ (t.x ∷ (t.y ∷ (t.z ∷ []))))))))))))))

abbrev ke : Three
ke = three (var 0) (var 1) (var 2)

abbrev ne : Three
ne = three (var 3) (var 4) (var 5)

abbrev ue : Three
ue = three (var 6) (var 7) (var 8)

abbrev ve : Three
ve = three (var 9) (var 10) (var 11)

abbrev te : Three
te = three (var 12) (var 13) (var 14)

-- four vectors in space: what one linear form gives them
four_vectors : (k n u v t : Vector) → dot n (cross u v) *ℤ dot k t ≡ dot t (cross u v) *ℤ dot k n +ℤ (dot n (cross t v) *ℤ dot k u +ℤ dot n (cross u t) *ℤ dot k v)
unfolding five_list
four_vectors k n u v t =
    ring (five_list k n u v t)
    (dote ne (crosse ue ve) ⊗ dote ke te)
    (dote te (crosse ue ve) ⊗ dote ke ne ⊕ (dote ne (crosse te ve) ⊗ dote ke ue ⊕ dote ne (crosse ue te) ⊗ dote ke ve)) refl

-- the product of two determinants with the vector n in both
two_turns : (k n u v t : Vector) → dot n (cross k t) *ℤ dot n (cross u v) ≡ dot n n *ℤ (dot k u *ℤ dot t v -ℤ dot k v *ℤ dot t u)
    +ℤ (dot n u *ℤ (dot k v *ℤ dot t n -ℤ dot k n *ℤ dot t v) +ℤ dot n v *ℤ (dot k n *ℤ dot t u -ℤ dot k u *ℤ dot t n))
unfolding five_list
two_turns k n u v t =
    ring (five_list k n u v t)
    (dote ne (crosse ke te) ⊗ dote ne (crosse ue ve))
    (dote ne ne ⊗ (dote ke ue ⊗ dote te ve ⊖ dote ke ve ⊗ dote te ue)
    ⊕ (dote ne ue ⊗ (dote ke ve ⊗ dote te ne ⊖ dote ke ne ⊗ dote te ve) ⊕ dote ne ve ⊗ (dote ke ne ⊗ dote te ue ⊖ dote ke ue ⊗ dote te ne))) refl

four_list : Vector → Vector → Vector → Vector → List ℤ
four_list k n u v = k.x ∷ (k.y ∷ (k.z ∷ (n.x ∷ (n.y ∷ (n.z ∷ (u.x ∷ (u.y ∷ (u.z ∷ (v.x ∷ (v.y ∷ (v.z ∷ [])))))))))))

-- two vectors across the same two
across_x : (k n u v : Vector) → dot n (cross u v) *ℤ k.x ≡ dot k (cross u v) *ℤ n.x
    +ℤ (dot n u *ℤ (cross k v).x +ℤ (dot n v *ℤ (cross u k).x +ℤ (dot k v *ℤ (cross n u).x +ℤ dot k u *ℤ (cross v n).x)))
unfolding four_list
across_x k n u v =
    ring (four_list k n u v)
    (dote ne (crosse ue ve) ⊗ ke.x)
    (dote ke (crosse ue ve) ⊗ ne.x
    ⊕ (dote ne ue ⊗ (crosse ke ve).x ⊕ (dote ne ve ⊗ (crosse ue ke).x ⊕ (dote ke ve ⊗ (crosse ne ue).x ⊕ dote ke ue ⊗ (crosse ve ne).x)))) refl

across_y : (k n u v : Vector) → dot n (cross u v) *ℤ k.y ≡ dot k (cross u v) *ℤ n.y
    +ℤ (dot n u *ℤ (cross k v).y +ℤ (dot n v *ℤ (cross u k).y +ℤ (dot k v *ℤ (cross n u).y +ℤ dot k u *ℤ (cross v n).y)))
unfolding four_list
across_y k n u v =
    ring (four_list k n u v)
    (dote ne (crosse ue ve) ⊗ ke.y)
    (dote ke (crosse ue ve) ⊗ ne.y
    ⊕ (dote ne ue ⊗ (crosse ke ve).y ⊕ (dote ne ve ⊗ (crosse ue ke).y ⊕ (dote ke ve ⊗ (crosse ne ue).y ⊕ dote ke ue ⊗ (crosse ve ne).y)))) refl

across_z : (k n u v : Vector) → dot n (cross u v) *ℤ k.z ≡ dot k (cross u v) *ℤ n.z
    +ℤ (dot n u *ℤ (cross k v).z +ℤ (dot n v *ℤ (cross u k).z +ℤ (dot k v *ℤ (cross n u).z +ℤ dot k u *ℤ (cross v n).z)))
unfolding four_list
across_z k n u v =
    ring (four_list k n u v)
    (dote ne (crosse ue ve) ⊗ ke.z)
    (dote ke (crosse ue ve) ⊗ ne.z
    ⊕ (dote ne ue ⊗ (crosse ke ve).z ⊕ (dote ne ve ⊗ (crosse ue ke).z ⊕ (dote ke ve ⊗ (crosse ne ue).z ⊕ dote ke ue ⊗ (crosse ve ne).z)))) refl

none_of_four : (t a b c d x y z w : ℤ) → a ≡ pos 0 → b ≡ pos 0 → c ≡ pos 0 → d ≡ pos 0 → t +ℤ (a *ℤ x +ℤ (b *ℤ y +ℤ (c *ℤ z +ℤ d *ℤ w))) ≡ t
none_of_four t a b c d x y z w ea eb ec ed = drops t (a *ℤ x) (b *ℤ y) (c *ℤ z) (d *ℤ w) (zero_left a x ea) (zero_left b y eb) (zero_left c z ec) (zero_left d w ed)
  where
    drops : (t a b c d : ℤ) → a ≡ pos 0 → b ≡ pos 0 → c ≡ pos 0 → d ≡ pos 0 → t +ℤ (a +ℤ (b +ℤ (c +ℤ d))) ≡ t
    drops t a b c d ea eb ec ed = omega (arith, ints)

none_of_two : (t a b x y : ℤ) → x ≡ pos 0 → y ≡ pos 0 → t +ℤ (a *ℤ x +ℤ b *ℤ y) ≡ t
none_of_two t a b x y ex ey = drops t (a *ℤ x) (b *ℤ y) (zero_right a x ex) (zero_right b y ey)
  where
    drops : (t a b : ℤ) → a ≡ pos 0 → b ≡ pos 0 → t +ℤ (a +ℤ b) ≡ t
    drops t a b ea eb = omega (arith, ints)

-- ---- ways between points
abbrev waye : Three → Expr → Three → Expr → Three
waye p v q w = three (q.x ⊗ v ⊖ p.x ⊗ w) (q.y ⊗ v ⊖ p.y ⊗ w) (q.z ⊗ v ⊖ p.z ⊗ w)

-- what a plane changes on the way between two points
way_change : (h : Plane) (p q : Point) → dot (normal h) (way_between p q) ≡ p.w *ℤ value h q -ℤ q.w *ℤ value h p
way_change h p q =
    let numbers : List ℤ = h.a ∷ (h.b ∷ (h.c ∷ (h.d ∷ (p.x ∷ (p.y ∷ (p.z ∷ (p.w ∷ (q.x ∷ (q.y ∷ (q.z ∷ (q.w ∷ []))))))))))) in
    let h_normal = three (var 0) (var 1) (var 2) in
    let from = three (var 4) (var 5) (var 6) in
    let to = three (var 8) (var 9) (var 10) in
    ring numbers
    (dote h_normal (waye from (var 7) to (var 11)))
    (var 7 ⊗ (dote h_normal to ⊖ var 3 ⊗ var 11) ⊖ var 11 ⊗ (dote h_normal from ⊖ var 3 ⊗ var 7)) refl

way_from : (h : Plane) (p q : Point) → value h p ≡ pos 0 → dot (normal h) (way_between p q) ≡ p.w *ℤ value h q
way_from h p q e = way_change h p q ∙ minus_none (p.w *ℤ value h q) (q.w *ℤ value h p) (zero_right q.w (value h p) e)
  where
    minus_none : (x y : ℤ) → y ≡ pos 0 → x -ℤ y ≡ x
    minus_none x y e = omega (arith, ints)

-- a way within a plane
pub way_within : (h : Plane) (p q : Point) → value h p ≡ pos 0 → value h q ≡ pos 0 → dot (normal h) (way_between p q) ≡ pos 0
way_within h p q ep eq = way_from h p q ep ∙ zero_right p.w (value h q) eq

abbrev place : Point → Vector
place p = record { x = p.x; y = p.y; z = p.z }

-- the area of three points is a multiple of the weight of the first
area_weight : (n : Vector) (p q r : Point) → dot n (cross (way_between p q) (way_between p r))
    ≡ p.w *ℤ (p.w *ℤ dot n (cross (place q) (place r)) +ℤ q.w *ℤ dot n (cross (place r) (place p)) +ℤ r.w *ℤ dot n (cross (place p) (place q)))
area_weight n p q r =
    let numbers : List ℤ = n.x ∷ (n.y ∷ (n.z ∷ (p.x ∷ (p.y ∷ (p.z ∷ (p.w ∷ (q.x ∷ (q.y ∷ (q.z ∷ (q.w ∷ (r.x ∷ (r.y ∷ (r.z ∷ (r.w ∷ [])))))))))))))) in
    let m = three (var 0) (var 1) (var 2) in
    let first = three (var 3) (var 4) (var 5) in
    let second = three (var 7) (var 8) (var 9) in
    let third = three (var 11) (var 12) (var 13) in
    ring numbers
    (dote m (crosse (waye first (var 6) second (var 10)) (waye first (var 6) third (var 14))))
    (var 6 ⊗ (var 6 ⊗ dote m (crosse second third) ⊕ var 10 ⊗ dote m (crosse third first) ⊕ var 14 ⊗ dote m (crosse first second))) refl

spread_weight : (s : Plane) (p q r : Point) → AreSpread s p q r → p.w ≢ pos 0
spread_weight s p q r spread z = spread (area_weight (normal s) p q r ∙ zero_left p.w _ z)

-- ---- the square of a normal
zero_or_not : (a : ℤ) → (a ≡ pos 0) ⊎ (a ≢ pos 0)
zero_or_not a = elim (sign_cases a) [
  | inl n ↦ inr (λ z. below a n z)
  | inr (inl z) ↦ inl z
  | inr (inr p) ↦ inr (λ z. above a p z)
]
  where
    below : (a : ℤ) → a <ℤ pos 0 → a ≡ pos 0 → ⊥
    below a h z = omega (arith, ints)

    above : (a : ℤ) → pos 0 <ℤ a → a ≡ pos 0 → ⊥
    above a h z = omega (arith, ints)

square_nonneg : (a : ℤ) → pos 0 ≤ℤ (a *ℤ a)
square_nonneg a = elim (zero_or_not a) [
  | inl z ↦ none (a *ℤ a) (zero_left a a z)
  | inr h ↦ weaker (a *ℤ a) (square_positive a h)
]
  where
    none : (x : ℤ) → x ≡ pos 0 → pos 0 ≤ℤ x
    none x e = omega (arith, ints)

    weaker : (x : ℤ) → pos 0 <ℤ x → pos 0 ≤ℤ x
    weaker x h = omega (arith, ints)

squares_vanish : (a b c : ℤ) → a *ℤ a +ℤ b *ℤ b +ℤ c *ℤ c ≡ pos 0 → (a ≡ pos 0) × (b ≡ pos 0) × (c ≡ pos 0)
squares_vanish a b c e =
    let parts = each (a *ℤ a) (b *ℤ b) (c *ℤ c) (square_nonneg a) (square_nonneg b) (square_nonneg c) e in
    (root a parts.0, root b parts.1, root c parts.2)
  where
    each : (x y z : ℤ) → pos 0 ≤ℤ x → pos 0 ≤ℤ y → pos 0 ≤ℤ z → x +ℤ y +ℤ z ≡ pos 0 → (x ≡ pos 0) × (y ≡ pos 0) × (z ≡ pos 0)
    each x y z hx hy hz e = (omega (arith, ints), omega (arith, ints), omega (arith, ints))

    clash : (x : ℤ) → x ≡ pos 0 → pos 0 <ℤ x → ⊥
    clash x e h = omega (arith, ints)

    root : (a : ℤ) → a *ℤ a ≡ pos 0 → a ≡ pos 0
    root a e = elim (zero_or_not a) [
      | inl z ↦ z
      | inr h ↦ absurd (clash (a *ℤ a) e (square_positive a h))
    ]

-- a plane in which something has area has a normal
pub spread_normal : (s : Plane) (p q r : Point) → AreSpread s p q r → dot (normal s) (normal s) ≢ pos 0
spread_normal s p q r spread e =
    let n = squares_vanish s.a s.b s.c e in
    let v = cross (way_between p q) (way_between p r) in
    spread (all (s.a *ℤ v.x) (s.b *ℤ v.y) (s.c *ℤ v.z) (zero_left s.a v.x n.0) (zero_left s.b v.y n.1) (zero_left s.c v.z n.2))
  where
    all : (x y z : ℤ) → x ≡ pos 0 → y ≡ pos 0 → z ≡ pos 0 → x +ℤ y +ℤ z ≡ pos 0
    all x y z ex ey ez = omega (arith, ints)

-- ---- a plane through three points that span an area of s
-- it holds each point of s
pub held_by_spread : (s k : Plane) (p q r x : Point) → value s p ≡ pos 0 → value s q ≡ pos 0 → value s r ≡ pos 0 → value s x ≡ pos 0
    → value k p ≡ pos 0 → value k q ≡ pos 0 → value k r ≡ pos 0 → AreSpread s p q r → value k x ≡ pos 0
held_by_spread s k p q r x sp sq sr sx kp kq kr spread =
    let u = way_between p q in
    let v = way_between p r in
    let t = way_between p x in
    let n = normal s in
    let flat : dot t (cross u v) *ℤ dot n n ≡ pos 0 =
    sym (four_vectors n n u v t ∙ none_of_two _ _ _ (dot n u) (dot n v) (way_within s p q sp sq) (way_within s p r sp sr)) ∙ zero_right _ (dot n t) (way_within s p x sp sx) in
    let level : dot t (cross u v) ≡ pos 0 = cancel_zero (dot n n) (dot t (cross u v)) (spread_normal s p q r spread) (*ℤ_comm (dot n n) (dot t (cross u v)) ∙ flat) in
    let held : dot n (cross u v) *ℤ dot (normal k) t ≡ pos 0 =
    four_vectors (normal k) n u v t ∙ none_of_two _ _ _ (dot (normal k) u) (dot (normal k) v) (way_within k p q kp kq) (way_within k p r kp kr)
    ∙ zero_left (dot t (cross u v)) (dot (normal k) n) level in
    cancel_zero p.w (value k x) (spread_weight s p q r spread) (sym (way_from k p x kp) ∙ cancel_zero (dot n (cross u v)) (dot (normal k) t) spread held)

-- its numbers are those of s, but for a factor
pub record AreMultiples (k s : Plane) : Type 0 where
  pub first : ℤ
  pub second : ℤ
  pub some : first ≢ pos 0
  pub same_a : first *ℤ k.a ≡ second *ℤ s.a
  pub same_b : first *ℤ k.b ≡ second *ℤ s.b
  pub same_c : first *ℤ k.c ≡ second *ℤ s.c
  pub same_d : first *ℤ k.d ≡ second *ℤ s.d

-- the distances, from the normals and a point of both
same_distance : (s k : Plane) (p : Point) (m n : ℤ) → p.w ≢ pos 0 → value s p ≡ pos 0 → value k p ≡ pos 0
    → m *ℤ k.a ≡ n *ℤ s.a → m *ℤ k.b ≡ n *ℤ s.b → m *ℤ k.c ≡ n *ℤ s.c → m *ℤ k.d ≡ n *ℤ s.d
same_distance s k p m n some sp kp ea eb ec =
    cancel_factor p.w (m *ℤ k.d) (n *ℤ s.d) some
    (out k m ∙ none (m *ℤ k.a *ℤ p.x +ℤ m *ℤ k.b *ℤ p.y +ℤ m *ℤ k.c *ℤ p.z) (m *ℤ value k p) (zero_right m (value k p) kp)
    ∙ sums (m *ℤ k.a) (m *ℤ k.b) (m *ℤ k.c) (n *ℤ s.a) (n *ℤ s.b) (n *ℤ s.c) ea eb ec
    ∙ sym (none (n *ℤ s.a *ℤ p.x +ℤ n *ℤ s.b *ℤ p.y +ℤ n *ℤ s.c *ℤ p.z) (n *ℤ value s p) (zero_right n (value s p) sp)) ∙ sym (out s n))
  where
    out : (h : Plane) (m : ℤ) → p.w *ℤ (m *ℤ h.d) ≡ (m *ℤ h.a *ℤ p.x +ℤ m *ℤ h.b *ℤ p.y +ℤ m *ℤ h.c *ℤ p.z) -ℤ m *ℤ value h p
    out h m =
        let numbers : List ℤ = h.a ∷ (h.b ∷ (h.c ∷ (h.d ∷ (p.x ∷ (p.y ∷ (p.z ∷ (p.w ∷ (m ∷ [])))))))) in
        ring numbers (var 7 ⊗ (var 8 ⊗ var 3))
        ((var 8 ⊗ var 0 ⊗ var 4 ⊕ var 8 ⊗ var 1 ⊗ var 5 ⊕ var 8 ⊗ var 2 ⊗ var 6) ⊖ var 8 ⊗ (dote (three (var 0) (var 1) (var 2)) (three (var 4) (var 5) (var 6)) ⊖ var 3 ⊗ var 7)) refl

    none : (x y : ℤ) → y ≡ pos 0 → x -ℤ y ≡ x
    none x y e = omega (arith, ints)

    sums : (a b c e f g : ℤ) → a ≡ e → b ≡ f → c ≡ g → a *ℤ p.x +ℤ b *ℤ p.y +ℤ c *ℤ p.z ≡ e *ℤ p.x +ℤ f *ℤ p.y +ℤ g *ℤ p.z
    sums a b c e f g ea eb ec = rw (ea, eb, ec) refl

pub multiples_by_spread : (s k : Plane) (p q r : Point) → value s p ≡ pos 0 → value s q ≡ pos 0 → value s r ≡ pos 0
    → value k p ≡ pos 0 → value k q ≡ pos 0 → value k r ≡ pos 0 → AreSpread s p q r → AreMultiples k s
multiples_by_spread s k p q r sp sq sr kp kq kr spread =
    let u = way_between p q in
    let v = way_between p r in
    let n = normal s in
    let h = normal k in
    let nu = way_within s p q sp sq in
    let nv = way_within s p r sp sr in
    let hu = way_within k p q kp kq in
    let hv = way_within k p r kp kr in
    let a = across_x h n u v ∙ none_of_four _ (dot n u) (dot n v) (dot h v) (dot h u) _ _ _ _ nu nv hv hu in
    let b = across_y h n u v ∙ none_of_four _ (dot n u) (dot n v) (dot h v) (dot h u) _ _ _ _ nu nv hv hu in
    let c = across_z h n u v ∙ none_of_four _ (dot n u) (dot n v) (dot h v) (dot h u) _ _ _ _ nu nv hv hu in
    record {
      first = dot n (cross u v);
      second = dot h (cross u v);
      some = spread;
      same_a = a;
      same_b = b;
      same_c = c;
      same_d = same_distance s k p (dot n (cross u v)) (dot h (cross u v)) (spread_weight s p q r spread) sp kp a b c;
    }

-- where a number of k is not 0, the second factor is not 0 either
pub second_factor : (k s : Plane) (m : AreMultiples k s) → ((k.a ≡ pos 0) × (k.b ≡ pos 0) × (k.c ≡ pos 0) × (k.d ≡ pos 0) → ⊥) → m.second ≢ pos 0
second_factor k s m some z = some (
  cancel_zero m.first k.a m.some (m.same_a ∙ zero_left m.second s.a z),
  cancel_zero m.first k.b m.some (m.same_b ∙ zero_left m.second s.b z),
  cancel_zero m.first k.c m.some (m.same_c ∙ zero_left m.second s.c z),
  cancel_zero m.first k.d m.some (m.same_d ∙ zero_left m.second s.d z),
)

-- ---- corners of a convex cycle
-- three points, the second and third each strictly inside the side of the other two
spread_by_sides : (s g h : Plane) (p q r : Point) → IsPoint p → value s p ≡ pos 0 → value s q ≡ pos 0 → value s r ≡ pos 0
    → value g p ≡ pos 0 → value h p ≡ pos 0 → value h q ≡ pos 0 → value g r ≡ pos 0 → pos 0 <ℤ value g q → pos 0 <ℤ value h r → pos 0 <ℤ turn s g h → AreSpread s p q r
spread_by_sides s g h p q r wp sp sq sr gp hp hq gr above_q above_r left flat =
    let u = way_between p q in
    let v = way_between p r in
    let n = normal s in
    let gu : dot (normal g) u ≡ p.w *ℤ value g q = way_from g p q gp in
    let hv : dot (normal h) v ≡ p.w *ℤ value h r = way_from h p r hp in
    let product : turn s g h *ℤ dot n (cross u v) ≡ dot n n *ℤ (dot (normal g) u *ℤ dot (normal h) v -ℤ dot (normal g) v *ℤ dot (normal h) u) =
    two_turns (normal g) n u v (normal h) ∙ none_left (dot n n *ℤ (dot (normal g) u *ℤ dot (normal h) v -ℤ dot (normal g) v *ℤ dot (normal h) u)) (dot n u) (dot n v) _ _ (way_within s p q sp sq) (way_within s p r sp sr) in
    let inner = minus_none (dot (normal g) u *ℤ dot (normal h) v) (dot (normal g) v *ℤ dot (normal h) u) (zero_left (dot (normal g) v) _ (way_within g p r gp gr)) in
    let above : pos 0 <ℤ (dot (normal g) u *ℤ dot (normal h) v) = mul_positive _ _ (subst (λ x. pos 0 <ℤ x) (sym gu) (mul_positive p.w (value g q) wp above_q)) (subst (λ x. pos 0 <ℤ x) (sym hv) (mul_positive p.w (value h r) wp above_r)) in
    let normal_none : dot n n ≡ pos 0 = cancel_zero (dot (normal g) u *ℤ dot (normal h) v) (dot n n) (not_zero _ above)
    (*ℤ_comm (dot (normal g) u *ℤ dot (normal h) v) (dot n n) ∙ ap (λ x. dot n n *ℤ x) (sym inner) ∙ sym product ∙ zero_right (turn s g h) _ flat) in
    let z = squares_vanish s.a s.b s.c normal_none in
    let w = cross (normal g) (normal h) in
    not_zero (turn s g h) left (all (s.a *ℤ w.x) (s.b *ℤ w.y) (s.c *ℤ w.z) (zero_left s.a w.x z.0) (zero_left s.b w.y z.1) (zero_left s.c w.z z.2))
  where
    none_left : (t a b x y : ℤ) → a ≡ pos 0 → b ≡ pos 0 → t +ℤ (a *ℤ x +ℤ b *ℤ y) ≡ t
    none_left t a b x y ea eb = drops t (a *ℤ x) (b *ℤ y) (zero_left a x ea) (zero_left b y eb)
      where
        drops : (t a b : ℤ) → a ≡ pos 0 → b ≡ pos 0 → t +ℤ (a +ℤ b) ≡ t
        drops t a b ea eb = omega (arith, ints)

    minus_none : (x y : ℤ) → y ≡ pos 0 → x -ℤ y ≡ x
    minus_none x y e = omega (arith, ints)

    not_zero : (x : ℤ) → pos 0 <ℤ x → x ≢ pos 0
    not_zero x h e = omega (arith, ints)

    all : (x y z : ℤ) → x ≡ pos 0 → y ≡ pos 0 → z ≡ pos 0 → x +ℤ y +ℤ z ≡ pos 0
    all x y z ex ey ez = omega (arith, ints)

-- a corner with the corners after and before it: e follows f
pub corners_spread : (s : Plane) (e f : Step) → IsEdgeOf s e → IsEdgeOf s f → Follows f e → AreSpread s e.start e.end f.start
corners_spread s e f he hf follows =
    spread_by_sides s e.prev e.side e.start e.end f.start he.start_point he.start_on he.end_on hf.start_on he.start_prev he.start_side he.end_side
    (subst (λ h. value h f.start ≡ pos 0) follows.2 hf.start_side) he.inside_prev (subst (λ h. pos 0 <ℤ value h f.start) follows.1 hf.inside_next) he.left

-- so a plane through these three corners is s
pub all_on : (s k : Plane) (e f : Step) → IsEdgeOf s e → IsEdgeOf s f → Follows f e → value k e.start ≡ pos 0 → value k e.end ≡ pos 0 → value k f.start ≡ pos 0 → AreMultiples k s
all_on s k e f he hf follows start end before = multiples_by_spread s k e.start e.end f.start he.start_on he.end_on hf.start_on start end before (corners_spread s e f he hf follows)
