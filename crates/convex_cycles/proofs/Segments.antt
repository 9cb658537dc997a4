-- Points on a line of a plane, between the two corners of an edge.
use Rattle.std.proofs.Common.{◌≡◌, ◌≢◌, List, [], ◌∷◌, ℤ, pos, ◌+ℤ◌, ◌*ℤ◌, neg_ℤ, ◌<ℤ◌, ◌≤ℤ◌, refl, sym, ap, ◌∙◌, inl, inr, arith}
use Rattle.std.proofs.lemmas.Int.{ints}
use Rattle.integer_laws.proofs.Ring.{Expr, var, neg, ◌⊕◌, ◌⊗◌, ring, *ℤ_comm}
use Rattle.spec_space.specs.declared.Point.{Point}
use Rattle.spec_space.specs.declared.Plane.{Plane}
use Rattle.spec_space.specs.Points.{value}
use Rattle.integer_laws.specs.Determinants.{det3}
use Rattle.integer_laws.proofs.Cramer.{side_value}
use Rattle.integer_laws.proofs.Cancel.{sign_cases, mul_nonpos, nonpos_right}
use Rattle.convex_cycles.proofs.Quotes.{valuee, det3e}
use Rattle.convex_cycles.proofs.Orders.{weaker, turned_up}

-- the determinant of four planes: the side value, at the fourth, of the point that Cramer's rule gives for the first three
abbrev pub det4 : ℤ → ℤ → ℤ → ℤ → ℤ → ℤ → ℤ → ℤ → ℤ → ℤ → ℤ → ℤ → ℤ → ℤ → ℤ → ℤ → ℤ
det4 a b c d e f g h i j k l m n o p = side_value m n o p (det3 d b c h f g l j k) (det3 d c a h g e l k i) (det3 d a b h e f l i j) (det3 a b c e f g i j k)

abbrev det4e : Expr → Expr → Expr → Expr → Expr → Expr → Expr → Expr → Expr → Expr → Expr → Expr → Expr → Expr → Expr → Expr → Expr
det4e a b c d e f g h i j k l m n o p = valuee m n o p (det3e d b c h f g l j k) (det3e d c a h g e l k i) (det3e d a b h e f l i j) (det3e a b c e f g i j k)

-- of five planes, the side value at the fifth in those at the other four
module _ (a b c d e f g h i j k l m n o p q r s t x y z w : ℤ) where
  numbers : List ℤ
  numbers = a ∷ (b ∷ (c ∷ (d ∷ (e ∷ (f ∷ (g ∷ (h ∷ (i ∷ (j ∷ (k ∷ (l ∷ (m ∷ (n ∷ (o ∷ (p ∷ (q ∷ (r ∷ (s ∷ (t ∷ (x ∷ (y ∷ (z ∷ (w ∷ [])))))))))))))))))))))))

  abbrev l1 : Expr
  l1 = valuee (var 0) (var 1) (var 2) (var 3) (var 20) (var 21) (var 22) (var 23)

  abbrev l2 : Expr
  l2 = valuee (var 4) (var 5) (var 6) (var 7) (var 20) (var 21) (var 22) (var 23)

  abbrev l3 : Expr
  l3 = valuee (var 8) (var 9) (var 10) (var 11) (var 20) (var 21) (var 22) (var 23)

  abbrev l4 : Expr
  l4 = valuee (var 12) (var 13) (var 14) (var 15) (var 20) (var 21) (var 22) (var 23)

  abbrev l5 : Expr
  l5 = valuee (var 16) (var 17) (var 18) (var 19) (var 20) (var 21) (var 22) (var 23)

  pub five_planes : det4 a b c d e f g h i j k l m n o p *ℤ side_value q r s t x y z w
      ≡ det4 q r s t e f g h i j k l m n o p *ℤ side_value a b c d x y z w
      +ℤ det4 a b c d q r s t i j k l m n o p *ℤ side_value e f g h x y z w
      +ℤ det4 a b c d e f g h q r s t m n o p *ℤ side_value i j k l x y z w
      +ℤ det4 a b c d e f g h i j k l q r s t *ℤ side_value m n o p x y z w
  unfolding numbers
  five_planes = ring numbers
      (det4e (var 0) (var 1) (var 2) (var 3) (var 4) (var 5) (var 6) (var 7) (var 8) (var 9) (var 10) (var 11) (var 12) (var 13) (var 14) (var 15) ⊗ l5)
      (det4e (var 16) (var 17) (var 18) (var 19) (var 4) (var 5) (var 6) (var 7) (var 8) (var 9) (var 10) (var 11) (var 12) (var 13) (var 14) (var 15) ⊗ l1
      ⊕ det4e (var 0) (var 1) (var 2) (var 3) (var 16) (var 17) (var 18) (var 19) (var 8) (var 9) (var 10) (var 11) (var 12) (var 13) (var 14) (var 15) ⊗ l2
      ⊕ det4e (var 0) (var 1) (var 2) (var 3) (var 4) (var 5) (var 6) (var 7) (var 16) (var 17) (var 18) (var 19) (var 12) (var 13) (var 14) (var 15) ⊗ l3
      ⊕ det4e (var 0) (var 1) (var 2) (var 3) (var 4) (var 5) (var 6) (var 7) (var 8) (var 9) (var 10) (var 11) (var 16) (var 17) (var 18) (var 19) ⊗ l4)
      refl

-- ---- an edge between its two corners
negated : (a b : ℤ) → neg_ℤ a *ℤ b ≡ neg_ℤ (a *ℤ b)
negated a b = ring (a ∷ (b ∷ [])) (neg (var 0) ⊗ var 1) (neg (var 0 ⊗ var 1)) refl

module _ (c d q n p pq nq : ℤ) (n_positive : pos 0 <ℤ n) (p_positive : pos 0 <ℤ p) (pq_inside : pos 0 ≤ℤ pq) (nq_inside : pos 0 ≤ℤ nq) (c_outside : c ≤ℤ pos 0) (d_outside : d ≤ℤ pos 0) where
  upward : (k g h : ℤ) → pos 0 <ℤ k → k *ℤ c ≡ h *ℤ n → k *ℤ d ≡ g *ℤ p → k *ℤ q ≡ g *ℤ pq +ℤ h *ℤ nq → q ≤ℤ pos 0
  upward k g h positive at_c at_d at_q =
      let h_low = nonpos_right n h n_positive (rw (*ℤ_comm n h, ← at_c) (mul_nonpos k c (weaker k positive) c_outside)) in
      let g_low = nonpos_right p g p_positive (rw (*ℤ_comm p g, ← at_d) (mul_nonpos k d (weaker k positive) d_outside)) in
      let first = rw (*ℤ_comm pq g) at (mul_nonpos pq g pq_inside g_low) in
      let second = rw (*ℤ_comm nq h) at (mul_nonpos nq h nq_inside h_low) in
      nonpos_right k q positive (rw at_q (both (g *ℤ pq) (h *ℤ nq) first second))
    where
      both : (x y : ℤ) → x ≤ℤ pos 0 → y ≤ℤ pos 0 → (x +ℤ y) ≤ℤ pos 0
      both x y e f = omega (arith, ints)

  pub outside_between : (k g h : ℤ) → k ≢ pos 0 → k *ℤ c ≡ h *ℤ n → k *ℤ d ≡ g *ℤ p → k *ℤ q ≡ g *ℤ pq +ℤ h *ℤ nq → q ≤ℤ pos 0
  outside_between k g h some at_c at_d at_q = elim (sign_cases k) [
    | inl low ↦ upward (neg_ℤ k) (neg_ℤ g) (neg_ℤ h) (turned_up k low)
        (negated k c ∙ ap neg_ℤ at_c ∙ sym (negated h n))
        (negated k d ∙ ap neg_ℤ at_d ∙ sym (negated g p))
        (negated k q ∙ ap neg_ℤ at_q ∙ spread g pq h nq)
    | inr (inl e) ↦ absurd (some e)
    | inr (inr high) ↦ upward k g h high at_c at_d at_q
  ]
    where
      spread : (g u h v : ℤ) → neg_ℤ (g *ℤ u +ℤ h *ℤ v) ≡ neg_ℤ g *ℤ u +ℤ neg_ℤ h *ℤ v
      spread g u h v = ring (g ∷ (u ∷ (h ∷ (v ∷ [])))) (neg (var 0 ⊗ var 1 ⊕ var 2 ⊗ var 3)) (neg (var 0) ⊗ var 1 ⊕ neg (var 2) ⊗ var 3) refl

abbrev pub planes_det : Plane → Plane → Plane → Plane → ℤ
planes_det s e p n = det4 s.a s.b s.c s.d e.a e.b e.c e.d p.a p.b p.c p.d n.a n.b n.c n.d

-- value a point of the planes s and e, the side value at `by` follows from those value p and n
on_line : (s e p n by : Plane) (x : Point) → value s x ≡ pos 0 → value e x ≡ pos 0
    → planes_det s e p n *ℤ value by x ≡ planes_det s e by n *ℤ value p x +ℤ planes_det s e p by *ℤ value n x
on_line s e p n by x on_s on_e =
    let all = five_planes s.a s.b s.c s.d e.a e.b e.c e.d p.a p.b p.c p.d n.a n.b n.c n.d by.a by.b by.c by.d x.x x.y x.z x.w in
    (rw (on_s, on_e) at all) ∙ vanish (planes_det by e p n) (planes_det s by p n) (planes_det s e by n *ℤ value p x) (planes_det s e p by *ℤ value n x)
  where
    vanish : (t u v m : ℤ) → t *ℤ pos 0 +ℤ u *ℤ pos 0 +ℤ v +ℤ m ≡ v +ℤ m
    vanish t u v m = omega (arith, ints)

-- the edge e of the plane s runs from the corner c, on the edge p, to the corner d, on the edge n. If `by` keeps neither corner, it keeps no point of the edge
pub edge_outside : (s e p n by : Plane) (c d q : Point) → planes_det s e p n ≢ pos 0
    → value s c ≡ pos 0 → value e c ≡ pos 0 → value p c ≡ pos 0 → pos 0 <ℤ value n c
    → value s d ≡ pos 0 → value e d ≡ pos 0 → value n d ≡ pos 0 → pos 0 <ℤ value p d
    → value s q ≡ pos 0 → value e q ≡ pos 0 → pos 0 ≤ℤ value p q → pos 0 ≤ℤ value n q
    → value by c ≤ℤ pos 0 → value by d ≤ℤ pos 0 → value by q ≤ℤ pos 0
edge_outside s e p n by c d q apart c_s c_e c_p c_n d_s d_e d_n d_p q_s q_e q_p q_n c_out d_out =
    outside_between (value by c) (value by d) (value by q) (value n c) (value p d) (value p q) (value n q) c_n d_p q_p q_n c_out d_out
    (planes_det s e p n) (planes_det s e by n) (planes_det s e p by) apart
    (on_line s e p n by c c_s c_e ∙ ap (λ v. planes_det s e by n *ℤ v +ℤ planes_det s e p by *ℤ value n c) c_p ∙ first (planes_det s e by n) (planes_det s e p by *ℤ value n c))
    (on_line s e p n by d d_s d_e ∙ ap (λ v. planes_det s e by n *ℤ value p d +ℤ planes_det s e p by *ℤ v) d_n ∙ second (planes_det s e p by) (planes_det s e by n *ℤ value p d))
    (on_line s e p n by q q_s q_e)
  where
    first : (x y : ℤ) → x *ℤ pos 0 +ℤ y ≡ y
    first x y = omega (arith, ints)

    second : (x y : ℤ) → y +ℤ x *ℤ pos 0 ≡ y
    second x y = omega (arith, ints)
