-- Three planes with independent normals have one common point, by Cramer's rule.
use Rattle.std.proofs.Common.{◌≡◌, List, [], ◌∷◌, ℤ, pos, ◌+ℤ◌, ◌-ℤ◌, ◌*ℤ◌, ◌<ℤ◌, refl, sym, ap, ◌∙◌, arith}
use Rattle.std.proofs.lemmas.Int.{ints}
use Rattle.integer_laws.proofs.Ring.{Expr, var, con, ◌⊕◌, ◌⊗◌, ◌⊖◌, ring, *ℤ_assoc}
use Rattle.integer_laws.proofs.Cancel.{zero_right, cancel, mul_zero_right}
use Rattle.integer_laws.specs.Determinants.{det2, det3}

-- the value of the plane a, b, c, d at the point x, y, z, w
abbrev pub side_value : ℤ → ℤ → ℤ → ℤ → ℤ → ℤ → ℤ → ℤ → ℤ
side_value a b c d x y z w = a *ℤ x +ℤ b *ℤ y +ℤ c *ℤ z -ℤ d *ℤ w

abbrev det2e : Expr → Expr → Expr → Expr → Expr
det2e a b c d = a ⊗ d ⊖ b ⊗ c

abbrev det3e : Expr → Expr → Expr → Expr → Expr → Expr → Expr → Expr → Expr → Expr
det3e a b c d e f g h i = a ⊗ det2e e f h i ⊕ d ⊗ det2e h i b c ⊕ g ⊗ det2e b c e f

abbrev sidee : Expr → Expr → Expr → Expr → Expr → Expr → Expr → Expr → Expr
sidee a b c d x y z w = a ⊗ x ⊕ b ⊗ y ⊕ c ⊗ z ⊖ d ⊗ w

-- the determinant of three rows by columns, and as the product of a row with the cross product of the others
pub triple : (a b c e f g i j k : ℤ) → det3 a b c e f g i j k ≡ a *ℤ (f *ℤ k -ℤ g *ℤ j) +ℤ b *ℤ (g *ℤ i -ℤ e *ℤ k) +ℤ c *ℤ (e *ℤ j -ℤ f *ℤ i)
triple a b c e f g i j k =
    let numbers : List ℤ = a ∷ (b ∷ (c ∷ (e ∷ (f ∷ (g ∷ (i ∷ (j ∷ (k ∷ [])))))))) in
    ring numbers
    (det3e (var 0) (var 1) (var 2) (var 3) (var 4) (var 5) (var 6) (var 7) (var 8))
    (var 0 ⊗ (var 4 ⊗ var 8 ⊖ var 5 ⊗ var 7) ⊕ var 1 ⊗ (var 5 ⊗ var 6 ⊖ var 3 ⊗ var 8) ⊕ var 2 ⊗ (var 3 ⊗ var 7 ⊖ var 4 ⊗ var 6)) refl

vanish : (t u v m : ℤ) → t +ℤ (u *ℤ pos 0 +ℤ v *ℤ pos 0 +ℤ m *ℤ pos 0) ≡ t
vanish t u v m = omega (arith, ints)

-- the planes a, e, i, with the numbers of the point that Cramer's rule gives
module _ (a b c d e f g h i j k l : ℤ) where
  abbrev pub w : ℤ
  w = det3 a b c e f g i j k

  abbrev pub x : ℤ
  x = det3 d b c h f g l j k

  abbrev pub y : ℤ
  y = det3 d c a h g e l k i

  abbrev pub z : ℤ
  z = det3 d a b h e f l i j

  numbers : List ℤ
  numbers = a ∷ (b ∷ (c ∷ (d ∷ (e ∷ (f ∷ (g ∷ (h ∷ (i ∷ (j ∷ (k ∷ (l ∷ [])))))))))))

  abbrev we : Expr
  we = det3e (var 0) (var 1) (var 2) (var 4) (var 5) (var 6) (var 8) (var 9) (var 10)

  abbrev xe : Expr
  xe = det3e (var 3) (var 1) (var 2) (var 7) (var 5) (var 6) (var 11) (var 9) (var 10)

  abbrev ye : Expr
  ye = det3e (var 3) (var 2) (var 0) (var 7) (var 6) (var 4) (var 11) (var 10) (var 8)

  abbrev ze : Expr
  ze = det3e (var 3) (var 0) (var 1) (var 7) (var 4) (var 5) (var 11) (var 8) (var 9)

  pub on_first : side_value a b c d x y z w ≡ pos 0
  unfolding numbers
  on_first = ring numbers (sidee (var 0) (var 1) (var 2) (var 3) xe ye ze we) (con (pos 0)) refl

  pub on_second : side_value e f g h x y z w ≡ pos 0
  unfolding numbers
  on_second = ring numbers (sidee (var 4) (var 5) (var 6) (var 7) xe ye ze we) (con (pos 0)) refl

  pub on_third : side_value i j k l x y z w ≡ pos 0
  unfolding numbers
  on_third = ring numbers (sidee (var 8) (var 9) (var 10) (var 11) xe ye ze we) (con (pos 0)) refl

  -- a point of all three planes is that point
  module _ (p q r s : ℤ) (first : side_value a b c d p q r s ≡ pos 0) (second : side_value e f g h p q r s ≡ pos 0) (third : side_value i j k l p q r s ≡ pos 0) where
    more : List ℤ
    more = a ∷ (b ∷ (c ∷ (d ∷ (e ∷ (f ∷ (g ∷ (h ∷ (i ∷ (j ∷ (k ∷ (l ∷ (p ∷ (q ∷ (r ∷ (s ∷ [])))))))))))))))

    abbrev l1 : Expr
    l1 = sidee (var 0) (var 1) (var 2) (var 3) (var 12) (var 13) (var 14) (var 15)

    abbrev l2 : Expr
    l2 = sidee (var 4) (var 5) (var 6) (var 7) (var 12) (var 13) (var 14) (var 15)

    abbrev l3 : Expr
    l3 = sidee (var 8) (var 9) (var 10) (var 11) (var 12) (var 13) (var 14) (var 15)

    pub same_x : p *ℤ w ≡ x *ℤ s
    unfolding more
    same_x =
        let eq : p *ℤ w ≡ x *ℤ s +ℤ (det2 f g j k *ℤ side_value a b c d p q r s +ℤ det2 j k b c *ℤ side_value e f g h p q r s +ℤ det2 b c f g *ℤ side_value i j k l p q r s) =
        ring more (var 12 ⊗ we) (xe ⊗ var 15 ⊕ (det2e (var 5) (var 6) (var 9) (var 10) ⊗ l1 ⊕ det2e (var 9) (var 10) (var 1) (var 2) ⊗ l2 ⊕ det2e (var 1) (var 2) (var 5) (var 6) ⊗ l3)) refl in
        rw (first, second, third) at eq ∙ vanish (x *ℤ s) (det2 f g j k) (det2 j k b c) (det2 b c f g)

    pub same_y : q *ℤ w ≡ y *ℤ s
    unfolding more
    same_y =
        let eq : q *ℤ w ≡ y *ℤ s +ℤ (det2 g e k i *ℤ side_value a b c d p q r s +ℤ det2 k i c a *ℤ side_value e f g h p q r s +ℤ det2 c a g e *ℤ side_value i j k l p q r s) =
        ring more (var 13 ⊗ we) (ye ⊗ var 15 ⊕ (det2e (var 6) (var 4) (var 10) (var 8) ⊗ l1 ⊕ det2e (var 10) (var 8) (var 2) (var 0) ⊗ l2 ⊕ det2e (var 2) (var 0) (var 6) (var 4) ⊗ l3)) refl in
        rw (first, second, third) at eq ∙ vanish (y *ℤ s) (det2 g e k i) (det2 k i c a) (det2 c a g e)

    pub same_z : r *ℤ w ≡ z *ℤ s
    unfolding more
    same_z =
        let eq : r *ℤ w ≡ z *ℤ s +ℤ (det2 e f i j *ℤ side_value a b c d p q r s +ℤ det2 i j a b *ℤ side_value e f g h p q r s +ℤ det2 a b e f *ℤ side_value i j k l p q r s) =
        ring more (var 14 ⊗ we) (ze ⊗ var 15 ⊕ (det2e (var 4) (var 5) (var 8) (var 9) ⊗ l1 ⊕ det2e (var 8) (var 9) (var 0) (var 1) ⊗ l2 ⊕ det2e (var 0) (var 1) (var 4) (var 5) ⊗ l3)) refl in
        rw (first, second, third) at eq ∙ vanish (z *ℤ s) (det2 e f i j) (det2 i j a b) (det2 a b e f)

-- a side value grows with the numbers of the point
pub side_value-scaled : (a b c d k x y z w : ℤ) → side_value a b c d (k *ℤ x) (k *ℤ y) (k *ℤ z) (k *ℤ w) ≡ k *ℤ side_value a b c d x y z w
side_value-scaled a b c d k x y z w =
    let numbers : List ℤ = a ∷ (b ∷ (c ∷ (d ∷ (k ∷ (x ∷ (y ∷ (z ∷ (w ∷ [])))))))) in
    ring numbers
    (sidee (var 0) (var 1) (var 2) (var 3) (var 4 ⊗ var 5) (var 4 ⊗ var 6) (var 4 ⊗ var 7) (var 4 ⊗ var 8))
    (var 4 ⊗ sidee (var 0) (var 1) (var 2) (var 3) (var 5) (var 6) (var 7) (var 8)) refl

-- the numbers of a point, s times those of Cramer's rule and k times those of a corner
pub on_corner : (a b c d s x y z w k p q r t : ℤ) → pos 0 <ℤ k → s *ℤ x ≡ k *ℤ p → s *ℤ y ≡ k *ℤ q → s *ℤ z ≡ k *ℤ r → s *ℤ w ≡ k *ℤ t → side_value a b c d x y z w ≡ pos 0 → side_value a b c d p q r t ≡ pos 0
on_corner a b c d s x y z w k p q r t h ex ey ez ew e =
    zero_right k (side_value a b c d p q r t) h
    (sym (side_value-scaled a b c d k p q r t) ∙ rw (← ex, ← ey, ← ez, ← ew) (side_value-scaled a b c d s x y z w) ∙ ap (λ v. s *ℤ v) e ∙ mul_zero_right s)

pub same_corner : (s x w k p t u v : ℤ) → pos 0 <ℤ k → s *ℤ x ≡ k *ℤ p → s *ℤ w ≡ k *ℤ t → u *ℤ w ≡ x *ℤ v → u *ℤ t ≡ p *ℤ v
same_corner s x w k p t u v h ex ew e =
    cancel k (u *ℤ t) (p *ℤ v) h
    (turned u k t ∙ ap (λ n. u *ℤ n) (sym ew) ∙ turned' u s w ∙ ap (λ n. s *ℤ n) e ∙ sym (*ℤ_assoc s x v) ∙ ap (λ n. n *ℤ v) ex ∙ *ℤ_assoc k p v)
  where
    turned : (a b c : ℤ) → b *ℤ (a *ℤ c) ≡ a *ℤ (b *ℤ c)
    turned a b c = ring (a ∷ (b ∷ (c ∷ []))) (var 1 ⊗ (var 0 ⊗ var 2)) (var 0 ⊗ (var 1 ⊗ var 2)) refl

    turned' : (a b c : ℤ) → a *ℤ (b *ℤ c) ≡ b *ℤ (a *ℤ c)
    turned' a b c = sym (turned a b c)
