-- The order of points by x, then y, then z, is a strict order of places.
use Rattle.std.proofs.Common.{◌≡◌, ◌⊎◌, inl, inr, Bool, true, false, true≢false, [], ◌∷◌, ℤ, pos, neg_ℤ, ◌+ℤ◌, ◌-ℤ◌, ◌*ℤ◌, ◌<ℤ◌, refl, sym, ap, ◌∙◌, subst, arith}
use Rattle.std.proofs.lemmas.Int.{ints}
use Rattle.std.proofs.lemmas.Cmp.{int_ranked}
use Rattle.std.specs.Cmp.{IsStrictWeakOrder}
use Rattle.std.specs.Ordering.{is_lt, ordering_then, int_cmp, MatchOrdering}
use Rattle.std.specs.declared.cmp.Ordering.{Ordering}
use Rattle.std.specs.declared.cmp.Ordering.TheVariants.{Less, Equal, Greater}
use Rattle.integer_laws.proofs.Ring.{var, ◌⊕◌, ◌⊗◌, ◌⊖◌, ring}
use Rattle.integer_laws.proofs.Cancel.{sign_cases}
use Rattle.spec_space.specs.declared.Point.{Point}
use Rattle.spec_space.specs.Points.{IsPoint, way_between}
use Rattle.spec_space.specs.Sums.{IsSamePoint}
use Rattle.plane_core.specs.declared.numbers.Corner.{Corner}
use Rattle.plane_core.specs.Views.{point_of}
use Rattle.line_turns.proofs.Orders.{LeadsOf, leads_sum}
use Rattle.line_turns.proofs.Rising.{IsBefore, leads_scaled, leads_unscaled}
use Rattle.line_turns.proofs.CutLists.{before_once}
use Rattle.edge_cut.specs.Stretches.{comes_before}

-- ---- ways by way of a third point
leads_same : (x y z u v w : ℤ) → x ≡ u → y ≡ v → z ≡ w → LeadsOf x y z → LeadsOf u v w
leads_same x y z u v w p q r l = subst (λ k. LeadsOf u v k) r (subst (λ k. LeadsOf u k z) q (subst (λ k. LeadsOf k y z) p l))

by_way : (ax aw bx bw cx cw : ℤ) → cw *ℤ (bx *ℤ aw -ℤ ax *ℤ bw) +ℤ aw *ℤ (cx *ℤ bw -ℤ bx *ℤ cw) ≡ bw *ℤ (cx *ℤ aw -ℤ ax *ℤ cw)
by_way ax aw bx bw cx cw = ring (ax ∷ (aw ∷ (bx ∷ (bw ∷ (cx ∷ (cw ∷ []))))))
    (var 5 ⊗ (var 2 ⊗ var 1 ⊖ var 0 ⊗ var 3) ⊕ var 1 ⊗ (var 4 ⊗ var 3 ⊖ var 2 ⊗ var 5))
    (var 3 ⊗ (var 4 ⊗ var 1 ⊖ var 0 ⊗ var 5)) refl

pub before_trans : (a b c : Point) → IsPoint a → IsPoint b → IsPoint c → IsBefore a b → IsBefore b c → IsBefore a c
before_trans a b c ia ib ic ab bc =
    leads_unscaled b.w (way_between a c).x (way_between a c).y (way_between a c).z ib
    (leads_same _ _ _ _ _ _ (by_way a.x a.w b.x b.w c.x c.w) (by_way a.y a.w b.y b.w c.y c.w) (by_way a.z a.w b.z b.w c.z c.w)
    (leads_sum c.w a.w (way_between a b).x (way_between a b).y (way_between a b).z (way_between b c).x (way_between b c).y (way_between b c).z ic ia ab bc))

level : (x y : ℤ) → x ≡ y → y -ℤ x ≡ pos 0
level x y e = omega (arith, ints, e)

equal_from : (x y : ℤ) → y -ℤ x ≡ pos 0 → x ≡ y
equal_from x y e = omega (arith, ints, e)

second_alone : (p q k v : ℤ) → k ≡ pos 0 → q *ℤ v ≡ p *ℤ k +ℤ q *ℤ v
second_alone p q k v e = sum (p *ℤ k) (q *ℤ v) (ap (λ n. p *ℤ n) e ∙ none p)
  where
    none : (p : ℤ) → p *ℤ pos 0 ≡ pos 0
    none p = omega (arith, ints)

    sum : (x y : ℤ) → x ≡ pos 0 → y ≡ x +ℤ y
    sum x y e = omega (arith, ints)

first_alone : (p q k v : ℤ) → k ≡ pos 0 → p *ℤ v ≡ p *ℤ v +ℤ q *ℤ k
first_alone p q k v e = sum (q *ℤ k) (p *ℤ v) (ap (λ n. q *ℤ n) e ∙ none q)
  where
    none : (p : ℤ) → p *ℤ pos 0 ≡ pos 0
    none p = omega (arith, ints)

    sum : (x y : ℤ) → x ≡ pos 0 → y ≡ y +ℤ x
    sum x y e = omega (arith, ints)

same_before : (a b c : Point) → IsPoint a → IsPoint b → IsSamePoint a b → IsBefore b c → IsBefore a c
same_before a b c ia ib s bc =
    leads_unscaled b.w (way_between a c).x (way_between a c).y (way_between a c).z ib
    (leads_same _ _ _ _ _ _
    (second_alone c.w a.w (way_between a b).x (way_between b c).x (level (a.x *ℤ b.w) (b.x *ℤ a.w) s.same_x) ∙ by_way a.x a.w b.x b.w c.x c.w)
    (second_alone c.w a.w (way_between a b).y (way_between b c).y (level (a.y *ℤ b.w) (b.y *ℤ a.w) s.same_y) ∙ by_way a.y a.w b.y b.w c.y c.w)
    (second_alone c.w a.w (way_between a b).z (way_between b c).z (level (a.z *ℤ b.w) (b.z *ℤ a.w) s.same_z) ∙ by_way a.z a.w b.z b.w c.z c.w)
    (leads_scaled a.w (way_between b c).x (way_between b c).y (way_between b c).z ia bc))

before_same : (a b c : Point) → IsPoint b → IsPoint c → IsBefore a b → IsSamePoint b c → IsBefore a c
before_same a b c ib ic ab s =
    leads_unscaled b.w (way_between a c).x (way_between a c).y (way_between a c).z ib
    (leads_same _ _ _ _ _ _
    (first_alone c.w a.w (way_between b c).x (way_between a b).x (level (b.x *ℤ c.w) (c.x *ℤ b.w) s.same_x) ∙ by_way a.x a.w b.x b.w c.x c.w)
    (first_alone c.w a.w (way_between b c).y (way_between a b).y (level (b.y *ℤ c.w) (c.y *ℤ b.w) s.same_y) ∙ by_way a.y a.w b.y b.w c.y c.w)
    (first_alone c.w a.w (way_between b c).z (way_between a b).z (level (b.z *ℤ c.w) (c.z *ℤ b.w) s.same_z) ∙ by_way a.z a.w b.z b.w c.z c.w)
    (leads_scaled c.w (way_between a b).x (way_between a b).y (way_between a b).z ic ab))

-- ---- of two points one comes before the other, or they are one place
turned : (x y : ℤ) → x ≡ neg_ℤ y → y <ℤ pos 0 → pos 0 <ℤ x
turned x y e h = omega (arith, ints)

leads_cases : (x y z u v w : ℤ) → u ≡ neg_ℤ x → v ≡ neg_ℤ y → w ≡ neg_ℤ z → LeadsOf x y z ⊎ (((x ≡ pos 0) × (y ≡ pos 0) × (z ≡ pos 0)) ⊎ LeadsOf u v w)
leads_cases x y z u v w eu ev ew = elim (sign_cases x) [
  | inr (inr up) ↦ inl (inl up)
  | inl low ↦ inr (inr (inl (turned u x eu low)))
  | inr (inl xz) ↦ elim (sign_cases y) [
    | inr (inr up) ↦ inl (inr (xz, inl up))
    | inl low ↦ inr (inr (inr (zero x u eu xz, inl (turned v y ev low))))
    | inr (inl yz) ↦ elim (sign_cases z) [
      | inr (inr up) ↦ inl (inr (xz, inr (yz, up)))
      | inl low ↦ inr (inr (inr (zero x u eu xz, inr (zero y v ev yz, turned w z ew low))))
      | inr (inl zz) ↦ inr (inl (xz, yz, zz))
    ]
  ]
]
  where
    zero : (x u : ℤ) → u ≡ neg_ℤ x → x ≡ pos 0 → u ≡ pos 0
    zero x u e h = omega (arith, ints)

back : (x y : ℤ) → x -ℤ y ≡ neg_ℤ (y -ℤ x)
back x y = omega (arith, ints)

pub before_cases : (a b : Point) → IsBefore a b ⊎ (IsSamePoint a b ⊎ IsBefore b a)
before_cases a b = elim (leads_cases (way_between a b).x (way_between a b).y (way_between a b).z (way_between b a).x (way_between b a).y (way_between b a).z
    (back (a.x *ℤ b.w) (b.x *ℤ a.w)) (back (a.y *ℤ b.w) (b.y *ℤ a.w)) (back (a.z *ℤ b.w) (b.z *ℤ a.w))) [
      | inl up ↦ inl up
      | inr (inl z) ↦ inr (inl (record { same_x = equal_from (a.x *ℤ b.w) (b.x *ℤ a.w) z.0; same_y = equal_from (a.y *ℤ b.w) (b.y *ℤ a.w) z.1; same_z = equal_from (a.z *ℤ b.w) (b.z *ℤ a.w) z.2 }))
      | inr (inr low) ↦ inr (inr low)
    ]

-- ---- the test
above : (x y : ℤ) → x <ℤ y → pos 0 <ℤ (y -ℤ x)
above x y h = omega (arith, ints)

from_above : (x y : ℤ) → pos 0 <ℤ (y -ℤ x) → x <ℤ y
from_above x y h = omega (arith, ints)

leads_if : (o p q : Ordering) (a b c d e f : ℤ) → MatchOrdering o (a <ℤ b) (a ≡ b) (b <ℤ a) → MatchOrdering p (c <ℤ d) (c ≡ d) (d <ℤ c) → MatchOrdering q (e <ℤ f) (e ≡ f) (f <ℤ e)
    → is_lt (ordering_then o (ordering_then p q)) ≡ true → LeadsOf (b -ℤ a) (d -ℤ c) (f -ℤ e)
leads_if Less p q a b c d e f h k l t = inl (above a b h)
leads_if Equal Less q a b c d e f h k l t = inr (level a b h, inl (above c d k))
leads_if Equal Equal Less a b c d e f h k l t = inr (level a b h, inr (level c d k, above e f l))
leads_if Equal Equal Equal a b c d e f h k l t = absurd (true≢false (sym t))
leads_if Equal Equal Greater a b c d e f h k l t = absurd (true≢false (sym t))
leads_if Equal Greater q a b c d e f h k l t = absurd (true≢false (sym t))
leads_if Greater p q a b c d e f h k l t = absurd (true≢false (sym t))

not_equal : (a b : ℤ) → a ≡ b → pos 0 <ℤ (b -ℤ a) → ⊥
not_equal a b e h = omega (arith, ints)

not_above : (a b : ℤ) → b <ℤ a → pos 0 <ℤ (b -ℤ a) → ⊥
not_above a b e h = omega (arith, ints)

not_level : (a b : ℤ) → b <ℤ a → b -ℤ a ≡ pos 0 → ⊥
not_level a b e h = omega (arith, ints)

if_leads : (o p q : Ordering) (a b c d e f : ℤ) → MatchOrdering o (a <ℤ b) (a ≡ b) (b <ℤ a) → MatchOrdering p (c <ℤ d) (c ≡ d) (d <ℤ c) → MatchOrdering q (e <ℤ f) (e ≡ f) (f <ℤ e)
    → LeadsOf (b -ℤ a) (d -ℤ c) (f -ℤ e) → is_lt (ordering_then o (ordering_then p q)) ≡ true
if_leads Less p q a b c d e f h k l t = refl
if_leads Equal Less q a b c d e f h k l t = refl
if_leads Equal Equal Less a b c d e f h k l t = refl
if_leads Equal Equal Equal a b c d e f h k l (inl t) = absurd (not_equal a b h t)
if_leads Equal Equal Equal a b c d e f h k l (inr (t, inl u)) = absurd (not_equal c d k u)
if_leads Equal Equal Equal a b c d e f h k l (inr (t, inr (u, v))) = absurd (not_equal e f l v)
if_leads Equal Equal Greater a b c d e f h k l (inl t) = absurd (not_equal a b h t)
if_leads Equal Equal Greater a b c d e f h k l (inr (t, inl u)) = absurd (not_equal c d k u)
if_leads Equal Equal Greater a b c d e f h k l (inr (t, inr (u, v))) = absurd (not_above e f l v)
if_leads Equal Greater q a b c d e f h k l (inl t) = absurd (not_equal a b h t)
if_leads Equal Greater q a b c d e f h k l (inr (t, inl u)) = absurd (not_above c d k u)
if_leads Equal Greater q a b c d e f h k l (inr (t, inr (u, v))) = absurd (not_level c d k u)
if_leads Greater p q a b c d e f h k l (inl t) = absurd (not_above a b h t)
if_leads Greater p q a b c d e f h k l (inr (t, u)) = absurd (not_level a b h t)

pub before_from : (c d : Corner) → comes_before c d ≡ true → IsBefore (point_of c) (point_of d)
before_from c d t = leads_if _ _ _ (c.x *ℤ d.w) (d.x *ℤ c.w) (c.y *ℤ d.w) (d.y *ℤ c.w) (c.z *ℤ d.w) (d.z *ℤ c.w)
    (int_ranked (c.x *ℤ d.w) (d.x *ℤ c.w) (int_cmp (c.x *ℤ d.w) (d.x *ℤ c.w)) refl) (int_ranked (c.y *ℤ d.w) (d.y *ℤ c.w) (int_cmp (c.y *ℤ d.w) (d.y *ℤ c.w)) refl) (int_ranked (c.z *ℤ d.w) (d.z *ℤ c.w) (int_cmp (c.z *ℤ d.w) (d.z *ℤ c.w)) refl) t

pub from_before : (c d : Corner) → IsBefore (point_of c) (point_of d) → comes_before c d ≡ true
from_before c d t = if_leads _ _ _ (c.x *ℤ d.w) (d.x *ℤ c.w) (c.y *ℤ d.w) (d.y *ℤ c.w) (c.z *ℤ d.w) (d.z *ℤ c.w)
    (int_ranked (c.x *ℤ d.w) (d.x *ℤ c.w) (int_cmp (c.x *ℤ d.w) (d.x *ℤ c.w)) refl) (int_ranked (c.y *ℤ d.w) (d.y *ℤ c.w) (int_cmp (c.y *ℤ d.w) (d.y *ℤ c.w)) refl) (int_ranked (c.z *ℤ d.w) (d.z *ℤ c.w) (int_cmp (c.z *ℤ d.w) (d.z *ℤ c.w)) refl) t

not_true : (b : Bool) → (b ≡ true → ⊥) → b ≡ false
not_true true h = absurd (h refl)
not_true false h = refl

no_clash : (b : Bool) → b ≡ false → b ≡ true → ⊥
no_clash b e f = true≢false (sym f ∙ e)

-- ---- a strict weak order
pub order-IsStrictWeakOrder : IsStrictWeakOrder comes_before
order-IsStrictWeakOrder = record {
  one_way = λ c d t. not_true (comes_before d c) (λ u. before_once (point_of c) (point_of d) (before_from c d t) (before_from d c u));
  chain = λ c d e s t. not_true (comes_before c e) (λ u. chained c d e s t (before_from c e u));
}
  where
    chained : (c d e : Corner) → comes_before c d ≡ false → comes_before d e ≡ false → IsBefore (point_of c) (point_of e) → ⊥
    chained c d e s t up = elim (before_cases (point_of c) (point_of d)) [
      | inl first ↦ no_clash (comes_before c d) s (from_before c d first)
      | inr (inl same) ↦ no_clash (comes_before d e) t (from_before d e (same_before (point_of d) (point_of c) (point_of e) d.positive c.positive (record { same_x = sym same.same_x; same_y = sym same.same_y; same_z = sym same.same_z }) up))
      | inr (inr back) ↦ no_clash (comes_before d e) t (from_before d e (before_trans (point_of d) (point_of c) (point_of e) d.positive c.positive e.positive back up))
    ]

-- corners at different places of which the second does not come first
pub comes_first : (c d : Corner) → (IsSamePoint (point_of c) (point_of d) → ⊥) → comes_before d c ≡ false → comes_before c d ≡ true
comes_first c d apart h = elim (before_cases (point_of c) (point_of d)) [
  | inl first ↦ from_before c d first
  | inr (inl same) ↦ absurd (apart same)
  | inr (inr back) ↦ absurd (no_clash (comes_before d c) h (from_before d c back))
]
