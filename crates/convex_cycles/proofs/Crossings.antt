-- Weighted means of two points, and where a plane meets the segment between a point that it does not keep and one that it
-- keeps.
use Rattle.std.proofs.Common.{◌≡◌, [], ◌∷◌, ℤ, pos, neg_ℤ, ◌+ℤ◌, ◌*ℤ◌, ◌<ℤ◌, ◌≤ℤ◌, refl, sym, ap, ◌∙◌, subst}
use Rattle.integer_laws.proofs.Ring.{var, con, neg, ◌⊕◌, ◌⊗◌, ring}
use Rattle.spec_space.specs.declared.Point.{Point}
use Rattle.spec_space.specs.declared.Plane.{Plane}
use Rattle.spec_space.specs.Points.{IsPoint, value}
use Rattle.spec_space.specs.Sums.{times, plus}
use Rattle.convex_cycles.proofs.Values.{value_scaled, value_linear}
use Rattle.convex_cycles.proofs.Orders.{weaker, turned_weakly, positive_mix, nonneg_mix, zero_mix}

-- ---- sides
-- strictly inside a side, and inside it or on its plane
abbrev pub In : Point → Plane → Type 0
In p h = pos 0 <ℤ value h p

abbrev pub Touches : Point → Plane → Type 0
Touches p h = pos 0 ≤ℤ value h p

-- ---- means
-- p taken a times and m taken b times
abbrev pub mean : ℤ → ℤ → Point → Point → Point
mean a b p m = plus (times a p) (times b m)

pub mean-value : (a b : ℤ) (p m : Point) (h : Plane) → value h (mean a b p m) ≡ a *ℤ value h p +ℤ b *ℤ value h m
mean-value a b p m h = value_linear h (times a p) (times b m) ∙ ap (λ x. x +ℤ value h (times b m)) (value_scaled h a p) ∙ ap (λ x. a *ℤ value h p +ℤ x) (value_scaled h b m)

pub mean-IsPoint : (a b : ℤ) (p m : Point) → pos 0 <ℤ a → pos 0 ≤ℤ b → IsPoint p → IsPoint m → IsPoint (mean a b p m)
mean-IsPoint a b p m ha hb hp hm = positive_mix a b p.w m.w ha hb hp (weaker m.w hm)

pub mean_zero : (a b : ℤ) (p m : Point) (h : Plane) → value h p ≡ pos 0 → value h m ≡ pos 0 → value h (mean a b p m) ≡ pos 0
mean_zero a b p m h hp hm = mean-value a b p m h ∙ zero_mix a b (value h p) (value h m) hp hm

pub mean_positive : (a b : ℤ) (p m : Point) (h : Plane) → pos 0 <ℤ a → pos 0 ≤ℤ b → In p h → Touches m h → In (mean a b p m) h
mean_positive a b p m h ha hb hp hm = subst (λ x. pos 0 <ℤ x) (sym (mean-value a b p m h)) (positive_mix a b (value h p) (value h m) ha hb hp hm)

pub mean_nonneg : (a b : ℤ) (p m : Point) (h : Plane) → pos 0 ≤ℤ a → pos 0 ≤ℤ b → Touches p h → Touches m h → Touches (mean a b p m) h
mean_nonneg a b p m h ha hb hp hm = subst (λ x. pos 0 ≤ℤ x) (sym (mean-value a b p m h)) (nonneg_mix a b (value h p) (value h m) ha hb hp hm)

-- ---- crossings
-- where the plane k meets the segment between p, which it does not keep, and m, which it keeps
abbrev pub crossing : Plane → Point → Point → Point
crossing k p m = plus (times (value k m) p) (times (neg_ℤ (value k p)) m)

pub crossing-value : (k : Plane) (p m : Point) (h : Plane) → value h (crossing k p m) ≡ value k m *ℤ value h p +ℤ neg_ℤ (value k p) *ℤ value h m
crossing-value k p m h = mean-value (value k m) (neg_ℤ (value k p)) p m h

pub crossing-IsPoint : (k : Plane) (p m : Point) → IsPoint p → IsPoint m → value k p ≤ℤ pos 0 → pos 0 <ℤ value k m → IsPoint (crossing k p m)
crossing-IsPoint k p m hp hm out within = mean-IsPoint (value k m) (neg_ℤ (value k p)) p m within (turned_weakly (value k p) out) hp hm

-- it lies on k
pub crossing_on : (k : Plane) (p m : Point) → value k (crossing k p m) ≡ pos 0
crossing_on k p m = crossing-value k p m k ∙ cancels (value k m) (value k p)
  where
    cancels : (u v : ℤ) → u *ℤ v +ℤ neg_ℤ v *ℤ u ≡ pos 0
    cancels u v = ring (u ∷ (v ∷ [])) (var 0 ⊗ var 1 ⊕ neg (var 1) ⊗ var 0) (con (pos 0)) refl

-- and on each plane that holds both points
pub crossing_zero : (k h : Plane) (p m : Point) → value h p ≡ pos 0 → value h m ≡ pos 0 → value h (crossing k p m) ≡ pos 0
crossing_zero k h p m hp hm = mean_zero (value k m) (neg_ℤ (value k p)) p m h hp hm

-- no side leaves it out that leaves out neither point
pub crossing_nonneg : (k h : Plane) (p m : Point) → value k p ≤ℤ pos 0 → pos 0 <ℤ value k m → pos 0 ≤ℤ value h p → pos 0 ≤ℤ value h m → pos 0 ≤ℤ value h (crossing k p m)
crossing_nonneg k h p m out within hp hm = mean_nonneg (value k m) (neg_ℤ (value k p)) p m h (weaker (value k m) within) (turned_weakly (value k p) out) hp hm

-- and a side that keeps p strictly keeps it strictly
pub crossing_positive : (k h : Plane) (p m : Point) → value k p ≤ℤ pos 0 → pos 0 <ℤ value k m → pos 0 <ℤ value h p → pos 0 ≤ℤ value h m → pos 0 <ℤ value h (crossing k p m)
crossing_positive k h p m out within hp hm = mean_positive (value k m) (neg_ℤ (value k p)) p m h within (turned_weakly (value k p) out) hp hm
