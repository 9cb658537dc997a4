-- The first side that a segment meets, and the sides that a cut makes redundant.
use Rattle.std.proofs.Common.{◌≡◌, ◌⊎◌, inl, inr, List, [], ◌∷◌, ℤ, pos, neg_ℤ, ◌+ℤ◌, ◌*ℤ◌, ◌<ℤ◌, ◌≤ℤ◌, refl, sym, ap, ◌∙◌, subst}
use Rattle.integer_laws.proofs.Ring.{var, ◌⊕◌, ◌⊗◌, ring}
use Rattle.integer_laws.proofs.Signs.{mul_positive, mul_nonneg}
use Rattle.spec_space.specs.declared.Point.{Point}
use Rattle.spec_space.specs.declared.Plane.{Plane}
use Rattle.spec_space.specs.Points.{value}
use Rattle.integer_laws.proofs.Cancel.{sign_cases}
use Rattle.convex_cycles.proofs.Lists.{Each, each_weaker}
use Rattle.convex_cycles.proofs.Orders.{weaker, below, level, level_below, turned_weakly, not_both, sum_nonneg, positive_mix, zero_mix}
use Rattle.convex_cycles.proofs.Crossings.{In, Touches, crossing, crossing-value, crossing_on, crossing_nonneg}

-- q lies between p and m, and is not m
pub record IsBetween (p m q : Point) : Type 0 where
  pub near : ℤ
  pub far : ℤ
  pub near_positive : pos 0 <ℤ near
  pub far_nonneg : pos 0 ≤ℤ far
  pub values : (f : Plane) → value f q ≡ near *ℤ value f p +ℤ far *ℤ value f m

-- the crossing of d is one
pub crossing-between : (d : Plane) (p m : Point) → value d p ≤ℤ pos 0 → In m d → IsBetween p m (crossing d p m)
crossing-between d p m out within = record { near = value d m; far = neg_ℤ (value d p); near_positive = within; far_nonneg = turned_weakly (value d p) out; values = λ h. crossing-value d p m h }

pub between_more : (p m q r : Point) → IsBetween p m q → IsBetween q m r → IsBetween p m r
between_more p m q r h k = record {
  near = k.near *ℤ h.near;
  far = k.near *ℤ h.far +ℤ k.far;
  near_positive = mul_positive k.near h.near k.near_positive h.near_positive;
  far_nonneg = sum_nonneg (k.near *ℤ h.far) k.far (mul_nonneg k.near h.far (weaker k.near k.near_positive) h.far_nonneg) k.far_nonneg;
  values = λ f. k.values f ∙ ap (λ v. k.near *ℤ v +ℤ k.far *ℤ value f m) (h.values f) ∙ spread k.near h.near h.far k.far (value f p) (value f m);
}
  where
    spread : (k u v l x y : ℤ) → k *ℤ (u *ℤ x +ℤ v *ℤ y) +ℤ l *ℤ y ≡ (k *ℤ u) *ℤ x +ℤ (k *ℤ v +ℤ l) *ℤ y
    spread k u v l x y = ring (k ∷ (u ∷ (v ∷ (l ∷ (x ∷ (y ∷ [])))))) (var 0 ⊗ (var 1 ⊗ var 4 ⊕ var 2 ⊗ var 5) ⊕ var 3 ⊗ var 5) (var 0 ⊗ var 1 ⊗ var 4 ⊕ (var 0 ⊗ var 2 ⊕ var 3) ⊗ var 5) refl

pub between_zero : (p m q : Point) → IsBetween p m q → (f : Plane) → value f p ≡ pos 0 → value f m ≡ pos 0 → value f q ≡ pos 0
between_zero p m q b f u v = b.values f ∙ zero_mix b.near b.far (value f p) (value f m) u v

pub between_positive : (p m q : Point) → IsBetween p m q → (f : Plane) → In p f → Touches m f → In q f
between_positive p m q b f u v = subst (λ x. pos 0 <ℤ x) (sym (b.values f)) (positive_mix b.near b.far (value f p) (value f m) b.near_positive b.far_nonneg u v)

between_touches : (p m q : Point) → IsBetween p m q → (gs : List Plane) → Each (In p) gs → Each (In m) gs → Each (Touches q) gs
between_touches p m q b [] u v = tt
between_touches p m q b (g ∷ gs) u v = (weaker (value g q) (between_positive p m q b g u.0 (weaker (value g m) v.0)), between_touches p m q b gs u.1 v.1)

-- the first point, from m on the way to p, where a side is reached
pub record FirstCrossing (R : Plane → Type 0) (fs : List Plane) (p m : Point) : Type 0 where
  pub side : Plane
  pub of_list : R side
  pub point : Point
  pub between : IsBetween p m point
  pub on_side : value side point ≡ pos 0
  pub touches : Each (Touches point) fs

-- no side leaves out the crossing that leaves out neither point
pub crossing_touches : (k : Plane) (p m : Point) → value k p ≤ℤ pos 0 → In m k → (gs : List Plane) → Each (Touches p) gs → Each (In m) gs → Each (Touches (crossing k p m)) gs
crossing_touches k p m out within [] u v = tt
crossing_touches k p m out within (g ∷ gs) u v = (crossing_nonneg k g p m out within u.0 (weaker (value g m) v.0), crossing_touches k p m out within gs u.1 v.1)

module _ (R : Plane → Type 0) (p m : Point) where
  next_side : (f : Plane) (fs : List Plane) → R f → In m f → Each (In m) fs → (Each (In p) fs) ⊎ FirstCrossing R fs p m → (Each (In p) (f ∷ fs)) ⊎ FirstCrossing R (f ∷ fs) p m
  next_side f fs r within rest (inl all) = elim (sign_cases (value f p)) [
    | inl low ↦ inr (at_first (below (value f p) low))
    | inr (inl same) ↦ inr (at_first (level_below (value f p) same))
    | inr (inr high) ↦ inl (high, all)
  ]
    where
      at_first : value f p ≤ℤ pos 0 → FirstCrossing R (f ∷ fs) p m
      at_first out = record {
        side = f;
        of_list = r;
        point = crossing f p m;
        between = crossing-between f p m out within;
        on_side = crossing_on f p m;
        touches = (level (value f (crossing f p m)) (crossing_on f p m), crossing_touches f p m out within fs (each_weaker (In p) (Touches p) (λ h. weaker (value h p)) fs all) rest);
      }
  next_side f fs r within rest (inr old) = elim (sign_cases (value f old.point)) [
    | inl low ↦ inr (sooner (below (value f old.point) low))
    | inr (inl same) ↦ inr (kept (level (value f old.point) same))
    | inr (inr high) ↦ inr (kept (weaker (value f old.point) high))
  ]
    where
      kept : Touches old.point f → FirstCrossing R (f ∷ fs) p m
      kept t = record { side = old.side; of_list = old.of_list; point = old.point; between = old.between; on_side = old.on_side; touches = (t, old.touches) }

      sooner : value f old.point ≤ℤ pos 0 → FirstCrossing R (f ∷ fs) p m
      sooner out = record {
        side = f;
        of_list = r;
        point = crossing f old.point m;
        between = between_more p m old.point (crossing f old.point m) old.between (crossing-between f old.point m out within);
        on_side = crossing_on f old.point m;
        touches = (level (value f (crossing f old.point m)) (crossing_on f old.point m), crossing_touches f old.point m out within fs old.touches rest);
      }

  -- p keeps all sides that m keeps, or some side is reached first
  pub first_crossing : (fs : List Plane) → Each R fs → Each (In m) fs → (Each (In p) fs) ⊎ FirstCrossing R fs p m
  first_crossing [] r within = inl tt
  first_crossing (f ∷ fs) r within = next_side f fs r.0 within.0 within.1 (first_crossing fs r.1 within.1)

-- A side is spare where no point of the fragment's plane that lies on it, and outside no side, is strictly kept by the cut
abbrev pub IsSpare : Plane → List Plane → List Plane → Plane → Plane → Type 0
IsSpare support kept spare cut f = (q : Point) → value support q ≡ pos 0 → value f q ≡ pos 0 → Each (Touches q) kept → Each (Touches q) spare → value cut q ≤ℤ pos 0

-- a point that the cut and the other sides keep is kept by all spare sides too, if there is some point that all keep
pub spare_sides : (support cut : Plane) (kept spare : List Plane) (p m : Point) → Each (IsSpare support kept spare cut) spare
    → value support m ≡ pos 0 → In m cut → Each (In m) kept → Each (In m) spare
    → value support p ≡ pos 0 → In p cut → Each (In p) kept → Each (In p) spare
spare_sides support cut kept spare p m r m_on m_cut m_kept m_spare p_on p_cut p_kept = elim (first_crossing (IsSpare support kept spare cut) p m spare r m_spare) [
  | inl all ↦ all
  | inr c ↦ absurd (not_both (value cut c.point) (between_positive p m c.point c.between cut p_cut (weaker (value cut m) m_cut))
      (c.of_list c.point (between_zero p m c.point c.between support p_on m_on) c.on_side (between_touches p m c.point c.between kept p_kept m_kept) c.touches))
]
