-- A cell between walls, and a plane that cuts it.
use Rattle.std.proofs.Common.{◌≡◌, List, [], ◌∷◌, ◌≤◌, ℕ, ℤ, pos, ◌+ℤ◌, ◌*ℤ◌, ◌<ℤ◌, ◌≤ℤ◌, refl, sym, ap, ◌∙◌, subst, arith}
use Rattle.std.proofs.lemmas.Int.{ints}
use Rattle.integer_laws.proofs.Ring.{var, ◌⊕◌, ◌⊗◌, ring}
use Rattle.integer_laws.proofs.Signs.{mul_positive}
use Rattle.spec_space.specs.declared.Point.{Point}
use Rattle.spec_space.specs.declared.Plane.{Plane}
use Rattle.spec_space.specs.Points.{IsPoint, value, normal, dot}
use Rattle.convex_cycles.proofs.Lists.{Each}
use Rattle.convex_cycles.proofs.Orders.{weaker}
use Rattle.convex_cycles.proofs.Quotes.{valuee}
use Rattle.convex_cycles.proofs.Reaches.{reach, reach_positive, positive_number, outdone}
use Rattle.convex_cycles.proofs.Crossings.{In, crossing, crossing-IsPoint, crossing_on, crossing_positive}

-- ---- on the plane
-- the crossing of a segment between two points that are strictly inside
pub crossing_within : (k : Plane) (p m : Point) → value k p ≤ℤ pos 0 → pos 0 <ℤ value k m → (gs : List Plane) → Each (In p) gs → Each (In m) gs → Each (In (crossing k p m)) gs
crossing_within k p m out front [] u v = tt
crossing_within k p m out front (g ∷ gs) u v = (crossing_positive k g p m out front u.0 (weaker (value g m) v.0), crossing_within k p m out front gs u.1 v.1)

-- a point of the cell that lies on the plane h
pub record OnPoint (h : Plane) (walls : List Plane) : Type 0 where
  pub point : Point
  pub is_point : IsPoint point
  pub on : value h point ≡ pos 0
  pub within : Each (In point) walls

-- two points of a cell on two sides of a plane: some point of the cell lies on it
pub point_on_plane : (h : Plane) (walls : List Plane) (p m : Point) → IsPoint p → IsPoint m → Each (In p) walls → Each (In m) walls → value h p ≤ℤ pos 0 → pos 0 <ℤ value h m → OnPoint h walls
point_on_plane h walls p m p_point m_point p_in m_in out front = record {
  point = crossing h p m;
  is_point = crossing-IsPoint h p m p_point m_point out front;
  on = crossing_on h p m;
  within = crossing_within h p m out front walls p_in m_in;
}

-- ---- in front of it
-- q moved along the normal of h, by one part in n
abbrev pub nudged : Plane → ℤ → Point → Point
nudged h n q = record { x = n *ℤ q.x +ℤ h.a; y = n *ℤ q.y +ℤ h.b; z = n *ℤ q.z +ℤ h.c; w = n *ℤ q.w }

pub nudged-value : (h : Plane) (n : ℤ) (q : Point) (f : Plane) → value f (nudged h n q) ≡ n *ℤ value f q +ℤ dot (normal f) (normal h)
nudged-value h n q f =
    let numbers : List ℤ = n ∷ (f.a ∷ (f.b ∷ (f.c ∷ (f.d ∷ (h.a ∷ (h.b ∷ (h.c ∷ (q.x ∷ (q.y ∷ (q.z ∷ (q.w ∷ []))))))))))) in
    ring numbers
    (valuee (var 1) (var 2) (var 3) (var 4) (var 0 ⊗ var 8 ⊕ var 5) (var 0 ⊗ var 9 ⊕ var 6) (var 0 ⊗ var 10 ⊕ var 7) (var 0 ⊗ var 11))
    (var 0 ⊗ valuee (var 1) (var 2) (var 3) (var 4) (var 8) (var 9) (var 10) (var 11) ⊕ (var 1 ⊗ var 5 ⊕ var 2 ⊗ var 6 ⊕ var 3 ⊗ var 7)) refl

abbrev along_normal : Plane → Plane → ℤ
along_normal h f = dot (normal f) (normal h)

nudged_within : (h : Plane) (n : ℕ) (q : Point) (gs : List Plane) → reach (along_normal h) gs ≤ n → Each (In q) gs → Each (In (nudged h (pos n) q)) gs
nudged_within h n q [] r w = tt
nudged_within h n q (g ∷ gs) r w =
    let rest = reach_positive (along_normal h) gs in
    (subst (λ x. pos 0 <ℤ x) (sym (nudged-value h (pos n) q g)) (outdone n (value g q) (along_normal h g) w.0 (omega arith)), nudged_within h n q gs (omega arith) w.1)

-- a point of the cell in front of the plane h
pub record FrontPoint (h : Plane) (walls : List Plane) : Type 0 where
  pub point : Point
  pub is_point : IsPoint point
  pub front : In point h
  pub within : Each (In point) walls

-- beside a point of the plane in the cell there is one in front
pub point_in_front : (h : Plane) (walls : List Plane) → pos 0 <ℤ dot (normal h) (normal h) → OnPoint h walls → FrontPoint h walls
point_in_front h walls some o =
    let n = reach (along_normal h) walls in
    let n_positive = positive_number n (reach_positive (along_normal h) walls) in
    record {
      point = nudged h (pos n) o.point;
      is_point = mul_positive (pos n) o.point.w n_positive o.is_point;
      front = subst (λ x. pos 0 <ℤ x) (sym (nudged-value h (pos n) o.point h ∙ ap (λ v. pos n *ℤ v +ℤ dot (normal h) (normal h)) o.on)) (zero_and (pos n) (dot (normal h) (normal h)) some);
      within = nudged_within h n o.point walls (omega arith) o.within;
    }
  where
    zero_and : (x y : ℤ) → pos 0 <ℤ y → pos 0 <ℤ (x *ℤ pos 0 +ℤ y)
    zero_and x y h = omega (arith, ints)
