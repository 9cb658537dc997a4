-- Points near a point m: k times m and a direction d, for a large k.
use Rattle.std.proofs.Common.{◌≡◌, ◌⊎◌, inl, inr, ◌↔◌, ◌+◌, ◌≤◌, List, [], ◌∷◌, ℕ, ℤ, pos, neg_ℤ, ◌+ℤ◌, ◌*ℤ◌, ◌<ℤ◌, unsigned_abs, refl, sym, ◌∙◌, subst, arith}
use Rattle.std.proofs.lemmas.Int.{ints}
use Rattle.spec_space.specs.declared.Vector.{Vector}
use Rattle.spec_space.specs.declared.Point.{Point}
use Rattle.spec_space.specs.declared.Plane.{Plane}
use Rattle.spec_space.specs.Points.{IsPoint, dot, normal, value}
use Rattle.integer_laws.proofs.Ring.{var, neg, ◌⊕◌, ◌⊗◌, ◌⊖◌, ring}
use Rattle.integer_laws.proofs.Signs.{mul_positive}
use Rattle.integer_laws.proofs.Products.{zero_right}
use Rattle.integer_laws.proofs.Cancel.{sign_cases}
use Rattle.convex_cycles.proofs.Lists.{Each, each_weaker, each_both}
use Rattle.convex_cycles.proofs.Reaches.{reach, reach_positive, positive_number, outdone}

-- k times the point, and the direction once
abbrev pub nudged : ℤ → Point → Vector → Point
nudged k m d = record { x = k *ℤ m.x +ℤ d.x; y = k *ℤ m.y +ℤ d.y; z = k *ℤ m.z +ℤ d.z; w = k *ℤ m.w }

pub nudged-value : (h : Plane) (k : ℤ) (m : Point) (d : Vector) → value h (nudged k m d) ≡ k *ℤ value h m +ℤ dot (normal h) d
nudged-value h k m d = ring (h.a ∷ (h.b ∷ (h.c ∷ (h.d ∷ (k ∷ (m.x ∷ (m.y ∷ (m.z ∷ (m.w ∷ (d.x ∷ (d.y ∷ (d.z ∷ []))))))))))))
    (var 0 ⊗ (var 4 ⊗ var 5 ⊕ var 9) ⊕ var 1 ⊗ (var 4 ⊗ var 6 ⊕ var 10) ⊕ var 2 ⊗ (var 4 ⊗ var 7 ⊕ var 11) ⊖ var 3 ⊗ (var 4 ⊗ var 8))
    (var 4 ⊗ (var 0 ⊗ var 5 ⊕ var 1 ⊗ var 6 ⊕ var 2 ⊗ var 7 ⊖ var 3 ⊗ var 8) ⊕ (var 0 ⊗ var 9 ⊕ var 1 ⊗ var 10 ⊕ var 2 ⊗ var 11)) refl

-- for planes that hold m the direction alone counts
pub nudged_on : (h : Plane) (k : ℤ) (m : Point) (d : Vector) → value h m ≡ pos 0 → value h (nudged k m d) ≡ dot (normal h) d
nudged_on h k m d e = nudged-value h k m d ∙ gone (k *ℤ value h m) (dot (normal h) d) (zero_right k (value h m) e)
  where
    gone : (x y : ℤ) → x ≡ pos 0 → x +ℤ y ≡ y
    gone x y e = omega (arith, ints)

pub outdone_down : (n : ℕ) (v d : ℤ) → v <ℤ pos 0 → unsigned_abs d + 1 ≤ n → (pos n *ℤ v +ℤ d) <ℤ pos 0
outdone_down n v d h k = back (pos n *ℤ v +ℤ d) (subst (λ x. pos 0 <ℤ x) (turned (pos n) v d) (outdone n (neg_ℤ v) (neg_ℤ d) (up v h) (same_size d n k)))
  where
    up : (v : ℤ) → v <ℤ pos 0 → pos 0 <ℤ neg_ℤ v
    up v h = omega (arith, ints)

    same_size : (d : ℤ) (n : ℕ) → unsigned_abs d + 1 ≤ n → unsigned_abs (neg_ℤ d) + 1 ≤ n
    same_size d n k = omega (arith, ints)

    turned : (n v d : ℤ) → n *ℤ neg_ℤ v +ℤ neg_ℤ d ≡ neg_ℤ (n *ℤ v +ℤ d)
    turned n v d = ring (n ∷ (v ∷ (d ∷ []))) (var 0 ⊗ neg (var 1) ⊕ neg (var 2)) (neg (var 0 ⊗ var 1 ⊕ var 2)) refl

    back : (x : ℤ) → pos 0 <ℤ neg_ℤ x → x <ℤ pos 0
    back x h = omega (arith, ints)

-- the point p lies where m does, and on the side of d where the plane holds m
pub record IsNear (m : Point) (d : Vector) (p : Point) (h : Plane) : Type 0 where
  pub front : pos 0 <ℤ value h m → pos 0 <ℤ value h p
  pub behind : value h m <ℤ pos 0 → value h p <ℤ pos 0
  pub along : value h m ≡ pos 0 → value h p ≡ dot (normal h) d

pub nudged_near : (h : Plane) (k : ℕ) (m : Point) (d : Vector) → unsigned_abs (dot (normal h) d) + 1 ≤ k → IsNear m d (nudged (pos k) m d) h
nudged_near h k m d large = record {
  front = λ up. subst (λ x. pos 0 <ℤ x) (sym (nudged-value h (pos k) m d)) (outdone k (value h m) (dot (normal h) d) up large);
  behind = λ down. subst (λ x. x <ℤ pos 0) (sym (nudged-value h (pos k) m d)) (outdone_down k (value h m) (dot (normal h) d) down large);
  along = λ e. nudged_on h (pos k) m d e;
}

-- a number above the sizes that the planes' normals have along d
abbrev pub far : Vector → List Plane → ℕ
far d hs = reach (λ h. dot (normal h) d) hs

pub nudged-IsPoint : (k : ℕ) (m : Point) (d : Vector) → 1 ≤ k → IsPoint m → IsPoint (nudged (pos k) m d)
nudged-IsPoint k m d h is = mul_positive (pos k) m.w (positive_number k h) is

-- at a point far enough along m, this holds for each plane of a list
pub near_each : (hs : List Plane) (k : ℕ) (m : Point) (d : Vector) → far d hs ≤ k → Each (IsNear m d (nudged (pos k) m d)) hs
near_each [] k m d large = tt
near_each (h ∷ hs) k m d large =
    let some = reach_positive (λ (h : Plane). dot (normal h) d) hs in
    let first : unsigned_abs (dot (normal h) d) + 1 ≤ k = omega arith in
    let rest : far d hs ≤ k = omega arith in
    (nudged_near h k m d first, near_each hs k m d rest)

-- ---- strictly inside the sides of a piece
-- the direction d leads from m into the side: m is inside it, or on its plane and d turns into it
abbrev pub Enters : Point → Vector → Plane → Type 0
Enters m d h = (pos 0 <ℤ value h m) ⊎ ((value h m ≡ pos 0) × (pos 0 <ℤ dot (normal h) d))

pub enters_inside : (h : Plane) (m p : Point) (d : Vector) → IsNear m d p h → Enters m d h → pos 0 <ℤ value h p
enters_inside h m p d near (inl up) = near.front up
enters_inside h m p d near (inr on) = subst (λ x. pos 0 <ℤ x) (sym (near.along on.0)) on.1

pub inside_enters : (h : Plane) (m p : Point) (d : Vector) → IsNear m d p h → pos 0 <ℤ value h p → Enters m d h
inside_enters h m p d near inside = elim (sign_cases (value h m)) [
  | inl low ↦ absurd (clash (value h p) inside (near.behind low))
  | inr (inl none) ↦ inr (none, subst (λ x. pos 0 <ℤ x) (near.along none) inside)
  | inr (inr high) ↦ inl high
]
  where
    clash : (x : ℤ) → pos 0 <ℤ x → x <ℤ pos 0 → ⊥
    clash x h k = omega (arith, ints)

-- the point lies strictly inside all sides exactly where the direction leads into each
pub inside_near : (sides : List Plane) (k : ℕ) (m : Point) (d : Vector) → far d sides ≤ k → Each (λ h. pos 0 <ℤ value h (nudged (pos k) m d)) sides ↔ Each (Enters m d) sides
inside_near sides k m d large =
    let near = near_each sides k m d large in (
      λ inside. each_weaker (λ h. IsNear m d (nudged (pos k) m d) h × (pos 0 <ℤ value h (nudged (pos k) m d))) (Enters m d) (λ h b. inside_enters h m (nudged (pos k) m d) d b.0 b.1) sides (each_both (IsNear m d (nudged (pos k) m d)) (λ h. pos 0 <ℤ value h (nudged (pos k) m d)) sides near inside),
      λ enters. each_weaker (λ h. IsNear m d (nudged (pos k) m d) h × Enters m d h) (λ h. pos 0 <ℤ value h (nudged (pos k) m d)) (λ h b. enters_inside h m (nudged (pos k) m d) d b.0 b.1) sides (each_both (IsNear m d (nudged (pos k) m d)) (Enters m d) sides near enters),
    )
