-- On which side of a book's planes the two neighbours of a point on one of them lie.
use Rattle.std.proofs.Common.{[], ◌∷◌, ◌≡◌, ◌≢◌, inl, inr, ◌+◌, ◌*◌, ◌≤◌, ◌^◌, Bool, true, false, ℕ, ℤ, pos, neg_ℤ, ◌+ℤ◌, ◌*ℤ◌, ◌<ℤ◌, ◌≤ℤ◌, unsigned_abs, refl, sym, ◌∙◌, subst, arith}
use Rattle.std.proofs.lemmas.Int.{ints}
use Rattle.spec_space.specs.declared.Point.{Point}
use Rattle.spec_space.specs.declared.Plane.{Plane}
use Rattle.spec_space.specs.declared.Vector.{Vector}
use Rattle.spec_space.specs.Points.{IsPoint, dot, normal, value, opposite}
use Rattle.spec_solid.specs.Planes.{front_of, back_of}
use Rattle.integer_laws.proofs.Ring.{var, neg, ◌⊕◌, ◌⊗◌, ring}
use Rattle.integer_laws.proofs.Sizes.{size_add, size_mul}
use Rattle.integer_laws.proofs.Cancel.{sign_cases}
use Rattle.plane_core.specs.Views.{plane_of}
use Rattle.plane_core.specs.declared.numbers.Plane.{Plane as BookPlane}
use Rattle.convex_cycles.specs.Sides.{is_in_front}
use Rattle.convex_cycles.proofs.Flags.{Tells, front_tells, front_flag}
use Rattle.line_turns.proofs.Orders.{leads_square}
use Rattle.line_turns.proofs.Lines.{book_leads}
use Rattle.line_turns.proofs.Near.{IsNear, nudged_near, nudged-IsPoint}

-- the neighbour in front for true, the one behind for false
abbrev pub neighbour : Bool → Plane → Point → Point
neighbour true h p = front_of h p
neighbour false h p = back_of h p

-- the way to a neighbour
abbrev pub step : Bool → Plane → Vector
step true h = normal h
step false h = normal (opposite h)

size_of : (n : ℕ) → n ≤ 3 * 2 ^ 52 → n + 1 ≤ 2 ^ 54
size_of n h = omega arith

dot_size : (p q : BookPlane) → unsigned_abs (dot (normal (plane_of q)) (normal (plane_of p))) + 1 ≤ 2 ^ 54
dot_size p q = size_of (unsigned_abs (dot (normal (plane_of q)) (normal (plane_of p))))
    (size_add (q.a *ℤ p.a +ℤ q.b *ℤ p.b) (q.c *ℤ p.c) (2 * 2 ^ 52) (2 ^ 52)
    (size_add (q.a *ℤ p.a) (q.b *ℤ p.b) (2 ^ 52) (2 ^ 52) (size_mul q.a p.a (2 ^ 26) (2 ^ 26) q.a_small p.a_small) (size_mul q.b p.b (2 ^ 26) (2 ^ 26) q.b_small p.b_small))
    (size_mul q.c p.c (2 ^ 26) (2 ^ 26) q.c_small p.c_small))

dot_turned : (h k : Plane) → dot (normal k) (normal (opposite h)) ≡ neg_ℤ (dot (normal k) (normal h))
dot_turned h k = ring (h.a ∷ (h.b ∷ (h.c ∷ (k.a ∷ (k.b ∷ (k.c ∷ []))))))
    (var 3 ⊗ neg (var 0) ⊕ var 4 ⊗ neg (var 1) ⊕ var 5 ⊗ neg (var 2)) (neg (var 3 ⊗ var 0 ⊕ var 4 ⊗ var 1 ⊕ var 5 ⊗ var 2)) refl

step_size : (a : Bool) (p q : BookPlane) → unsigned_abs (dot (normal (plane_of q)) (step a (plane_of p))) + 1 ≤ 2 ^ 54
step_size true p q = dot_size p q
step_size false p q = rw (dot_turned (plane_of p) (plane_of q)) (same (dot (normal (plane_of q)) (normal (plane_of p))) (dot_size p q))
  where
    same : (x : ℤ) → unsigned_abs x + 1 ≤ 2 ^ 54 → unsigned_abs (neg_ℤ x) + 1 ≤ 2 ^ 54
    same x h = omega (arith, ints)

-- a neighbour lies where the point does, and for planes that hold the point on the side to which the step leads
pub neighbour_near : (a : Bool) (p q : BookPlane) (r : Point) → IsNear r (step a (plane_of p)) (neighbour a (plane_of p) r) (plane_of q)
neighbour_near true p q r = nudged_near (plane_of q) (2 ^ 54) r (step true (plane_of p)) (step_size true p q)
neighbour_near false p q r = nudged_near (plane_of q) (2 ^ 54) r (step false (plane_of p)) (step_size false p q)

pub neighbour-IsPoint : (a : Bool) (h : Plane) (r : Point) → IsPoint r → IsPoint (neighbour a h r)
neighbour-IsPoint true h r is = nudged-IsPoint (2 ^ 54) r (step true h) (omega arith) is
neighbour-IsPoint false h r is = nudged-IsPoint (2 ^ 54) r (step false h) (omega arith) is

-- ---- strict sides
-- strictly on the side of the flag
abbrev pub IsStrictly : Bool → ℤ → Type 0
IsStrictly true x = pos 0 <ℤ x
IsStrictly false x = x <ℤ pos 0

-- which side a number that is not 0 has
pub side_of : (x : ℤ) → x ≢ pos 0 → (b : Bool) × IsStrictly b x
side_of x some = elim (sign_cases x) [
  | inl low ↦ (false, low)
  | inr (inl none) ↦ absurd (some none)
  | inr (inr high) ↦ (true, high)
]

pub strictly_flag : (b : Bool) (h : Plane) (r : Point) → IsStrictly b (value h r) → is_in_front h r ≡ b
strictly_flag true h r up = front_flag h r true up
strictly_flag false h r down = front_flag h r false (below (value h r) down)
  where
    below : (x : ℤ) → x <ℤ pos 0 → x ≤ℤ pos 0
    below x h = omega (arith, ints)

pub strictly_off : (b : Bool) (x : ℤ) → IsStrictly b x → x ≢ pos 0
strictly_off true x h e = omega (arith, ints)
strictly_off false x h e = omega (arith, ints)

-- a number that is not 0 lies strictly on the side that its flag tells
pub flag_strictly : (b : Bool) (h : Plane) (r : Point) → is_in_front h r ≡ b → value h r ≢ pos 0 → IsStrictly b (value h r)
flag_strictly b h r e off = told b (value h r) off (subst (λ c. Tells c (value h r)) e (front_tells h r))
  where
    told : (b : Bool) (x : ℤ) → x ≢ pos 0 → Tells b x → IsStrictly b x
    told true x off h = h
    told false x off h = omega (arith, ints)

pub near_strictly : (b : Bool) (m r : Point) (d : Vector) (h : Plane) → IsNear m d r h → IsStrictly b (value h m) → IsStrictly b (value h r)
near_strictly true m r d h near up = near.front up
near_strictly false m r d h near down = near.behind down

-- of a plane that holds it, a point has one neighbour in front and one behind
pub own_strictly : (a : Bool) (p : BookPlane) (r : Point) → value (plane_of p) r ≡ pos 0 → IsStrictly a (value (plane_of p) (neighbour a (plane_of p) r))
own_strictly true p r on = subst (λ x. pos 0 <ℤ x) (sym ((neighbour_near true p p r).along on)) (leads_square (normal (plane_of p)) (book_leads p))
own_strictly false p r on = subst (λ x. x <ℤ pos 0) (sym ((neighbour_near false p p r).along on ∙ dot_turned (plane_of p) (plane_of p))) (down (dot (normal (plane_of p)) (normal (plane_of p))) (leads_square (normal (plane_of p)) (book_leads p)))
  where
    down : (x : ℤ) → pos 0 <ℤ x → neg_ℤ x <ℤ pos 0
    down x h = omega (arith, ints)
