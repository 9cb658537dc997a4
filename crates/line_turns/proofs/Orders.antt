-- Vectors across one direction of which the first number that is not 0 is positive, in the order of their determinants.
use Rattle.std.proofs.Common.{◌≡◌, ◌≢◌, ◌⊎◌, inl, inr, ℤ, pos, neg_ℤ, ◌+ℤ◌, ◌*ℤ◌, ◌<ℤ◌, subst, arith}
use Rattle.std.proofs.lemmas.Int.{ints}
use Rattle.spec_space.specs.declared.Vector.{Vector}
use Rattle.spec_space.specs.Points.{dot}
use Rattle.integer_laws.proofs.Signs.{mul_positive, mul_negative, square_positive}
use Rattle.integer_laws.proofs.Products.{zero_left, zero_right}
use Rattle.integer_laws.proofs.Ring.{*ℤ_comm}
use Rattle.integer_laws.proofs.Cancel.{sign_cases}
use Rattle.line_turns.proofs.Dets.{det, det_turned, three_terms}

-- the first of the numbers that is not 0 is positive
abbrev pub LeadsOf : ℤ → ℤ → ℤ → Type 0
LeadsOf x y z = (pos 0 <ℤ x) ⊎ ((x ≡ pos 0) × ((pos 0 <ℤ y) ⊎ ((y ≡ pos 0) × (pos 0 <ℤ z))))

abbrev pub Leads : Vector → Type 0
Leads v = LeadsOf v.x v.y v.z

-- ---- sums of two products
both_up : (p q a c : ℤ) → pos 0 <ℤ p → pos 0 <ℤ q → pos 0 <ℤ a → pos 0 <ℤ c → pos 0 <ℤ (p *ℤ a +ℤ q *ℤ c)
both_up p q a c hp hq ha hc = up (p *ℤ a) (q *ℤ c) (mul_positive p a hp ha) (mul_positive q c hq hc)
  where
    up : (x y : ℤ) → pos 0 <ℤ x → pos 0 <ℤ y → pos 0 <ℤ (x +ℤ y)
    up x y h k = omega (arith, ints)

first_up : (p q a c : ℤ) → pos 0 <ℤ p → pos 0 <ℤ a → c ≡ pos 0 → pos 0 <ℤ (p *ℤ a +ℤ q *ℤ c)
first_up p q a c hp ha zc = up (p *ℤ a) (q *ℤ c) (mul_positive p a hp ha) (zero_right q c zc)
  where
    up : (x y : ℤ) → pos 0 <ℤ x → y ≡ pos 0 → pos 0 <ℤ (x +ℤ y)
    up x y h k = omega (arith, ints)

second_up : (p q a c : ℤ) → pos 0 <ℤ q → a ≡ pos 0 → pos 0 <ℤ c → pos 0 <ℤ (p *ℤ a +ℤ q *ℤ c)
second_up p q a c hq za hc = up (p *ℤ a) (q *ℤ c) (zero_right p a za) (mul_positive q c hq hc)
  where
    up : (x y : ℤ) → x ≡ pos 0 → pos 0 <ℤ y → pos 0 <ℤ (x +ℤ y)
    up x y h k = omega (arith, ints)

both_level : (p q a c : ℤ) → a ≡ pos 0 → c ≡ pos 0 → p *ℤ a +ℤ q *ℤ c ≡ pos 0
both_level p q a c za zc = up (p *ℤ a) (q *ℤ c) (zero_right p a za) (zero_right q c zc)
  where
    up : (x y : ℤ) → x ≡ pos 0 → y ≡ pos 0 → x +ℤ y ≡ pos 0
    up x y h k = omega (arith, ints)

one_level : (p q a c : ℤ) (R S Q : Type 0) → pos 0 <ℤ p → pos 0 <ℤ q → (R → S → Q) → (pos 0 <ℤ a) ⊎ ((a ≡ pos 0) × R) → (pos 0 <ℤ c) ⊎ ((c ≡ pos 0) × S)
    → (pos 0 <ℤ (p *ℤ a +ℤ q *ℤ c)) ⊎ ((p *ℤ a +ℤ q *ℤ c ≡ pos 0) × Q)
one_level p q a c R S Q hp hq below (inl ha) (inl hc) = inl (both_up p q a c hp hq ha hc)
one_level p q a c R S Q hp hq below (inl ha) (inr zc) = inl (first_up p q a c hp ha zc.0)
one_level p q a c R S Q hp hq below (inr za) (inl hc) = inl (second_up p q a c hq za.0 hc)
one_level p q a c R S Q hp hq below (inr za) (inr zc) = inr (both_level p q a c za.0 zc.0, below za.1 zc.1)

-- a positive sum leads as its terms do
pub leads_sum : (p q ax ay az cx cy cz : ℤ) → pos 0 <ℤ p → pos 0 <ℤ q → LeadsOf ax ay az → LeadsOf cx cy cz
    → LeadsOf (p *ℤ ax +ℤ q *ℤ cx) (p *ℤ ay +ℤ q *ℤ cy) (p *ℤ az +ℤ q *ℤ cz)
leads_sum p q ax ay az cx cy cz hp hq la lc =
    one_level p q ax cx ((pos 0 <ℤ ay) ⊎ ((ay ≡ pos 0) × (pos 0 <ℤ az))) ((pos 0 <ℤ cy) ⊎ ((cy ≡ pos 0) × (pos 0 <ℤ cz))) ((pos 0 <ℤ (p *ℤ ay +ℤ q *ℤ cy)) ⊎ ((p *ℤ ay +ℤ q *ℤ cy ≡ pos 0) × (pos 0 <ℤ (p *ℤ az +ℤ q *ℤ cz)))) hp hq
    (one_level p q ay cy (pos 0 <ℤ az) (pos 0 <ℤ cz) (pos 0 <ℤ (p *ℤ az +ℤ q *ℤ cz)) hp hq (both_up p q az cz hp hq)) la lc

-- ---- a factor of which the product leads
clash : (x : ℤ) → pos 0 <ℤ x → x <ℤ pos 0 → ⊥
clash x h k = omega (arith, ints)

level_up : (x : ℤ) → x ≡ pos 0 → pos 0 <ℤ x → ⊥
level_up x h k = omega (arith, ints)

level_down : (x : ℤ) → x ≡ pos 0 → x <ℤ pos 0 → ⊥
level_down x h k = omega (arith, ints)

down : (r b : ℤ) → r <ℤ pos 0 → pos 0 <ℤ b → (r *ℤ b) <ℤ pos 0
down r b h k = subst (λ x. x <ℤ pos 0) (*ℤ_comm b r) (mul_negative b r k h)

not_level_down : (r b : ℤ) (R S : Type 0) → r <ℤ pos 0 → (R → S → ⊥) → (pos 0 <ℤ b) ⊎ ((b ≡ pos 0) × R) → (pos 0 <ℤ (r *ℤ b)) ⊎ ((r *ℤ b ≡ pos 0) × S) → ⊥
not_level_down r b R S low below (inl h) (inl k) = clash (r *ℤ b) k (down r b low h)
not_level_down r b R S low below (inl h) (inr z) = level_down (r *ℤ b) z.0 (down r b low h)
not_level_down r b R S low below (inr z) (inl k) = level_up (r *ℤ b) (zero_right r b z.0) k
not_level_down r b R S low below (inr z) (inr y) = below z.1 y.1

not_level_zero : (r b : ℤ) (S : Type 0) → r ≡ pos 0 → (S → ⊥) → (pos 0 <ℤ (r *ℤ b)) ⊎ ((r *ℤ b ≡ pos 0) × S) → ⊥
not_level_zero r b S none below (inl k) = level_up (r *ℤ b) (zero_left r b none) k
not_level_zero r b S none below (inr z) = below z.1

pub leads_factor : (r x y z : ℤ) → LeadsOf x y z → LeadsOf (r *ℤ x) (r *ℤ y) (r *ℤ z) → pos 0 <ℤ r
leads_factor r x y z l m = elim (sign_cases r) [
  | inl low ↦ absurd (not_level_down r x ((pos 0 <ℤ y) ⊎ ((y ≡ pos 0) × (pos 0 <ℤ z))) ((pos 0 <ℤ (r *ℤ y)) ⊎ ((r *ℤ y ≡ pos 0) × (pos 0 <ℤ (r *ℤ z)))) low
      (not_level_down r y (pos 0 <ℤ z) (pos 0 <ℤ (r *ℤ z)) low (λ h k. clash (r *ℤ z) k (down r z low h))) l m)
  | inr (inl none) ↦ absurd (not_level_zero r x ((pos 0 <ℤ (r *ℤ y)) ⊎ ((r *ℤ y ≡ pos 0) × (pos 0 <ℤ (r *ℤ z)))) none
      (not_level_zero r y (pos 0 <ℤ (r *ℤ z)) none (λ k. level_up (r *ℤ z) (zero_left r z none) k)) m)
  | inr (inr high) ↦ high
]

leads_same : (x y z u v w : ℤ) → x ≡ u → y ≡ v → z ≡ w → LeadsOf x y z → LeadsOf u v w
leads_same x y z u v w p q r l = subst (λ k. LeadsOf u v k) r (subst (λ k. LeadsOf u k z) q (subst (λ k. LeadsOf k y z) p l))

-- a vector that leads is not 0
square_some : (x : ℤ) → (pos 0 <ℤ (x *ℤ x)) ⊎ (x *ℤ x ≡ pos 0)
square_some x = elim (sign_cases x) [
  | inl low ↦ inl (square_positive x (λ e. level_down x e low))
  | inr (inl none) ↦ inr (zero_left x x none)
  | inr (inr high) ↦ inl (mul_positive x x high high)
]

some_first : (x y z : ℤ) → pos 0 <ℤ x → (pos 0 <ℤ y) ⊎ (y ≡ pos 0) → (pos 0 <ℤ z) ⊎ (z ≡ pos 0) → pos 0 <ℤ (x +ℤ y +ℤ z)
some_first x y z h (inl k) (inl l) = omega (arith, ints)
some_first x y z h (inl k) (inr l) = omega (arith, ints)
some_first x y z h (inr k) (inl l) = omega (arith, ints)
some_first x y z h (inr k) (inr l) = omega (arith, ints)

some_second : (x y z : ℤ) → pos 0 <ℤ y → (pos 0 <ℤ x) ⊎ (x ≡ pos 0) → (pos 0 <ℤ z) ⊎ (z ≡ pos 0) → pos 0 <ℤ (x +ℤ y +ℤ z)
some_second x y z h (inl k) (inl l) = omega (arith, ints)
some_second x y z h (inl k) (inr l) = omega (arith, ints)
some_second x y z h (inr k) (inl l) = omega (arith, ints)
some_second x y z h (inr k) (inr l) = omega (arith, ints)

some_third : (x y z : ℤ) → pos 0 <ℤ z → (pos 0 <ℤ x) ⊎ (x ≡ pos 0) → (pos 0 <ℤ y) ⊎ (y ≡ pos 0) → pos 0 <ℤ (x +ℤ y +ℤ z)
some_third x y z h (inl k) (inl l) = omega (arith, ints)
some_third x y z h (inl k) (inr l) = omega (arith, ints)
some_third x y z h (inr k) (inl l) = omega (arith, ints)
some_third x y z h (inr k) (inr l) = omega (arith, ints)

squares_some : (x y z : ℤ) → LeadsOf x y z → pos 0 <ℤ (x *ℤ x +ℤ y *ℤ y +ℤ z *ℤ z)
squares_some x y z (inl h) = some_first (x *ℤ x) (y *ℤ y) (z *ℤ z) (mul_positive x x h h) (square_some y) (square_some z)
squares_some x y z (inr (u, inl h)) = some_second (x *ℤ x) (y *ℤ y) (z *ℤ z) (mul_positive y y h h) (square_some x) (square_some z)
squares_some x y z (inr (u, inr (v, h))) = some_third (x *ℤ x) (y *ℤ y) (z *ℤ z) (mul_positive z z h h) (square_some x) (square_some y)

pub leads_square : (v : Vector) → Leads v → pos 0 <ℤ dot v v
leads_square v l = squares_some v.x v.y v.z l

zero_or_square : (x : ℤ) → (x ≡ pos 0) ⊎ (pos 0 <ℤ (x *ℤ x))
zero_or_square x = elim (sign_cases x) [
  | inl low ↦ inr (square_positive x (λ e. level_down x e low))
  | inr (inl none) ↦ inl none
  | inr (inr high) ↦ inr (mul_positive x x high high)
]

-- a vector that is not 0
pub vector_some : (v : Vector) → (v.x ≡ pos 0 → v.y ≡ pos 0 → v.z ≡ pos 0 → ⊥) → pos 0 <ℤ dot v v
vector_some v some = elim (zero_or_square v.x) [
  | inr up ↦ some_first (v.x *ℤ v.x) (v.y *ℤ v.y) (v.z *ℤ v.z) up (square_some v.y) (square_some v.z)
  | inl x ↦ elim (zero_or_square v.y) [
    | inr up ↦ some_second (v.x *ℤ v.x) (v.y *ℤ v.y) (v.z *ℤ v.z) up (square_some v.x) (square_some v.z)
    | inl y ↦ elim (zero_or_square v.z) [
      | inr up ↦ some_third (v.x *ℤ v.x) (v.y *ℤ v.y) (v.z *ℤ v.z) up (square_some v.x) (square_some v.y)
      | inl z ↦ absurd (some x y z)
    ]
  ]
]

-- ---- the order
-- b follows a round t
abbrev pub Before : Vector → Vector → Vector → Type 0
Before t a b = pos 0 <ℤ det a b t

pub before_once : (t a b : Vector) → Before t a b → Before t b a → ⊥
before_once t a b h k = both (det a b t) (det b a t) (det_turned a b t) h k
  where
    both : (x y : ℤ) → y ≡ neg_ℤ x → pos 0 <ℤ x → pos 0 <ℤ y → ⊥
    both x y e h k = omega (arith, ints)

pub before_total : (t a b : Vector) → det a b t ≢ pos 0 → Before t a b ⊎ Before t b a
before_total t a b some = elim (sign_cases (det a b t)) [
  | inl low ↦ inr (turned (det a b t) (det b a t) (det_turned a b t) low)
  | inr (inl none) ↦ absurd (some none)
  | inr (inr high) ↦ inl high
]
  where
    turned : (x y : ℤ) → y ≡ neg_ℤ x → x <ℤ pos 0 → pos 0 <ℤ y
    turned x y e h = omega (arith, ints)

pub before_trans : (t a b c : Vector) → pos 0 <ℤ dot t t → dot a t ≡ pos 0 → dot b t ≡ pos 0 → dot c t ≡ pos 0 → Leads a → Leads b → Leads c
    → Before t a b → Before t b c → Before t a c
before_trans t a b c some ea eb ec la lb lc h k =
    let r = three_terms a b c t some ea eb ec in
    leads_factor (det a c t) b.x b.y b.z lb
    (leads_same (det b c t *ℤ a.x +ℤ det a b t *ℤ c.x) (det b c t *ℤ a.y +ℤ det a b t *ℤ c.y) (det b c t *ℤ a.z +ℤ det a b t *ℤ c.z) (det a c t *ℤ b.x) (det a c t *ℤ b.y) (det a c t *ℤ b.z) r.on_x r.on_y r.on_z
    (leads_sum (det b c t) (det a b t) a.x a.y a.z c.x c.y c.z k h la lc))
