-- Laws of planes, points and books for the crates above: reduced planes are reduced in the words of the definitions, the
-- common point of three planes is one, and a positive factor keeps a sign.
use Rattle.std.proofs.Common.{◌≡◌, ℕ, zero, suc, ◌<◌, ◌≤◌, Bool, true, false, List, [], ◌∷◌, take, length, slice_get, Some, ℤ, pos, negsuc, neg_ℤ, ◌*ℤ◌, ◌<ℤ◌, unsigned_abs, refl, sym, ap, ◌∙◌, arith, ◌⊎◌, inl, inr, true≢false}
use Rattle.std.specs.Prelude.{◌≢◌, option_map}
use Rattle.std.proofs.lemmas.Int.{ints, unsigned_abs-mul}
use Rattle.std.proofs.lemmas.Option.{get_or_from_slice_get, slice_get_within, slice_get-map}
use Prim.Native.Nat.{◌∣◌}
use native.Mathlib.Nat.{dvd-mul_right}
use Rattle.integer_laws.proofs.Ring.{var, ◌⊗◌, ring}
use Rattle.integer_laws.proofs.Signs.{mul_positive, mul_negative}
use Rattle.integer_laws.proofs.Products.{cancel_factor}
use Rattle.spec_space.specs.declared.Plane.{Plane as AnyPlane}
use Rattle.spec_space.specs.declared.Point.{Point}
use Rattle.spec_space.specs.Points.{value, normal, dot, cross}
use Rattle.spec_space.specs.Reduced.{LeadsPositive, IsReduced}
use Rattle.plane_core.specs.Numbers.{AreCoprime, leads, leads_positive}
use Rattle.spec_space.specs.Sums.{times, IsSamePoint}
use Rattle.plane_core.specs.Views.{plane_of}
use Rattle.plane_core.specs.Planes.{sign_of}
use Rattle.plane_core.specs.Books.{AreDistinct, BeginsWithWalls, cube_walls}
use Rattle.plane_core.specs.declared.numbers.Plane.{Plane}
use Rattle.plane_core.specs.declared.points.Sign.TheVariants.{Front, Back}
use Rattle.integer_laws.proofs.Cancel.{sign_cases, mul_zero_right}
use Rattle.integer_laws.proofs.Cramer as C
use Rattle.plane_core.proofs.Books.{same_plane, length-map}
use Rattle.plane_core.proofs.Signed.{coprime-neg}
use Rattle.plane_core.proofs.Multiples.{shares, turn_both, turn_first}

-- ---- reduced planes
above_zero : (n : ℕ) → pos 0 <ℤ pos (suc n)
above_zero n = omega (arith, ints)

lead_of : (a : ℤ) (rest : Bool) → leads a rest ≡ true → (pos 0 <ℤ a) ⊎ ((a ≡ pos 0) × (rest ≡ true))
lead_of (pos zero) rest e = inr (refl, e)
lead_of (pos (suc n)) rest e = inl (above_zero n)
lead_of (negsuc n) rest e = absurd (true≢false (sym e))

third_lead : (c : ℤ) → leads c false ≡ true → pos 0 <ℤ c
third_lead c e = elim (lead_of c false e) [
  | inl p ↦ p
  | inr q ↦ absurd (true≢false (sym q.1))
]

second_lead : (b c : ℤ) → leads b (leads c false) ≡ true → (pos 0 <ℤ b) ⊎ ((b ≡ pos 0) × (pos 0 <ℤ c))
second_lead b c e = elim (lead_of b (leads c false) e) [
  | inl p ↦ inl p
  | inr q ↦ inr (q.0, third_lead c q.1)
]

pub leads-LeadsPositive : (h : AnyPlane) → leads_positive h.a h.b h.c ≡ true → LeadsPositive h
leads-LeadsPositive h e = elim (lead_of h.a (leads h.b (leads h.c false)) e) [
  | inl p ↦ inl p
  | inr q ↦ inr (q.0, second_lead h.b h.c q.1)
]

pub divides_size : (m q a : ℤ) → a ≡ m *ℤ q → unsigned_abs m ∣ unsigned_abs a
divides_size m q a e = rw (ap unsigned_abs e, unsigned_abs-mul m q) (dvd-mul_right (unsigned_abs m) (unsigned_abs q))

-- a plane of this crate is reduced
pub reduced_is_reduced : (p : Plane) → IsReduced (plane_of p)
reduced_is_reduced p = record {
  lead = leads-LeadsPositive (plane_of p) p.signed;
  divisors = λ m quotient t. p.coprime (unsigned_abs m) (divides_size m quotient.a p.a t.0) (divides_size m quotient.b p.b t.1) (divides_size m quotient.c p.c t.2) (divides_size m quotient.d p.d t.3);
}

-- ---- signs
pub sign_positive : (x : ℤ) → pos 0 <ℤ x → sign_of x ≡ Front
sign_positive (pos zero) h = absurd (omega (arith, ints))
sign_positive (pos (suc n)) h = refl
sign_positive (negsuc n) h = absurd h.lt

pub sign_negative : (x : ℤ) → x <ℤ pos 0 → sign_of x ≡ Back
sign_negative (pos n) h = absurd (omega (arith, ints))
sign_negative (negsuc n) h = refl

-- a positive factor keeps the sign
pub sign_factor : (k v : ℤ) → pos 0 <ℤ k → sign_of (k *ℤ v) ≡ sign_of v
sign_factor k v h = elim (sign_cases v) [
  | inl n ↦ sign_negative (k *ℤ v) (mul_negative k v h n) ∙ sym (sign_negative v n)
  | inr (inl z) ↦ ap sign_of (ap (λ x. k *ℤ x) z ∙ mul_zero_right k ∙ sym z)
  | inr (inr p) ↦ sign_positive (k *ℤ v) (mul_positive k v h p) ∙ sym (sign_positive v p)
]

-- so the side of a point does not depend on how it is spelt
pub sign_scaled : (h : AnyPlane) (k : ℤ) (p : Point) → pos 0 <ℤ k → sign_of (value h (times k p)) ≡ sign_of (value h p)
sign_scaled h k p positive = ap sign_of (C.side_value-scaled h.a h.b h.c h.d k p.x p.y p.z p.w) ∙ sign_factor k (value h p) positive

-- ---- the common point
proportional : (w x u v s t : ℤ) → w ≢ pos 0 → u *ℤ w ≡ x *ℤ v → s *ℤ w ≡ x *ℤ t → u *ℤ t ≡ s *ℤ v
proportional w x u v s t some p q = cancel_factor w (u *ℤ t) (s *ℤ v) some (first w u t ∙ ap (λ n. n *ℤ t) p ∙ turned x v t ∙ ap (λ n. n *ℤ v) (sym q) ∙ sym (first w s v))
  where
    first : (w u t : ℤ) → w *ℤ (u *ℤ t) ≡ (u *ℤ w) *ℤ t
    first w u t = ring (w ∷ (u ∷ (t ∷ []))) (var 0 ⊗ (var 1 ⊗ var 2)) ((var 1 ⊗ var 0) ⊗ var 2) refl

    turned : (x v t : ℤ) → (x *ℤ v) *ℤ t ≡ (x *ℤ t) *ℤ v
    turned x v t = ring (x ∷ (v ∷ (t ∷ []))) ((var 0 ⊗ var 1) ⊗ var 2) ((var 0 ⊗ var 2) ⊗ var 1) refl

-- two points on three planes with independent normals are one point, up to a factor
pub common_point_unique : (h k l : AnyPlane) (p q : Point) → dot (normal h) (cross (normal k) (normal l)) ≢ pos 0
    → value h p ≡ pos 0 → value k p ≡ pos 0 → value l p ≡ pos 0 → value h q ≡ pos 0 → value k q ≡ pos 0 → value l q ≡ pos 0 → IsSamePoint p q
common_point_unique h k l p q some hp kp lp hq kq lq =
    let independent : C.w h.a h.b h.c h.d k.a k.b k.c k.d l.a l.b l.c l.d ≢ pos 0 = λ e. some (sym (C.triple h.a h.b h.c k.a k.b k.c l.a l.b l.c) ∙ e) in
    record {
      same_x = proportional _ _ p.x p.w q.x q.w independent
          (C.same_x h.a h.b h.c h.d k.a k.b k.c k.d l.a l.b l.c l.d p.x p.y p.z p.w hp kp lp)
          (C.same_x h.a h.b h.c h.d k.a k.b k.c k.d l.a l.b l.c l.d q.x q.y q.z q.w hq kq lq);
      same_y = proportional _ _ p.y p.w q.y q.w independent
          (C.same_y h.a h.b h.c h.d k.a k.b k.c k.d l.a l.b l.c l.d p.x p.y p.z p.w hp kp lp)
          (C.same_y h.a h.b h.c h.d k.a k.b k.c k.d l.a l.b l.c l.d q.x q.y q.z q.w hq kq lq);
      same_z = proportional _ _ p.z p.w q.z q.w independent
          (C.same_z h.a h.b h.c h.d k.a k.b k.c k.d l.a l.b l.c l.d p.x p.y p.z p.w hp kp lp)
          (C.same_z h.a h.b h.c h.d k.a k.b k.c k.d l.a l.b l.c l.d q.x q.y q.z q.w hq kq lq);
    }

-- ---- numbers of a book
not_below : (ps : List Plane) (i j : ℕ) (p : Plane) → AreDistinct ps → slice_get ps i ≡ Some p → slice_get ps j ≡ Some p → i < j → ⊥
not_below ps i j p distinct at_i at_j below = distinct i j p below (slice_get_within ps j p at_j) (get_or_from_slice_get ps i p p at_i ∙ sym (get_or_from_slice_get ps j p p at_j))

neither : (i j : ℕ) → (i < j → ⊥) → (j < i → ⊥) → i ≡ j
neither i j p q = omega arith

-- a plane has one number
pub one_number : (ps : List Plane) (i j : ℕ) (p : Plane) → AreDistinct ps → slice_get ps i ≡ Some p → slice_get ps j ≡ Some p → i ≡ j
one_number ps i j p distinct at_i at_j = neither i j (not_below ps i j p distinct at_i at_j) (not_below ps j i p distinct at_j at_i)

-- ---- planes with equal multiples
divides : (k : ℕ) (x z : ℤ) → x ≡ pos k *ℤ z → k ∣ unsigned_abs x
divides k x z e = divides_size (pos k) z x e

one_times : (k : ℕ) (x z : ℤ) → k ≡ 1 → x ≡ pos k *ℤ z → x ≡ z
one_times k x z one e = e ∙ ap (λ n. pos n *ℤ z) one ∙ once z
  where
    once : (z : ℤ) → pos 1 *ℤ z ≡ z
    once z = omega (arith, ints)

coprime_factor : (k : ℕ) (a b c d r s t u : ℤ) → AreCoprime a b c d → a ≡ pos k *ℤ r → b ≡ pos k *ℤ s → c ≡ pos k *ℤ t → d ≡ pos k *ℤ u → k ≡ 1
coprime_factor k a b c d r s t u h ea eb ec ed = h k (divides k a r ea) (divides k b s eb) (divides k c t ec) (divides k d u ed)

-- coprime numbers that have equal positive multiples are equal
same_numbers : (m n : ℕ) (a b c d e f g h : ℤ) → 0 < m → 0 < n → AreCoprime a b c d → AreCoprime e f g h
    → pos m *ℤ a ≡ pos n *ℤ e → pos m *ℤ b ≡ pos n *ℤ f → pos m *ℤ c ≡ pos n *ℤ g → pos m *ℤ d ≡ pos n *ℤ h
    → (a ≡ e) × (b ≡ f) × (c ≡ g) × (d ≡ h)
same_numbers m n a b c d e f g h m_some n_some first second ea eb ec ed =
    let s = shares m n m_some n_some in
    let p = s.share a e ea in
    let q = s.share b f eb in
    let r = s.share c g ec in
    let t = s.share d h ed in
    let i = coprime_factor s.first a b c d p.0 q.0 r.0 t.0 first p.1 q.1 r.1 t.1 in
    let j = coprime_factor s.second e f g h p.0 q.0 r.0 t.0 second p.2 q.2 r.2 t.2 in
    let same : (x y z : ℤ) → x ≡ pos s.first *ℤ z → y ≡ pos s.second *ℤ z → x ≡ y = λ x y z u v. one_times s.first x z i u ∙ sym (one_times s.second y z j v) in
    (same a e p.0 p.1 p.2, same b f q.0 q.1 q.2, same c g r.0 r.1 r.2, same d h t.0 t.1 t.2)

not_both : (a : ℤ) (r s : Bool) → (r ≡ true → s ≡ true → ⊥) → leads a r ≡ true → leads (neg_ℤ a) s ≡ true → ⊥
not_both (pos zero) r s h e f = h e f
not_both (pos (suc n)) r s h e f = true≢false (sym f)
not_both (negsuc n) r s h e f = true≢false (sym e)

-- numbers and their opposites do not both lead
leads_once : (a b c : ℤ) → leads_positive a b c ≡ true → leads_positive (neg_ℤ a) (neg_ℤ b) (neg_ℤ c) ≡ true → ⊥
leads_once a b c = not_both a (leads b (leads c false)) (leads (neg_ℤ b) (leads (neg_ℤ c) false)) (not_both b (leads c false) (leads (neg_ℤ c) false) (not_both c false false (λ e f. true≢false (sym e))))

opposite_multiples : (p q : Plane) (i j : ℕ) → negsuc i *ℤ p.a ≡ pos (suc j) *ℤ q.a → negsuc i *ℤ p.b ≡ pos (suc j) *ℤ q.b → negsuc i *ℤ p.c ≡ pos (suc j) *ℤ q.c → negsuc i *ℤ p.d ≡ pos (suc j) *ℤ q.d → ⊥
opposite_multiples p q i j ea eb ec ed =
    let same = same_numbers (suc i) (suc j) (neg_ℤ p.a) (neg_ℤ p.b) (neg_ℤ p.c) (neg_ℤ p.d) q.a q.b q.c q.d (omega arith) (omega arith) (coprime-neg p.a p.b p.c p.d p.coprime) q.coprime
    (turn_first i j p.a q.a ea) (turn_first i j p.b q.b eb) (turn_first i j p.c q.c ec) (turn_first i j p.d q.d ed) in
    leads_once p.a p.b p.c p.signed (rw (same.0, same.1, same.2) q.signed)

-- planes of which a multiple is a multiple of the other are one
pub same_from_multiples : (p q : Plane) (m n : ℤ) → m ≢ pos 0 → n ≢ pos 0
    → m *ℤ p.a ≡ n *ℤ q.a → m *ℤ p.b ≡ n *ℤ q.b → m *ℤ p.c ≡ n *ℤ q.c → m *ℤ p.d ≡ n *ℤ q.d → p ≡ q
same_from_multiples p q (pos zero) n hm hn ea eb ec ed = absurd (hm refl)
same_from_multiples p q (pos (suc i)) (pos zero) hm hn ea eb ec ed = absurd (hn refl)
same_from_multiples p q (pos (suc i)) (pos (suc j)) hm hn ea eb ec ed =
    let same = same_numbers (suc i) (suc j) p.a p.b p.c p.d q.a q.b q.c q.d (omega arith) (omega arith) p.coprime q.coprime ea eb ec ed in
    same_plane p q same.0 same.1 same.2 same.3
same_from_multiples p q (pos (suc i)) (negsuc j) hm hn ea eb ec ed = absurd (opposite_multiples q p j i (sym ea) (sym eb) (sym ec) (sym ed))
same_from_multiples p q (negsuc i) (pos zero) hm hn ea eb ec ed = absurd (hn refl)
same_from_multiples p q (negsuc i) (pos (suc j)) hm hn ea eb ec ed = absurd (opposite_multiples p q i j ea eb ec ed)
same_from_multiples p q (negsuc i) (negsuc j) hm hn ea eb ec ed =
    let same = same_numbers (suc i) (suc j) p.a p.b p.c p.d q.a q.b q.c q.d (omega arith) (omega arith) p.coprime q.coprime
    (turn_both i j p.a q.a ea) (turn_both i j p.b q.b eb) (turn_both i j p.c q.c ec) (turn_both i j p.d q.d ed) in
    same_plane p q same.0 same.1 same.2 same.3

-- ---- the walls
slice_get-take : {X : Type 0} → (n : ℕ) (xs : List X) (k : ℕ) → k < n → slice_get (take n xs) k ≡ slice_get xs k
slice_get-take zero xs k h = absurd (omega arith)
slice_get-take (suc n) [] k h = refl
slice_get-take (suc n) (x ∷ xs) zero h = refl
slice_get-take (suc n) (x ∷ xs) (suc k) h = slice_get-take n xs k (omega arith)

long_enough : {X : Type 0} → (n : ℕ) (xs : List X) → length (take n xs) ≡ n → n ≤ length xs
long_enough zero xs e = omega arith
long_enough (suc n) [] e = absurd (omega arith)
long_enough (suc n) (x ∷ xs) e = let h = long_enough n xs (omega arith) in omega arith

-- the first six planes of a book are the walls
pub wall_at : (ps : List Plane) (k : ℕ) → BeginsWithWalls ps → k < 6 → option_map plane_of (slice_get ps k) ≡ slice_get cube_walls k
wall_at ps k walls h = ap (option_map plane_of) (sym (slice_get-take 6 ps k h)) ∙ sym (slice_get-map plane_of (take 6 ps) k) ∙ ap (λ hs. slice_get hs k) walls

pub walls_given : (ps : List Plane) → BeginsWithWalls ps → 6 ≤ length ps
walls_given ps walls = long_enough 6 ps (sym (length-map plane_of (take 6 ps)) ∙ ap length walls)
