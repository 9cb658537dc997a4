-- Beside a point there is one with the same sides of some planes, and off some others.
use Rattle.std.proofs.Common.{◌≡◌, ◌≢◌, ℕ, zero, suc, ◌+◌, ◌<◌, ℤ, pos, neg_ℤ, ◌+ℤ◌, ◌-ℤ◌, ◌*ℤ◌, ◌<ℤ◌, ◌≤ℤ◌, int_lt, unsigned_abs, Bool, true, false, List, [], ◌∷◌, refl, sym, ap, subst, ◌∙◌, inl, inr, arith}
use Rattle.std.specs.List.{Contains}
use Rattle.std.proofs.lemmas.Int.{ints}
use Rattle.spec_space.specs.declared.Point.{Point}
use Rattle.spec_space.specs.declared.Plane.{Plane}
use Rattle.spec_space.specs.Points.{IsPoint, value}
use Rattle.integer_laws.proofs.Ring.{var, con, neg, ◌⊕◌, ◌⊗◌, ◌⊖◌, ring}
use Rattle.integer_laws.proofs.Signs.{mul_positive, mul_nonneg}
use Rattle.integer_laws.proofs.Cancel.{sign_cases, mul_zero_right}

-- the product of two normals
abbrev pub dot : Plane → Plane → ℤ
dot l k = l.a *ℤ k.a +ℤ l.b *ℤ k.b +ℤ l.c *ℤ k.c

-- the point moved along the normal of a plane, the less the greater n is
abbrev nudged : ℤ → Point → Plane → Point
nudged n q k = record { x = n *ℤ q.x +ℤ k.a; y = n *ℤ q.y +ℤ k.b; z = n *ℤ q.z +ℤ k.c; w = n *ℤ q.w }

at_nudged : (n : ℤ) (q : Point) (k l : Plane) → value l (nudged n q k) ≡ n *ℤ value l q +ℤ dot l k
at_nudged n q k l = ring (n ∷ (q.x ∷ (q.y ∷ (q.z ∷ (q.w ∷ (l.a ∷ (l.b ∷ (l.c ∷ (l.d ∷ (k.a ∷ (k.b ∷ (k.c ∷ []))))))))))))
    (var 5 ⊗ (var 0 ⊗ var 1 ⊕ var 9) ⊕ var 6 ⊗ (var 0 ⊗ var 2 ⊕ var 10) ⊕ var 7 ⊗ (var 0 ⊗ var 3 ⊕ var 11) ⊖ var 8 ⊗ (var 0 ⊗ var 4))
    (var 0 ⊗ (var 5 ⊗ var 1 ⊕ var 6 ⊗ var 2 ⊕ var 7 ⊗ var 3 ⊖ var 8 ⊗ var 4) ⊕ (var 5 ⊗ var 9 ⊕ var 6 ⊗ var 10 ⊕ var 7 ⊗ var 11)) refl

-- ---- a number large enough
large : Plane → List Plane → ℕ
large k [] = 1
large k (l ∷ ls) = unsigned_abs (dot l k) + large k ls

large_some : (k : Plane) (ls : List Plane) → 0 < large k ls
unfolding large
large_some k [] = omega arith
large_some k (l ∷ ls) = let h = large_some k ls in omega arith

large_each : (k : Plane) (ls : List Plane) (l : Plane) → Contains ls l → unsigned_abs (dot l k) < large k ls
unfolding large
large_each k [] l (i, h, e) = absurd (omega arith)
large_each k (x ∷ xs) l (zero, h, e) = let s = large_some k xs in subst (λ m. unsigned_abs (dot m k) < unsigned_abs (dot x k) + large k xs) e (omega arith)
large_each k (x ∷ xs) l (suc i, h, e) = let s = large_each k xs l (i, omega arith, e) in omega arith

-- ---- signs
record SameSign (v u : ℤ) : Type 0 where
  flag : int_lt (pos 0) v ≡ int_lt (pos 0) u
  off : v ≢ pos 0

flag_is : (v : ℤ) (b : Bool) → int_lt (pos 0) v ≡ b → pos 0 <ℤ v → b ≡ true
flag_is v true e h = refl
flag_is v false e h = absurd (omega (arith, ints))

flag_not : (v : ℤ) (b : Bool) → int_lt (pos 0) v ≡ b → v <ℤ pos 0 → b ≡ false
flag_not v true e h = absurd (omega (arith, ints))
flag_not v false e h = refl

positive_off : (v : ℤ) → pos 0 <ℤ v → v ≢ pos 0
positive_off v h e = omega (arith, ints)

negative_off : (v : ℤ) → v <ℤ pos 0 → v ≢ pos 0
negative_off v h e = omega (arith, ints)

-- n times a number that is not 0 is further from 0 than n
grows : (n v d : ℤ) → pos 0 <ℤ n → unsigned_abs d < unsigned_abs n → pos 0 <ℤ v → pos 0 <ℤ (n *ℤ v +ℤ d)
grows n v d p h q = by (n *ℤ v) (n *ℤ (v -ℤ pos 1)) (mul_nonneg n (v -ℤ pos 1) (weak n p) (less v q)) (spread n v)
  where
    weak : (n : ℤ) → pos 0 <ℤ n → pos 0 ≤ℤ n
    weak n p = omega (arith, ints)

    less : (v : ℤ) → pos 0 <ℤ v → pos 0 ≤ℤ (v -ℤ pos 1)
    less v q = omega (arith, ints)

    spread : (n v : ℤ) → n *ℤ (v -ℤ pos 1) ≡ n *ℤ v -ℤ n
    spread n v = ring (n ∷ (v ∷ [])) (var 0 ⊗ (var 1 ⊖ con (pos 1))) (var 0 ⊗ var 1 ⊖ var 0) refl

    by : (m r : ℤ) → pos 0 ≤ℤ r → r ≡ m -ℤ n → pos 0 <ℤ (m +ℤ d)
    by m r k e = omega (arith, ints)

falls : (n v d : ℤ) → pos 0 <ℤ n → unsigned_abs d < unsigned_abs n → v <ℤ pos 0 → (n *ℤ v +ℤ d) <ℤ pos 0
falls n v d p h q = by (n *ℤ neg_ℤ v +ℤ neg_ℤ d) (n *ℤ v) (grows n (neg_ℤ v) (neg_ℤ d) p (turned d h) (up v q)) (spread n v)
  where
    turned : (d : ℤ) → unsigned_abs d < unsigned_abs n → unsigned_abs (neg_ℤ d) < unsigned_abs n
    turned d h = omega (arith, ints)

    up : (v : ℤ) → v <ℤ pos 0 → pos 0 <ℤ neg_ℤ v
    up v q = omega (arith, ints)

    spread : (n v : ℤ) → n *ℤ neg_ℤ v +ℤ neg_ℤ d ≡ neg_ℤ (n *ℤ v) +ℤ neg_ℤ d
    spread n v = ap (λ x. x +ℤ neg_ℤ d) (ring (n ∷ (v ∷ [])) (var 0 ⊗ neg (var 1)) (neg (var 0 ⊗ var 1)) refl)

    by : (s m : ℤ) → pos 0 <ℤ s → s ≡ neg_ℤ m +ℤ neg_ℤ d → (m +ℤ d) <ℤ pos 0
    by s m k e = omega (arith, ints)

sign_kept : (n v d : ℤ) → pos 0 <ℤ n → unsigned_abs d < unsigned_abs n → v ≢ pos 0 → SameSign (n *ℤ v +ℤ d) v
sign_kept n v d p h off = elim (sign_cases v) [
  | inl low ↦ let k = falls n v d p h low in record { flag = flag_not (n *ℤ v +ℤ d) (int_lt (pos 0) (n *ℤ v +ℤ d)) refl k ∙ sym (flag_not v (int_lt (pos 0) v) refl low); off = negative_off (n *ℤ v +ℤ d) k }
  | inr (inl zero_here) ↦ absurd (off zero_here)
  | inr (inr high) ↦ let k = grows n v d p h high in record { flag = flag_is (n *ℤ v +ℤ d) (int_lt (pos 0) (n *ℤ v +ℤ d)) refl k ∙ sym (flag_is v (int_lt (pos 0) v) refl high); off = positive_off (n *ℤ v +ℤ d) k }
]

-- ---- off one plane more
-- the normal is not 0
abbrev pub HasNormal : Plane → Type 0
HasNormal k = pos 0 <ℤ dot k k

pub record IsBeside (ls : List Plane) (q p : Point) : Type 0 where
  pub is_point : IsPoint p
  pub flag : (l : Plane) → Contains ls l → int_lt (pos 0) (value l p) ≡ int_lt (pos 0) (value l q)
  pub off : (l : Plane) → Contains ls l → value l p ≢ pos 0

moved : (ls : List Plane) (q : Point) (k : Plane) → IsPoint q → ((l : Plane) → Contains ls l → value l q ≢ pos 0) → IsBeside ls q (nudged (pos (large k ls)) q k)
moved ls q k point off =
    let n = large k ls in
    let p : pos 0 <ℤ pos n = some n (large_some k ls) in
    let kept : (l : Plane) → Contains ls l → SameSign (value l (nudged (pos n) q k)) (value l q) = λ l c. subst (λ v. SameSign v (value l q)) (sym (at_nudged (pos n) q k l)) (sign_kept (pos n) (value l q) (dot l k) p (large_each k ls l c) (off l c)) in
    record { is_point = mul_positive (pos n) q.w p point; flag = λ l c. (kept l c).flag; off = λ l c. (kept l c).off }
  where
    some : (n : ℕ) → 0 < n → pos 0 <ℤ pos n
    some n h = omega (arith, ints)

moved_off : (ls : List Plane) (q : Point) (k : Plane) → HasNormal k → value k q ≡ pos 0 → value k (nudged (pos (large k ls)) q k) ≢ pos 0
moved_off ls q k steep on z = by (value k (nudged (pos (large k ls)) q k)) (pos (large k ls) *ℤ value k q) (dot k k) (at_nudged (pos (large k ls)) q k k) (ap (λ v. pos (large k ls) *ℤ v) on ∙ mul_zero_right (pos (large k ls))) steep z
  where
    by : (v m d : ℤ) → v ≡ m +ℤ d → m ≡ pos 0 → pos 0 <ℤ d → v ≡ pos 0 → ⊥
    by v m d e f h z = omega (arith, ints)

both_off : (k : Plane) (ls : List Plane) (q : Point) → value k q ≢ pos 0 → ((l : Plane) → Contains ls l → value l q ≢ pos 0) → (l : Plane) → Contains (k ∷ ls) l → value l q ≢ pos 0
both_off k ls q here off l (zero, h, e) = subst (λ m. value m q ≢ pos 0) e here
both_off k ls q here off l (suc i, h, e) = off l (i, omega arith, e)

later : (k : Plane) (ls : List Plane) (l : Plane) → Contains ls l → Contains (k ∷ ls) l
later k ls l (i, h, e) = (suc i, omega arith, e)

pub record IsClear (ks ls : List Plane) (q : Point) : Type 0 where
  pub point : Point
  pub beside : IsBeside ls q point
  pub clear : (k : Plane) → Contains ks k → value k point ≢ pos 0

-- from a point beside the first, on the same side of one plane more
clear_on : (k : Plane) (ks ls : List Plane) (q r : Point) → IsBeside ls q r → IsClear ks (k ∷ ls) r → IsClear (k ∷ ks) ls q
clear_on k ks ls q r first c = record {
  point = c.point;
  beside = record {
    is_point = c.beside.is_point;
    flag = λ l i. c.beside.flag l (later k ls l i) ∙ first.flag l i;
    off = λ l i. c.beside.off l (later k ls l i);
  };
  clear = both_off k ks c.point (c.beside.off k (0, omega arith, refl)) c.clear;
}

itself : (ls : List Plane) (q : Point) → IsPoint q → ((l : Plane) → Contains ls l → value l q ≢ pos 0) → IsBeside ls q q
itself ls q point off = record { is_point = point; flag = λ l c. refl; off = off }

-- there is a point on the same sides of the planes ls, and on none of the planes ks
pub avoids : (ks ls : List Plane) (q : Point) → ((k : Plane) → Contains ks k → HasNormal k) → IsPoint q → ((l : Plane) → Contains ls l → value l q ≢ pos 0) → IsClear ks ls q
avoids [] ls q steep point off = record { point = q; beside = itself ls q point off; clear = λ k c. absurd (none k c) }
  where
    none : (k : Plane) → Contains [] k → ⊥
    none k (i, h, e) = omega arith
avoids (k ∷ ks) ls q steep point off = elim (sign_cases (value k q)) [
  | inl low ↦ clear_on k ks ls q q (itself ls q point off) (avoids ks (k ∷ ls) q (λ m c. steep m (later k ks m c)) point (both_off k ls q (negative_off (value k q) low) off))
  | inr (inl on) ↦ clear_on k ks ls q (nudged (pos (large k ls)) q k) (moved ls q k point off)
      (avoids ks (k ∷ ls) (nudged (pos (large k ls)) q k) (λ m c. steep m (later k ks m c)) (moved ls q k point off).is_point
      (both_off k ls (nudged (pos (large k ls)) q k) (moved_off ls q k (steep k (0, omega arith, refl)) on) (moved ls q k point off).off))
  | inr (inr high) ↦ clear_on k ks ls q q (itself ls q point off) (avoids ks (k ∷ ls) q (λ m c. steep m (later k ks m c)) point (both_off k ls q (positive_off (value k q) high) off))
]
