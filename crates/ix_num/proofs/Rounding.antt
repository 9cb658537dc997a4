-- The nearest whole number, its rounded fraction, and decimal digits that are cut off.
use Rattle.std.proofs.Common.{◌≡◌, ℕ, ◌+◌, ◌-◌, ◌*◌, ◌^◌, ◌<◌, ◌≤◌, zero, suc, List, [], ◌∷◌, ◌++◌, length, take, drop, get_or, refl, sym, ◌∙◌, ap, arith, subst, lit<, Option, Some, None, MatchOption, inl, inr, length-drop, take-append-drop}
use Rattle.std.proofs.Math.Nat.{pow-succ', mul-le-mul_left, mul-le-mul_right, pow-le-pow_right, one-le-pow, div-mul-le_self, lt-div-mul-add}
use Rattle.std.proofs.lemmas.Nat.{pow-add}
use Rattle.std.proofs.lemmas.Bool.{cases_order, cases_lt}
use Rattle.std.proofs.Math.Seq.{drop-cons}
use Rattle.spec_num.specs.Rounding.{rounded_size}
use Rattle.spec_num.specs.Decimals.{value_after, value}
use Rattle.ix_num.specs.Magnitudes.{AreDigits, Nearest, IsMagnitude}
use Rattle.ix_num.proofs.Digits.{value_after_is, value_after_append, value_lt, AreDigits-drop}

pub ten_pos : (k : ℕ) → 0 < 10 ^ k
ten_pos k = one-le-pow k 10 (lit< tt)

not_below : (a b v w : ℕ) → Nearest a b v → Nearest a b w → v < w → ⊥
not_below a b v w p q lt =
    let up : suc v * b ≤ w * b = mul-le-mul_right b lt in
    let grown : suc v * b ≡ v * b + b = omega arith in
    omega (arith, p.high, q.low)

pub nearest_one : (a b v w : ℕ) → Nearest a b v → Nearest a b w → v ≡ w
nearest_one a b v w p q = elim (cases_order v w) [ inl e ↦ e | inr h ↦ elim h [ inl lt ↦ absurd (not_below a b v w p q lt) | inr gt ↦ absurd (not_below a b w v q p gt) ] ]

exact : (v b : ℕ) → 0 < b → Nearest (v * b) b v
exact v b pos_ = record { low = omega arith; high = omega arith }

pub nearest_scale : (a b c v : ℕ) → 0 < c → Nearest a b v → Nearest (a * c) (b * c) v
nearest_scale a b c v pos_ p =
    let lows : (2 * (v * b)) * c ≤ (2 * a + b) * c = mul-le-mul_right c p.low in
    let highs : suc (2 * a + b) * c ≤ (2 * (v * b) + 2 * b) * c = mul-le-mul_right c p.high in
    record { low = omega arith; high = omega arith }

up_by : (m z down : ℕ) → (m * 10 ^ z) * 10 ^ down ≡ m * 10 ^ (z + down)
up_by m z down = rw (pow-add 10 z down) (omega arith)

nearest_up_by : (m z down up : ℕ) → z + down ≡ up → Nearest (m * 10 ^ up) (10 ^ down) (m * 10 ^ z)
nearest_up_by m z down up split =
    subst (λ x. Nearest x (10 ^ down) (m * 10 ^ z)) (up_by m z down ∙ ap (λ u. m * 10 ^ u) split) (exact (m * 10 ^ z) (10 ^ down) (ten_pos down))

-- no digit is cut off
pub nearest_up : (m up down : ℕ) → down ≤ up → Nearest (m * 10 ^ up) (10 ^ down) (m * 10 ^ (up - down))
nearest_up m up down le = nearest_up_by m (up - down) down up (omega arith)

-- a digit and less than one of its places are cut off
cut_up : (f e r p : ℕ) → 5 ≤ e → e ≤ 9 → r < p → Nearest (f * (10 * p) + (e * p + r)) (10 * p) (f + 1)
cut_up f e r p five nine small =
    let least : 5 * p ≤ e * p = mul-le-mul_right p five in
    let most : e * p ≤ 9 * p = mul-le-mul_right p nine in
    record { low = omega arith; high = omega arith }

cut_down : (f e r p : ℕ) → e ≤ 4 → r < p → Nearest (f * (10 * p) + (e * p + r)) (10 * p) f
cut_down f e r p four small =
    let most : e * p ≤ 4 * p = mul-le-mul_right p four in
    record { low = omega arith; high = omega arith }

-- digits, by the first of those that are cut off
parted : (n d l p v w a : ℕ) → p ≡ 10 * l → a ≡ n * p + v → v ≡ (0 * 10 + d) * l + w → a ≡ n * (10 * l) + (d * l + w)
parted n d l p v w a e f g = subst (λ x. a ≡ n * x + v → a ≡ n * (10 * l) + (d * l + w)) (sym e) (λ h. omega arith) f

cut_value : (ds : List ℕ) (kept : ℕ) → kept < length ds
    → value ds ≡ value (take kept ds) * (10 * 10 ^ length (drop (suc kept) ds)) + ((get_or ds kept 0 - 48) * 10 ^ length (drop (suc kept) ds) + value (drop (suc kept) ds))
cut_value ds kept lt =
    let front = take kept ds in
    let c = get_or ds kept 0 in
    let rest = drop (suc kept) ds in
    let split : drop kept ds ≡ c ∷ rest = drop-cons ds kept 0 lt in
    let whole : value ds ≡ value_after (value front) (c ∷ rest) =
    ap value (sym (take-append-drop kept ds) ∙ ap (λ l. front ++ l) split) ∙ value_after_append front (c ∷ rest) 0 in
    parted (value front) (c - 48) (10 ^ length rest) (10 ^ suc (length rest)) (value (c ∷ rest)) (value rest) (value ds)
    (pow-succ' 10 (length rest)) (whole ∙ value_after_is (c ∷ rest) (value front)) (value_after_is rest (0 * 10 + (c - 48)))

digit_of : (ds : List ℕ) (i : ℕ) → i < length ds → AreDigits ds → (48 ≤ get_or ds i 0) × (get_or ds i 0 ≤ 57)
digit_of [] i lt h = absurd (omega arith)
digit_of (c ∷ cs) zero lt h = (h.0, h.1)
digit_of (c ∷ cs) (suc i) lt h = digit_of cs i (omega arith) h.2

power_of : (l k : ℕ) → suc l ≡ k → 10 * 10 ^ l ≡ 10 ^ k
power_of l k e = sym (pow-succ' 10 l) ∙ ap (λ i. 10 ^ i) e

cut_places : (ds : List ℕ) (kept cut : ℕ) → kept < length ds → kept + cut ≡ length ds → suc (length (drop (suc kept) ds)) ≡ cut
cut_places ds kept cut lt e = omega (arith, length-drop (suc kept) ds)

pub nearest_cut_up : (ds : List ℕ) (kept cut : ℕ) → AreDigits ds → kept < length ds → kept + cut ≡ length ds → 53 ≤ get_or ds kept 0
    → Nearest (value ds) (10 ^ cut) (value (take kept ds) + 1)
nearest_cut_up ds kept cut h lt e five =
    let rest = drop (suc kept) ds in
    let d = digit_of ds kept lt h in
    subst (λ b. Nearest (value ds) b (value (take kept ds) + 1)) (power_of (length rest) cut (cut_places ds kept cut lt e))
    (subst (λ a. Nearest a (10 * 10 ^ length rest) (value (take kept ds) + 1)) (sym (cut_value ds kept lt))
    (cut_up (value (take kept ds)) (get_or ds kept 0 - 48) (value rest) (10 ^ length rest) (omega arith) (omega arith) (value_lt rest (AreDigits-drop (suc kept) ds h))))

pub nearest_cut_down : (ds : List ℕ) (kept cut : ℕ) → AreDigits ds → kept < length ds → kept + cut ≡ length ds → get_or ds kept 0 < 53
    → Nearest (value ds) (10 ^ cut) (value (take kept ds))
nearest_cut_down ds kept cut h lt e four =
    let rest = drop (suc kept) ds in
    let d = digit_of ds kept lt h in
    subst (λ b. Nearest (value ds) b (value (take kept ds))) (power_of (length rest) cut (cut_places ds kept cut lt e))
    (subst (λ a. Nearest a (10 * 10 ^ length rest) (value (take kept ds))) (sym (cut_value ds kept lt))
    (cut_down (value (take kept ds)) (get_or ds kept 0 - 48) (value rest) (10 ^ length rest) (omega arith) (value_lt rest (AreDigits-drop (suc kept) ds h))))

-- more places are cut off than there are digits
pub nearest_none : (ds : List ℕ) (cut : ℕ) → AreDigits ds → length ds < cut → Nearest (value ds) (10 ^ cut) 0
nearest_none ds cut h lt =
    let below = value_lt ds h in
    let up : 10 ^ suc (length ds) ≤ 10 ^ cut = pow-le-pow_right (lit< tt) lt in
    let ten : 10 ^ suc (length ds) ≡ 10 * 10 ^ length ds = pow-succ' 10 (length ds) in
    record { low = omega arith; high = omega arith }

-- the same with both numbers times a power of ten
pub nearest_down : (m cut up down v : ℕ) → cut + up ≡ down → Nearest m (10 ^ cut) v → Nearest (m * 10 ^ up) (10 ^ down) v
nearest_down m cut up down v e h =
    subst (λ b. Nearest (m * 10 ^ up) b v) (sym (pow-add 10 cut up) ∙ ap (λ i. 10 ^ i) e) (nearest_scale m (10 ^ cut) (10 ^ up) v (ten_pos up) h)

-- a nearest number decides
pub above : (a b v bound : ℕ) → Nearest a b v → bound < v → (w : ℕ) → Nearest a b w → bound < w
above a b v bound p over w q = subst (λ x. bound < x) (nearest_one a b v w p q) over

pub moved_down : (m cut up down : ℕ) (o : Option ℕ) → cut + up ≡ down → (o ≡ None → (v : ℕ) × Nearest m (10 ^ cut) v) → IsMagnitude m (10 ^ cut) o → IsMagnitude (m * 10 ^ up) (10 ^ down) o
moved_down m cut up down (Some v) e h p = (nearest_down m cut up down v e p.0, p.1)
moved_down m cut up down None e h p =
    let v = h refl in
    above (m * 10 ^ up) (10 ^ down) v.0 (10 ^ 21) (nearest_down m cut up down v.0 e v.1) (p v.0 v.1)

-- there is a nearest number
pub nearest_any : (ds : List ℕ) (cut : ℕ) → AreDigits ds → 0 < cut → (v : ℕ) × Nearest (value ds) (10 ^ cut) v
nearest_any ds cut h some_ = elim (cases_lt (length ds) cut) [
  | inl lt ↦ (0, nearest_none ds cut h lt)
  | inr le ↦
      let kept = length ds - cut in
      let e : kept + cut ≡ length ds = omega arith in
      let lt : kept < length ds = omega arith in
      elim (cases_lt (get_or ds kept 0) 53) [
        | inl four ↦ (value (take kept ds), nearest_cut_down ds kept cut h lt e four)
        | inr five ↦ (value (take kept ds) + 1, nearest_cut_up ds kept cut h lt e five)
      ]
]

-- the digits that are kept pass a bound
pub over_front : (ds : List ℕ) (kept cut bound : ℕ) → AreDigits ds → kept < length ds → kept + cut ≡ length ds → bound < value (take kept ds)
    → (w : ℕ) → Nearest (value ds) (10 ^ cut) w → bound < w
over_front ds kept cut bound h lt e over w q = elim (cases_lt (get_or ds kept 0) 53) [
  | inl four ↦ above (value ds) (10 ^ cut) (value (take kept ds)) bound (nearest_cut_down ds kept cut h lt e four) over w q
  | inr five ↦ above (value ds) (10 ^ cut) (value (take kept ds) + 1) bound (nearest_cut_up ds kept cut h lt e five) (omega arith) w q
]

pub from_scale : (m up down : ℕ) (o : Option ℕ) → down ≤ up
    → MatchOption o (10 ^ 21 < m * 10 ^ (up - down)) (λ v. (v ≡ m * 10 ^ (up - down)) × (v ≤ 10 ^ 21)) → IsMagnitude (m * 10 ^ up) (10 ^ down) o
from_scale m up down (Some v) le h = (subst (λ x. Nearest (m * 10 ^ up) (10 ^ down) x) (sym h.0) (nearest_up m up down le), h.1)
from_scale m up down None le h = above (m * 10 ^ up) (10 ^ down) (m * 10 ^ (up - down)) (10 ^ 21) (nearest_up m up down le) h

pub from_digits : (m up down : ℕ) → down ≤ up → 10 ^ 21 < m → IsMagnitude (m * 10 ^ up) (10 ^ down) None
from_digits m up down le over =
    let least : m * 1 ≤ m * 10 ^ (up - down) = mul-le-mul_left m (ten_pos (up - down)) in
    above (m * 10 ^ up) (10 ^ down) (m * 10 ^ (up - down)) (10 ^ 21) (nearest_up m up down le) (omega arith)

-- the rounded fraction is the nearest number
nearest_rounded : (a b : ℕ) → 0 < b → Nearest a b (rounded_size a b)
nearest_rounded a b some_ =
    let twice : 0 < 2 * b = omega arith in
    let floor = div-mul-le_self (2 * a + b) (2 * b) in
    let next = lt-div-mul-add {a = 2 * a + b} {b = 2 * b} twice in
    record { low = omega arith; high = omega arith }

pub rounded_is : (a b v : ℕ) → 0 < b → Nearest a b v → rounded_size a b ≡ v
rounded_is a b v some_ h = nearest_one a b (rounded_size a b) v (nearest_rounded a b some_) h

-- what is read of a size: the size, unless it passes the limit
abbrev pub IsRead : ℕ → Option ℕ → Type 0
IsRead size o = MatchOption o (10 ^ 21 < size) (λ v. (v ≡ size) × (v ≤ 10 ^ 21))

pub read_rounded : (a b : ℕ) (o : Option ℕ) → 0 < b → IsMagnitude a b o → IsRead (rounded_size a b) o
read_rounded a b (Some v) some_ h = (sym (rounded_is a b v some_ h.0), h.1)
read_rounded a b None some_ h = h (rounded_size a b) (nearest_rounded a b some_)
