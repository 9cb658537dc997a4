-- The digits at the front of a text, their number and its bounds.
use Rattle.std.proofs.Common.{◌≡◌, ℕ, ◌+◌, ◌-◌, ◌*◌, ◌^◌, ◌<◌, ◌≤◌, zero, suc, min, List, [], ◌∷◌, ◌++◌, length, take, drop, get_or, refl, sym, ◌∙◌, ap, arith, Bool, true, false, cond, inl, inr, lit<}
use Rattle.std.proofs.Math.Nat.{pow-succ', mul-le-mul_left, mul-le-mul_right, pow-le-pow_right}
use Rattle.std.proofs.Math.Seq.{drop-cons, take-append-add}
use Rattle.std.proofs.lemmas.Grind.{pow_more}
use Rattle.std.proofs.lemmas.Bool.{cases_lt}
use Rattle.std.proofs.lemmas.Bool.Decides.{nat_tests}
use Rattle.std.proofs.lemmas.List.{drop_more}
use Rattle.std.proofs.lemmas.List.Sums.{take_while-cons}
use Rattle.std.specs.List.{take_while}
use Rattle.std.specs.Char.{is_ascii_digit}
use Rattle.spec_num.specs.Decimals.{value_after, value}
use Rattle.ix_num.specs.Magnitudes.{AreDigits}

pub value_after_ge : (ds : List ℕ) (n : ℕ) → n ≤ value_after n ds
value_after_ge [] n = omega arith
value_after_ge (c ∷ cs) n = omega (arith, value_after_ge cs (n * 10 + (c - 48)))

pub value_after_append : (xs ys : List ℕ) (n : ℕ) → value_after n (xs ++ ys) ≡ value_after (value_after n xs) ys
value_after_append [] ys n = refl
value_after_append (c ∷ cs) ys n = value_after_append cs ys (n * 10 + (c - 48))

-- a digit before others, by its place
place : (n d P a b v : ℕ) → a ≡ (n * 10 + d) * P + v → b ≡ (0 * 10 + d) * P + v → a ≡ n * (10 * P) + b
place n d P a b v p q = omega arith

pub value_after_is : (ds : List ℕ) (n : ℕ) → value_after n ds ≡ n * 10 ^ length ds + value ds
value_after_is [] n = omega arith
value_after_is (c ∷ cs) n =
    rw (pow-succ' 10 (length cs)) (place n (c - 48) (10 ^ length cs) _ _ (value cs) (value_after_is cs (n * 10 + (c - 48))) (value_after_is cs (0 * 10 + (c - 48))))

first_lt : (d P a v : ℕ) → d ≤ 9 → v < P → a ≡ (0 * 10 + d) * P + v → a < 10 * P
first_lt d P a v small below e = omega (arith, mul-le-mul_right P small)

pub value_lt : (ds : List ℕ) → AreDigits ds → value ds < 10 ^ length ds
value_lt [] h = omega arith
value_lt (c ∷ cs) h =
    rw (pow-succ' 10 (length cs)) (first_lt (c - 48) (10 ^ length cs) _ (value cs) (omega arith) (value_lt cs h.2) (value_after_is cs (0 * 10 + (c - 48))))

pub AreDigits-append : (xs ys : List ℕ) → AreDigits xs → AreDigits ys → AreDigits (xs ++ ys)
AreDigits-append [] ys p q = q
AreDigits-append (c ∷ cs) ys p q = (p.0, p.1, AreDigits-append cs ys p.2 q)

pub AreDigits-drop : (n : ℕ) (xs : List ℕ) → AreDigits xs → AreDigits (drop n xs)
AreDigits-drop zero xs p = p
AreDigits-drop (suc n) [] p = tt
AreDigits-drop (suc n) (c ∷ cs) p = AreDigits-drop n cs p.2

pub AreDigits-take : (n : ℕ) (xs : List ℕ) → AreDigits xs → AreDigits (take n xs)
AreDigits-take zero xs p = tt
AreDigits-take (suc n) [] p = tt
AreDigits-take (suc n) (c ∷ cs) p = (p.0, p.1, AreDigits-take n cs p.2)

-- what passes a bound on the way passes it in the end
pub grow_over : (ds : List ℕ) (i n w bound : ℕ) → i < length ds → bound < n * 10 + (get_or ds i 0 - 48) → value_after n (drop i ds) ≡ w → bound < w
grow_over ds i n w bound lt over e =
    let more : value_after (n * 10 + (get_or ds i 0 - 48)) (drop (suc i) ds) ≡ w = sym (ap (value_after n) (drop-cons ds i 0 lt)) ∙ e in
    omega (arith, value_after_ge (drop (suc i) ds) (n * 10 + (get_or ds i 0 - 48)))

pub scale_over : (n c z s bound : ℕ) → s ≡ n * 10 ^ c → bound < s * 10 → c < z → bound < n * 10 ^ z
scale_over n c z s bound e over lt =
    let up : 10 ^ (c + 1) ≤ 10 ^ z = pow-le-pow_right (lit< tt) (omega arith) in
    let whole : s * 10 ≡ n * 10 ^ (c + 1) = rw (pow_more 10 c) (omega (arith, e)) in
    omega (arith, mul-le-mul_left n up)

-- the first digits of two parts
pub front_two : (xs ys : List ℕ) (kept : ℕ) → length xs ≤ kept → value (take kept (xs ++ ys)) ≡ value_after (value xs) (take (kept - length xs) ys)
front_two xs ys kept le =
    let n = kept - length xs in
    let e : length xs + n ≡ kept = omega arith in
    ap (λ k. value (take k (xs ++ ys))) (sym e) ∙ ap value (take-append-add xs ys n) ∙ value_after_append xs (take n ys) 0

pub front_two_over : (xs ys : List ℕ) (kept bound : ℕ) → length xs ≤ kept → bound < value xs → bound < value (take kept (xs ++ ys))
front_two_over xs ys kept bound le over =
    rw (front_two xs ys kept le) (omega (arith, value_after_ge (take (kept - length xs) ys) (value xs)))

-- a digit's bounds, by the test
digit_bounds : (c : ℕ) → is_ascii_digit c ≡ true → (48 ≤ c) × (c ≤ 57)
digit_bounds c e = grind (arith, nat_tests)

digits_from : (b : Bool) (c : ℕ) (cs : List ℕ) → (b ≡ true → (48 ≤ c) × (c ≤ 57)) → AreDigits cs → AreDigits (cond b (c ∷ cs) [])
digits_from true c cs h ds = ((h refl).0, (h refl).1, ds)
digits_from false c cs h ds = tt

-- the digits at the front of a text are digits
pub AreDigits-digits : (text : List ℕ) → AreDigits (take_while is_ascii_digit text)
AreDigits-digits [] = tt
AreDigits-digits (c ∷ cs) =
    rw (take_while-cons is_ascii_digit c cs) (digits_from (is_ascii_digit c) c (take_while is_ascii_digit cs) (digit_bounds c) (AreDigits-digits cs))

-- a number that is cut down to a bound on the way
capped : (ds : List ℕ) (x far : ℕ) → min (value_after (min x far) ds) far ≡ min (value_after x ds) far
capped ds x far = elim (cases_lt far x) [
  | inl over ↦
      let m : min x far ≡ far = omega arith in
      rw m (omega (arith, value_after_ge ds far, value_after_ge ds x))
  | inr le ↦
      let m : min x far ≡ x = omega arith in
      rw m refl
]

pub capped_on : (ds : List ℕ) (i n r w far : ℕ) → i < length ds → r ≡ min (n * 10 + (get_or ds i 0 - 48)) far → min (value_after n (drop i ds)) far ≡ w
    → min (value_after r (drop (i + 1) ds)) far ≡ w
capped_on ds i n r w far lt e h =
    rw e (capped (drop (i + 1) ds) (n * 10 + (get_or ds i 0 - 48)) far ∙ (ap (λ l. min (value_after n l) far) (sym (drop_more ds i 0 lt)) ∙ h))
