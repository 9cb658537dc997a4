-- When three points of a list are different.
use Rattle.std.proofs.Common.{◌≡◌, ◌≤◌, ◌⊎◌, inl, inr, ℤ, Bor, Bool, true, false, ◌&&◌, ◌||◌, List, [], ◌∷◌, Option, length, get_or, refl, sym, ap, subst, ◌∙◌, arith, true≢false}
use Rattle.std.specs.Prelude.{not, Some, None, IsSome, unwrap_or, if◌then◌else◌, All}
use Rattle.std.specs.List.{list_any}
use Rattle.std.specs.Option.{option_copied, is_some}
use Rattle.std.specs.Ordering.{int_eq}
use Rattle.std.proofs.lemmas.Bool.Decides.{Decides-int_eq}
use Rattle.std.proofs.lemmas.List.Elements.{All-nil, All-cons, All-weaker}
use Rattle.std.proofs.lemmas.List.Folds.{list_any_none}
use Rattle.spec_space.specs.declared.Vector.{Vector}
use Rattle.spec_shape.specs.Loops.{is_same, are_different, has_three}
use Rattle.ix_profile.specs.Others.{other_than}

and_left : (a b : Bool) → (a && b) ≡ true → a ≡ true
and_left true b e = refl
and_left false b e = e

and_right : (a b : Bool) → (a && b) ≡ true → b ≡ true
and_right true b e = e
and_right false b e = absurd (true≢false (sym e))

or_left : (a b : Bool) → a ≡ true → (a || b) ≡ true
or_left true b e = refl
or_left false b e = absurd (true≢false (sym e))

or_right : (a b : Bool) → b ≡ true → (a || b) ≡ true
or_right true b e = refl
or_right false b e = e

same_number : (x y : ℤ) → int_eq x y ≡ true → x ≡ y
same_number x y e = (Decides-int_eq x y).0 e

same_point : (u v : Vector) → is_same u v ≡ true → u ≡ v
same_point u v e =
    let front = int_eq u.x v.x && int_eq u.y v.y in
    let both = and_left front (int_eq u.z v.z) e in
    let ex = same_number u.x v.x (and_left (int_eq u.x v.x) (int_eq u.y v.y) both) in
    let ey = same_number u.y v.y (and_right (int_eq u.x v.x) (int_eq u.y v.y) both) in
    let ez = same_number u.z v.z (and_right front (int_eq u.z v.z) e) in
    λ i. record { x = ex i; y = ey i; z = ez i }

all_three : (a b c : Bool) → a ≡ true → b ≡ true → c ≡ true → (a && b && c) ≡ true
all_three true true true p q r = refl
all_three true true false p q r = r
all_three true false c p q r = q
all_three false b c p q r = p

own_point : (u : Vector) → is_same u u ≡ true
own_point u = all_three (int_eq u.x u.x) (int_eq u.y u.y) (int_eq u.z u.z) ((Decides-int_eq u.x u.x).1 refl) ((Decides-int_eq u.y u.y).1 refl) ((Decides-int_eq u.z u.z).1 refl)

-- a point that equals one of two
abbrev IsOneOf : Vector → Vector → Vector → Type 0
IsOneOf p q r = (is_same p r ≡ true) ⊎ (is_same q r ≡ true)

same_two : (p a b : Vector) → is_same p a ≡ true → is_same p b ≡ true → is_same a b ≡ true
same_two p a b h k = subst (λ w. is_same w b ≡ true) (same_point p a h) k

none_first : (x y z : Bool) → x ≡ true → (not x && not y && not z) ≡ false
none_first true y z e = refl
none_first false y z e = absurd (true≢false (sym e))

none_second : (x y z : Bool) → y ≡ true → (not x && not y && not z) ≡ false
none_second true y z e = refl
none_second false true z e = refl
none_second false false z e = absurd (true≢false (sym e))

none_third : (x y z : Bool) → z ≡ true → (not x && not y && not z) ≡ false
none_third true y z e = refl
none_third false true z e = refl
none_third false false true e = refl
none_third false false false e = absurd (true≢false (sym e))

-- of three points that each equal one of two, two are the same
not_different : (p q a b c : Vector) → IsOneOf p q a → IsOneOf p q b → IsOneOf p q c → are_different a b c ≡ false
not_different p q a b c (inl x) (inl y) z = none_first (is_same a b) (is_same a c) (is_same b c) (same_two p a b x y)
not_different p q a b c (inr x) (inr y) z = none_first (is_same a b) (is_same a c) (is_same b c) (same_two q a b x y)
not_different p q a b c (inl x) (inr y) (inl z) = none_second (is_same a b) (is_same a c) (is_same b c) (same_two p a c x z)
not_different p q a b c (inr x) (inl y) (inr z) = none_second (is_same a b) (is_same a c) (is_same b c) (same_two q a c x z)
not_different p q a b c (inl x) (inr y) (inr z) = none_third (is_same a b) (is_same a c) (is_same b c) (same_two q b c y z)
not_different p q a b c (inr x) (inl y) (inl z) = none_third (is_same a b) (is_same a c) (is_same b c) (same_two p b c y z)

-- points that each equal one of two are not three
no_three : (p q : Vector) (ps : List Vector) → All (IsOneOf p q) ps → has_three ps ≡ false
no_three p q ps h =
    list_any_none (λ a. list_any (λ b. list_any (λ c. are_different a b c) ps) ps) ps
    (All-weaker (IsOneOf p q) (λ a. list_any (λ b. list_any (λ c. are_different a b c) ps) ps ≡ false) (λ a ha.
    list_any_none (λ b. list_any (λ c. are_different a b c) ps) ps
    (All-weaker (IsOneOf p q) (λ b. list_any (λ c. are_different a b c) ps ≡ false) (λ b hb.
    list_any_none (λ c. are_different a b c) ps
    (All-weaker (IsOneOf p q) (λ c. are_different a b c ≡ false) (λ c hc. not_different p q a b c ha hb hc) ps h)) ps h)) ps h)

-- no other point is left
none_step : (a b : Bool) (r : Vector) (rest : Option Vector) → (if not a && not b then Some r else rest) ≡ None → ((a ≡ true) ⊎ (b ≡ true)) × (rest ≡ None)
none_step true b r rest e = (inl refl, e)
none_step false true r rest e = (inr refl, e)
none_step false false r rest e = absurd (true≢false (ap is_there e))
  where
    is_there : Option Vector → Bool
    is_there (Some x) = true
    is_there None = false

all_known : (p q : Vector) (ps : List Vector) → other_than p q ps ≡ None → All (IsOneOf p q) ps
all_known p q [] e = All-nil (IsOneOf p q)
all_known p q (r ∷ rs) e =
    let s = none_step (is_same p r) (is_same q r) r (other_than p q rs) e in
    All-cons (IsOneOf p q) r rs s.0 (all_known p q rs s.1)

-- a point of the list that differs from two others
record IsOther (p q : Vector) (ps : List Vector) (r : Vector) : Type 0 where
  passes : (f : Vector → Bool) → f r ≡ true → list_any f ps ≡ true
  first : is_same p r ≡ false
  second : is_same q r ≡ false

some_step : (a b : Bool) (s r : Vector) (rest : Option Vector) → (if not a && not b then Some s else rest) ≡ Some r → ((s ≡ r) × (a ≡ false) × (b ≡ false)) ⊎ (rest ≡ Some r)
some_step true b s r rest e = inr e
some_step false true s r rest e = inr e
some_step false false s r rest e = inl (ap (λ o. unwrap_or o s) e, refl, refl)

other_found : (p q : Vector) (ps : List Vector) (r : Vector) → other_than p q ps ≡ Some r → IsOther p q ps r
other_found p q [] r e = absurd (true≢false (sym (ap is_there e)))
  where
    is_there : Option Vector → Bool
    is_there (Some x) = true
    is_there None = false
other_found p q (s ∷ ss) r e = found (some_step (is_same p s) (is_same q s) s r (other_than p q ss) e) (λ h. other_found p q ss r h)
  where
    found : (s ≡ r) × (is_same p s ≡ false) × (is_same q s ≡ false) ⊎ (other_than p q ss ≡ Some r) → (other_than p q ss ≡ Some r → IsOther p q ss r) → IsOther p q (s ∷ ss) r
    found (inl h) later = record {
      passes = λ f t. or_left (f s) (list_any f ss) (ap f h.0 ∙ t);
      first = subst (λ w. is_same p w ≡ false) h.0 h.1;
      second = subst (λ w. is_same q w ≡ false) h.0 h.2;
    }
    found (inr h) later = let rest = later h in record {
      passes = λ f t. or_right (f s) (list_any f ss) (rest.passes f t);
      first = rest.first;
      second = rest.second;
    }

different : (x y z : Bool) → x ≡ false → y ≡ false → z ≡ false → (not x && not y && not z) ≡ true
different false false false p q r = refl
different false false true p q r = absurd (true≢false r)
different false true z p q r = absurd (true≢false q)
different true y z p q r = absurd (true≢false p)

-- a first point, one that differs from it, and one that differs from both
has_three_true : (p q r : Vector) (ps rest : List Vector) → ps ≡ p ∷ rest → other_than p p ps ≡ Some q → other_than p q ps ≡ Some r → has_three ps ≡ true
has_three_true p q r ps rest is e d =
    let second = other_found p p ps q e in
    let third = other_found p q ps r d in
    let all_but_first : list_any (λ b. list_any (λ c. are_different p b c) ps) ps ≡ true =
    second.passes (λ b. list_any (λ c. are_different p b c) ps)
    (third.passes (λ c. are_different p q c) (different (is_same p q) (is_same p r) (is_same q r) second.first third.first third.second)) in
    head_passes (λ a. list_any (λ b. list_any (λ c. are_different a b c) ps) ps) p ps rest is all_but_first
  where
    head_passes : (f : Vector → Bool) (p : Vector) (ps rest : List Vector) → ps ≡ p ∷ rest → f p ≡ true → list_any f ps ≡ true
    head_passes f p ps rest is t = subst (λ xs. list_any f xs ≡ true) (sym is) (or_left (f p) (list_any f rest) t)

pub has_three_none : (p : Vector) (ps : List Vector) → other_than p p ps ≡ None → has_three ps ≡ false
has_three_none p ps e = no_three p p ps (all_known p p ps e)

has_three_two : (p q : Vector) (ps : List Vector) → other_than p q ps ≡ None → has_three ps ≡ false
has_three_two p q ps e = no_three p q ps (all_known p q ps e)

-- the same for what code has found
pub three_found : (ps : List Vector) (d q : Vector) (third : Option (Bor Vector)) → 1 ≤ length ps → other_than (get_or ps 0 d) (get_or ps 0 d) ps ≡ Some q
    → option_copied third ≡ other_than (get_or ps 0 d) q ps → is_some third ≡ has_three ps
three_found [] d q third l e g = absurd (omega arith)
three_found (p ∷ ps) d q (Some r) l e g = sym (has_three_true p q r.now (p ∷ ps) ps refl e (sym g))
three_found (p ∷ ps) d q None l e g = sym (has_three_two p q (p ∷ ps) (sym g))

-- three different points are three points
pub three_long : (ps : List Vector) → has_three ps ≡ true → 3 ≤ length ps
three_long [] e = absurd (true≢false (sym e))
three_long (p ∷ []) e =
    absurd (true≢false (sym e ∙ no_three p p (p ∷ []) (All-cons (IsOneOf p p) p [] (inl (own_point p)) (All-nil (IsOneOf p p)))))
three_long (p ∷ q ∷ []) e =
    absurd (true≢false (sym e ∙ no_three p q (p ∷ q ∷ []) (All-cons (IsOneOf p q) p (q ∷ []) (inl (own_point p)) (All-cons (IsOneOf p q) q [] (inr (own_point q)) (All-nil (IsOneOf p q))))))
three_long (p ∷ q ∷ r ∷ ps) e = omega arith
