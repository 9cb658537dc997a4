-- Repeated numbers.
use Rattle.std.proofs.Common.{◌≡◌, ℕ, ◌+◌, ◌<◌, ◌≢◌, suc, zero, Bool, true, false, ◌==◌, List, [], ◌∷◌, ◌++◌, length, get_or, take, drop, Option, Some, None, cond, refl, sym, ◌∙◌, ap, arith, subst, inl, inr, length-append, append_assoc, take-append-drop}
use Rattle.std.proofs.lemmas.Bool.{eqb-true, eq-eqb, cases_order, true≢false}
use Rattle.std.proofs.lemmas.List.{take_more, get_or_append_left, get_or_at}
use Rattle.std.proofs.lemmas.List.Quantifiers.{all_pairs_push}
use Rattle.std.proofs.Math.Seq.{drop-cons}
use Rattle.spec_step.specs.Files.{HasDistinctNumbers, RepeatsFirst}
use Rattle.spec_step.specs.declared.tree.Instance.{Instance}

-- where the first instance of a number begins
abbrev pub place_of_number : ℕ → List Instance → Option ℕ
place_of_number n [] = None
place_of_number n (i ∷ is) = cond (i.number == n) (Some i.from) (place_of_number n is)

-- an instance of this number begins at this place
abbrev pub HasNumberAt : ℕ → ℕ → List Instance → Type 0
HasNumberAt n p is = (before : List Instance) × (one : Instance) × (behind : List Instance) × (is ≡ before ++ one ∷ behind) × (one.number ≡ n) × (one.from ≡ p)

found_by : (n p : ℕ) (i : Instance) (is : List Instance) (b : Bool) → (i.number == n) ≡ b → cond b (Some i.from) (place_of_number n is) ≡ Some p
    → (place_of_number n is ≡ Some p → HasNumberAt n p is) → HasNumberAt n p (i ∷ is)
found_by n p i is true here e rest = let from : i.from ≡ p = cc in ([], i, is, refl, eqb-true i.number n here, from)
found_by n p i is false here e rest =
    let h : HasNumberAt n p is = rest e in
    (i ∷ h.0, h.1, h.2, ap (λ l. i ∷ l) h.3, h.4, h.5)

-- where a number is found, an instance has it
pub found : (n p : ℕ) (is : List Instance) → place_of_number n is ≡ Some p → HasNumberAt n p is
found n p [] e = absurd (cc)
found n p (i ∷ is) e = found_by n p i is (i.number == n) refl e (found n p is)

absent_by : (n : ℕ) (i : Instance) (is : List Instance) (b : Bool) → (i.number == n) ≡ b → cond b (Some i.from) (place_of_number n is) ≡ None
    → (i.number ≢ n) × (place_of_number n is ≡ None)
absent_by n i is true here e = absurd (cc)
absent_by n i is false here e = (λ same. true≢false (sym (eq-eqb i.number n same) ∙ here), e)

-- where it is not, none has it
pub absent : (n : ℕ) (is : List Instance) → place_of_number n is ≡ None → (k : ℕ) (d : Instance) → k < length is → (get_or is k d).number ≢ n
absent n [] e k d lt = absurd (omega arith)
absent n (i ∷ is) e zero d lt = (absent_by n i is (i.number == n) refl e).0
absent n (i ∷ is) e (suc k) d lt = absent n is (absent_by n i is (i.number == n) refl e).1 k d (omega arith)

push_by : (i : Instance) (n x : ℕ) (b : Bool) (c : Bool) (rest more : Option ℕ) → (c ≡ true → cond b (Some x) rest ≡ None)
    → ((c ≡ true → rest ≡ None) → more ≡ cond c (Some i.from) rest)
    → cond b (Some x) more ≡ cond c (Some i.from) (cond b (Some x) rest)
push_by i n x true true rest more h r = let none : Some x ≡ None = h refl in absurd (cc)
push_by i n x true false rest more h r = refl
push_by i n x false c rest more h r = r h

-- one instance more, whose number no other has
pub place_push : (n : ℕ) (is : List Instance) (i : Instance) → ((i.number == n) ≡ true → place_of_number n is ≡ None)
    → place_of_number n (is ++ i ∷ []) ≡ cond (i.number == n) (Some i.from) (place_of_number n is)
place_push n [] i h = refl
place_push n (x ∷ is) i h = push_by i n x.from (x.number == n) (i.number == n) (place_of_number n is) (place_of_number n (is ++ i ∷ [])) h (place_push n is i)

-- the same by the place of the instance in a list
pub place_more : (n : ℕ) (is : List Instance) (k : ℕ) (i : Instance) → k < length is → i ≡ get_or is k i → place_of_number i.number (take k is) ≡ None
    → place_of_number n (take (k + 1) is) ≡ cond (i.number == n) (Some i.from) (place_of_number n (take k is))
place_more n is k i lt here none =
    ap (place_of_number n) (take_more is k i lt ∙ ap (λ x. take k is ++ x ∷ []) (sym here))
    ∙ place_push n (take k is) i (λ e. ap (λ m. place_of_number m (take k is)) (sym (eqb-true i.number n e)) ∙ none)

pub distinct_more : (is : List Instance) (k : ℕ) (i : Instance) → k < length is → i ≡ get_or is k i → place_of_number i.number (take k is) ≡ None
    → HasDistinctNumbers (take k is) → HasDistinctNumbers (take (k + 1) is)
distinct_more is k i lt here none h =
    subst HasDistinctNumbers (sym (take_more is k i lt ∙ ap (λ x. take k is ++ x ∷ []) (sym here)))
    (all_pairs_push (λ (x y : Instance). x.number ≢ y.number) (take k is) i h (absent i.number (take k is) none))

-- the first instance whose number an earlier one has
pub repeats : (is : List Instance) (k : ℕ) (i : Instance) (p : ℕ) → k < length is → i ≡ get_or is k i → place_of_number i.number (take k is) ≡ Some p
    → HasDistinctNumbers (take k is) → RepeatsFirst is i.number p i.from
repeats is k i p lt here e h =
    let f : HasNumberAt i.number p (take k is) = found i.number p (take k is) e in
    let cell : drop k is ≡ i ∷ drop (suc k) is = drop-cons is k i lt ∙ ap (λ x. x ∷ drop (suc k) is) (sym here) in
    record {
      before = f.0;
      one = f.1;
      between = f.2;
      other = i;
      behind = drop (suc k) is;
      all = sym (take-append-drop k is) ∙ ap (λ l. take k is ++ l) cell ∙ ap (λ l. l ++ i ∷ drop (suc k) is) f.3 ∙ append_assoc f.0 (f.1 ∷ f.2) (i ∷ drop (suc k) is);
      earlier = subst HasDistinctNumbers f.3 h;
      number_one = f.4;
      number_other = refl;
      first_place = f.5;
      second_place = refl;
    }

-- One first repeat, by the places of its two instances in the list.

record RepeatAt (is : List Instance) (n first second p q : ℕ) : Type 0 where
  pub order : p < q
  pub within : q < length is
  pub earlier : (i j : ℕ) (d : Instance) → i < j → j < q → (get_or is i d).number ≢ (get_or is j d).number
  pub one : (d : Instance) → ((get_or is p d).number ≡ n) × ((get_or is p d).from ≡ first)
  pub other : (d : Instance) → ((get_or is q d).number ≡ n) × ((get_or is q d).from ≡ second)

repeat_at : (is : List Instance) (n a b : ℕ) (r : RepeatsFirst is n a b) → RepeatAt is n a b (length r.before) (length (r.before ++ r.one ∷ r.between))
repeat_at is n a b r =
    let front : List Instance = r.before ++ r.one ∷ r.between in
    let all : is ≡ front ++ r.other ∷ r.behind = r.all ∙ sym (append_assoc r.before (r.one ∷ r.between) (r.other ∷ r.behind)) in
    let at_one : (d : Instance) → get_or is (length r.before) d ≡ r.one =
    λ d. ap (λ l. get_or l (length r.before) d) r.all ∙ get_or_at r.before r.one (r.between ++ r.other ∷ r.behind) d (length r.before) refl in
    let at_other : (d : Instance) → get_or is (length front) d ≡ r.other =
    λ d. ap (λ l. get_or l (length front) d) all ∙ get_or_at front r.other r.behind d (length front) refl in
    let in_front : (d : Instance) (i : ℕ) → i < length front → get_or is i d ≡ get_or front i d =
    λ d i lt. ap (λ l. get_or l i d) all ∙ get_or_append_left front (r.other ∷ r.behind) d i lt in
    record {
      order = omega (arith, length-append r.before (r.one ∷ r.between));
      within = omega (arith, ap length all, length-append front (r.other ∷ r.behind));
      earlier = λ i j d lt le same. r.earlier i j d lt le
          (ap (λ (x : Instance). x.number) (sym (in_front d i (omega arith))) ∙ same ∙ ap (λ (x : Instance). x.number) (in_front d j le));
      one = λ d. (ap (λ (x : Instance). x.number) (at_one d) ∙ r.number_one, ap (λ (x : Instance). x.from) (at_one d) ∙ r.first_place);
      other = λ d. (ap (λ (x : Instance). x.number) (at_other d) ∙ r.number_other, ap (λ (x : Instance). x.from) (at_other d) ∙ r.second_place);
    }

-- the second of two repeats is no later
not_later : (is : List Instance) (n a b p q m c e u v : ℕ) (d : Instance) → RepeatAt is n a b p q → RepeatAt is m c e u v → q < v → ⊥
not_later is n a b p q m c e u v d r s lt = s.earlier p q d r.order lt ((r.one d).0 ∙ sym (r.other d).0)

same_second : (is : List Instance) (n a b p q m c e u v : ℕ) (d : Instance) → RepeatAt is n a b p q → RepeatAt is m c e u v → q ≡ v
same_second is n a b p q m c e u v d r s = elim (cases_order q v) [
  | inl same ↦ same
  | inr h ↦ elim h [ inl lt ↦ absurd (not_later is n a b p q m c e u v d r s lt) | inr gt ↦ absurd (not_later is m c e u v n a b p q d s r gt) ]
]

same_first : (is : List Instance) (n a b c p u q : ℕ) (d : Instance) → RepeatAt is n a b p q → RepeatAt is n c b u q → p ≡ u
same_first is n a b c p u q d r s = elim (cases_order p u) [
  | inl same ↦ same
  | inr h ↦ elim h [
    | inl lt ↦ absurd (r.earlier p u d lt s.order ((r.one d).0 ∙ sym (s.one d).0))
    | inr gt ↦ absurd (s.earlier u p d gt r.order ((s.one d).0 ∙ sym (r.one d).0))
  ]
]

-- a list has one first repeat
pub one_repeat : (is : List Instance) (n a b m c e : ℕ) → RepeatsFirst is n a b → RepeatsFirst is m c e → (n ≡ m) × (a ≡ c) × (b ≡ e)
one_repeat is n a b m c e r s =
    let d : Instance = r.one in
    let x = repeat_at is n a b r in
    let y = repeat_at is m c e s in
    let p : ℕ = length r.before in
    let q : ℕ = length (r.before ++ r.one ∷ r.between) in
    let u : ℕ = length s.before in
    let v : ℕ = length (s.before ++ s.one ∷ s.between) in
    let seconds : q ≡ v = same_second is n a b p q m c e u v d x y in
    let numbers : n ≡ m = sym (x.other d).0 ∙ ap (λ i. (get_or is i d).number) seconds ∙ (y.other d).0 in
    let places : b ≡ e = sym (x.other d).1 ∙ ap (λ i. (get_or is i d).from) seconds ∙ (y.other d).1 in
    let moved : RepeatAt is n c b u q =
    subst (λ i. RepeatAt is n c b u i) (sym seconds) (subst (λ i. RepeatAt is n c i u v) (sym places) (subst (λ i. RepeatAt is i c e u v) (sym numbers) y)) in
    let firsts : p ≡ u = same_first is n a b c p u q d x moved in
    (numbers, sym (x.one d).1 ∙ ap (λ i. (get_or is i d).from) firsts ∙ (y.one d).1, places)

-- and none where all numbers differ
pub no_repeat : (is : List Instance) (n a b : ℕ) → HasDistinctNumbers is → RepeatsFirst is n a b → ⊥
no_repeat is n a b h r =
    let x = repeat_at is n a b r in
    h (length r.before) (length (r.before ++ r.one ∷ r.between)) r.one x.order x.within ((x.one r.one).0 ∙ sym (x.other r.one).0)
