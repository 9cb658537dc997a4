-- The walk over a template and a text.
use Rattle.std.proofs.Common.{◌≡◌, ◌≢◌, ℕ, suc, ◌+◌, ◌<◌, ◌≤◌, ℤ, Bool, true, false, List, [], ◌∷◌, ◌++◌, length, refl, sym, ap, ◌∙◌, subst, arith, pos, get_or, set, below_more, drop, add-one, drop-cons}
use Rattle.std.specs.Prelude.{not, ◌||◌, ◌==◌}
use Rattle.std.specs.Char.{is_ascii_digit}
use Rattle.std.proofs.lemmas.Bool.{true≢false, eqb-true}
use Rattle.std.proofs.Math.ListN.{length-set}
use Rattle.std.proofs.lemmas.List.{get_or-set_same, get_or-set_other, drop_all}
use Rattle.exact_mesh.specs.Meshes.{number_at}
use Rattle.obj_lines.specs.Templates.{is_end, IsFrontOf, HasNoFront, IsWord, is_place, numeral, filled_from, filled, place_count, is_break, is_template, AreWords, IsFilledBy, IsNotFilled}
use Rattle.obj_lines.proofs.Digits.{and_left, and_right}

-- ---- a template's text, byte by byte
place_text : (c : ℕ) (cs : List ℕ) (i : ℕ) (ns : List ℤ) → is_place c ≡ true → filled_from (c ∷ cs) i ns ≡ numeral c (number_at ns i) ++ filled_from cs (i + 1) ns
unfolding filled_from
place_text c cs i ns e = rw e refl

byte_text : (c : ℕ) (cs : List ℕ) (i : ℕ) (ns : List ℤ) → is_place c ≡ false → filled_from (c ∷ cs) i ns ≡ c ∷ filled_from cs i ns
unfolding filled_from
byte_text c cs i ns e = rw e refl

no_text : (i : ℕ) (ns : List ℤ) → filled_from [] i ns ≡ []
unfolding filled_from
no_text i ns = refl

not_true : (b : Bool) → not b ≡ true → b ≡ false
not_true true e = sym e
not_true false e = refl

or_right : (a b : Bool) → a ≡ true → (not a || b) ≡ true → b ≡ true
or_right true b p e = e
or_right false b p e = absurd (true≢false (sym p))

-- no digit follows a place
break_ends : (cs : List ℕ) (i : ℕ) (ns : List ℤ) → is_break cs ≡ true → is_end (filled_from cs i ns) ≡ true
break_ends [] i ns e = ap is_end (no_text i ns)
break_ends (c ∷ cs) i ns e = ap is_end (byte_text c cs i ns (not_true (is_place c) (and_left (not (is_place c)) (not (is_ascii_digit c)) e))) ∙ and_right (not (is_place c)) (not (is_ascii_digit c)) e

-- ---- the walk
-- the same numbers below a count
abbrev pub Agree : ℕ → List ℤ → List ℤ → Type 0
Agree count xs ys = (k : ℕ) → k < count → number_at xs k ≡ number_at ys k

-- so many numbers are found, and the rest of the text is to be that of the tail of the template
pub record IsWalk (template text : List ℕ) (n count : ℕ) (numbers : List ℤ) (tail rest : List ℕ) : Type 0 where
  pub room : length numbers ≡ n
  pub places : count + place_count tail ≡ n
  pub apart : is_template tail ≡ true
  pub words : (k : ℕ) → k < count → IsWord (number_at numbers k)
  pub sound : (ns : List ℤ) → Agree count ns numbers → filled_from tail count ns ≡ rest → filled template ns ≡ text
  pub complete : (ns : List ℤ) → AreWords n ns → filled template ns ≡ text → (filled_from tail count ns ≡ rest) × Agree count ns numbers

pub walk_start : (template text : List ℕ) (n : ℕ) (numbers : List ℤ) → length numbers ≡ n → place_count template ≡ n → is_template template ≡ true → IsWalk template text n 0 numbers template text
walk_start template text n numbers room places apart = record {
  room = room;
  places = omega arith;
  apart = apart;
  words = λ k h. absurd (omega arith);
  sound = λ ns _ e. e;
  complete = λ ns _ e. (e, λ k h. absurd (omega arith));
}

module _ (template text : List ℕ) (n count : ℕ) (numbers : List ℤ) (c : ℕ) (cs rest : List ℕ) (walk : IsWalk template text n count numbers (c ∷ cs) rest) where
  module _ (place : is_place c ≡ true) where
    left : count + (place_count cs + 1) ≡ n
    left = rw place at walk.places

    pub place_room : count < length numbers
    place_room = omega (arith, left, walk.room)

    break : is_break cs ≡ true
    break = or_right (is_place c) (is_break cs) place (and_left (not (is_place c) || is_break cs) (is_template cs) walk.apart)

    -- the number that stands at this place
    stands : (ns : List ℤ) → AreWords n ns → filled template ns ≡ text → numeral c (number_at ns count) ++ filled_from cs (count + 1) ns ≡ rest
    stands ns words e = sym (place_text c cs count ns place) ∙ (walk.complete ns words e).0

    word : (ns : List ℤ) → AreWords n ns → IsWord (number_at ns count)
    word ns words = words.each count (omega (arith, left))

    pub place_missing : HasNoFront (numeral c) IsWord rest → IsNotFilled template text n
    place_missing none ns words e = none (number_at ns count) (filled_from cs (count + 1) ns) (word ns words) (break_ends cs (count + 1) ns break) (stands ns words e)

    module _ (number : ℤ) (more : List ℕ) (front : IsFrontOf (numeral c) IsWord rest number more) where
      kept : (k : ℕ) → k < count → number_at (set numbers count number) k ≡ number_at numbers k
      kept k h = let other : k ≢ count = omega arith in get_or-set_other numbers count k number (pos 0) other

      here : number_at (set numbers count number) count ≡ number
      here = get_or-set_same numbers count number (pos 0) place_room

      pub walk_place : IsWalk template text n (count + 1) (set numbers count number) cs more
      walk_place = record {
        room = length-set numbers count number ∙ walk.room;
        places = omega (arith, left);
        apart = and_right (not (is_place c) || is_break cs) (is_template cs) walk.apart;
        words = below_more _ _ (λ k h. subst IsWord (sym (kept k h)) (walk.words k h)) (subst IsWord (sym here) front.within);
        sound = λ ns agree e.
            walk.sound ns (λ k h. agree k (omega arith) ∙ kept k h)
            (place_text c cs count ns place ∙ ap (λ m. numeral c m ++ filled_from cs (count + 1) ns) (agree count (omega arith) ∙ here) ∙ ap (λ t. numeral c number ++ t) e ∙ front.text_is);
        complete = λ ns words e.
            let same = front.sole (number_at ns count) (filled_from cs (count + 1) ns) (word ns words) (break_ends cs (count + 1) ns break) (stands ns words e) in
            (same.1, below_more _ _ (λ k h. (walk.complete ns words e).1 k h ∙ sym (kept k h)) (same.0 ∙ sym here));
      }

  module _ (byte : is_place c ≡ false) where
    behind : (ns : List ℤ) → AreWords n ns → filled template ns ≡ text → c ∷ filled_from cs count ns ≡ rest
    behind ns words e = sym (byte_text c cs count ns byte) ∙ (walk.complete ns words e).0

    pub byte_missing : ((more : List ℕ) → c ∷ more ≢ rest) → IsNotFilled template text n
    byte_missing none ns words e = none (filled_from cs count ns) (behind ns words e)

    pub walk_byte : (more : List ℕ) → c ∷ more ≡ rest → IsWalk template text n count numbers cs more
    walk_byte more is = record {
      room = walk.room;
      places = rw byte at walk.places;
      apart = and_right (not (is_place c) || is_break cs) (is_template cs) walk.apart;
      words = walk.words;
      sound = λ ns agree e. walk.sound ns agree (byte_text c cs count ns byte ∙ ap (λ t. c ∷ t) e ∙ is);
      complete = λ ns words e. (tails c (filled_from cs count ns) more (behind ns words e ∙ sym is), (walk.complete ns words e).1);
    }
      where
        tails : (a : ℕ) (x y : List ℕ) → a ∷ x ≡ a ∷ y → x ≡ y
        tails a x y e = cc

-- lists of one length that agree below it are one
same_list : (xs ys : List ℤ) → length xs ≡ length ys → Agree (length xs) xs ys → xs ≡ ys
same_list [] [] e h = refl
same_list [] (y ∷ ys) e h = absurd (omega arith)
same_list (x ∷ xs) [] e h = absurd (omega arith)
same_list (x ∷ xs) (y ∷ ys) e h =
    let rest = same_list xs ys (omega arith) (λ k k_small. h (suc k) (omega arith)) in
    let first : x ≡ y = h 0 (omega arith) in
    cc

module _ (template text : List ℕ) (n count : ℕ) (numbers : List ℤ) (rest : List ℕ) (walk : IsWalk template text n count numbers [] rest) where
  pub walk_end : rest ≡ [] → IsFilledBy template text n numbers
  walk_end e = record {
    words = record { count_is = walk.room; each = λ i h. walk.words i (omega (arith, walk.places)) };
    text_is = walk.sound numbers (λ k h. refl) (no_text count numbers ∙ sym e);
    sole = λ ns words f. same_list ns numbers (words.count_is ∙ sym walk.room) (λ k h. (walk.complete ns words f).1 k (omega (arith, walk.places, words.count_is)));
  }

  pub walk_over : rest ≢ [] → IsNotFilled template text n
  walk_over over ns words e = over (sym (walk.complete ns words e).0 ∙ no_text count ns)

-- ---- the walk at a place of the template
pub walk_at : (template text : List ℕ) (n count : ℕ) (numbers : List ℤ) (i : ℕ) (rest : List ℕ) → i < length template
    → IsWalk template text n count numbers (drop i template) rest → IsWalk template text n count numbers (get_or template i 0 ∷ drop (i + 1) template) rest
walk_at template text n count numbers i rest h walk = subst (λ t. IsWalk template text n count numbers t rest) (list_step template i h) walk
  where
    list_step : (xs : List ℕ) (i : ℕ) → i < length xs → drop i xs ≡ get_or xs i 0 ∷ drop (i + 1) xs
    list_step xs i h = rw add-one (drop-cons xs i 0 h)

pub walk_past : (template text : List ℕ) (n count : ℕ) (numbers : List ℤ) (i : ℕ) (rest : List ℕ) → length template ≤ i
    → IsWalk template text n count numbers (drop i template) rest → IsWalk template text n count numbers [] rest
walk_past template text n count numbers i rest h walk = subst (λ t. IsWalk template text n count numbers t rest) (drop_all i template h) walk

-- a walk by other names
pub walk_same : (template text : List ℕ) (n count other : ℕ) (numbers others : List ℤ) (tail rest more : List ℕ) → other ≡ count → others ≡ numbers → more ≡ rest
    → IsWalk template text n count numbers tail rest → IsWalk template text n other others tail more
walk_same template text n count other numbers others tail rest more e f g walk = rw (e, f, g) walk

pub empty_is : (xs : List ℕ) → true ≡ (length xs == 0) → xs ≡ []
empty_is [] e = refl
empty_is (x ∷ xs) e = let none : length (x ∷ xs) ≡ 0 = eqb-true (length (x ∷ xs)) 0 (sym e) in absurd (omega arith)

pub empty_is_not : (xs : List ℕ) → false ≡ (length xs == 0) → xs ≢ []
empty_is_not xs e f = true≢false (sym (e ∙ ap (λ ys. length ys == 0) f))
