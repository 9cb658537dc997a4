-- Lines with two or three numbers of at most 18 digits.
use Rattle.std.proofs.Common.{◌≡◌, ℕ, ◌+◌, ◌<◌, ℤ, pos, List, [], ◌∷◌, length, to_z, of_z, refl, sym, ap, ◌∙◌, subst, arith}
use mir.Syntax.{w128}
use Rattle.exact_mesh.specs.Meshes.{number_at}
use Rattle.spec_space.specs.declared.Vector.{Vector}
use Rattle.obj_lines.proofs.RefusalShapes.{open_numbers}
use Rattle.spec_check.specs.Limits.{IsShort}
use Rattle.obj_lines.specs.PageLines.{PageLine, IsLineWithin}
use Rattle.obj_lines.specs.Templates.{IsWord, AreWords, IsFilledBy, IsNotFilled, IsTwo, IsNotTwo, IsThree, IsNotThree}
use Rattle.obj_lines.specs.Readings.{IsLineOf, IsNotOf}
use Rattle.obj_lines.proofs.Forms.{IsForm, filled_is, form_some, no_words, more_words, word_of, unpack, list_three}

abbrev pub Same : Vector → Vector → Type 0
Same u v = u ≡ v

pub word_of_short : (n : ℕ) → IsShort n → IsWord (pos n)
word_of_short n h = word_of n (omega arith)

words_two : (m n : ℕ) → IsShort m → IsShort n → AreWords 2 (pos m ∷ pos n ∷ [])
words_two m n h k = more_words 1 (pos m) (pos n ∷ []) (word_of_short m h) (more_words 0 (pos n) [] (word_of_short n k) no_words)

words_three : (m n o : ℕ) → IsShort m → IsShort n → IsShort o → AreWords 3 (pos m ∷ pos n ∷ pos o ∷ [])
words_three m n o h k l = more_words 2 (pos m) (pos n ∷ pos o ∷ []) (word_of_short m h) (words_two n o k l)

pub list_two : (ns : List ℤ) → length ns ≡ 2 → number_at ns 0 ∷ number_at ns 1 ∷ [] ≡ ns
list_two (a ∷ b ∷ []) h = refl
list_two _ h = absurd (omega arith)

-- the number at a place of what is found, as code passes it
pub at_place : (template text : List ℕ) (count : ℕ) (ns others : List ℤ) (i : ℕ) → i < count → IsFilledBy template text count ns → others ≡ ns → number_at others i ≡ to_z w128 (of_z w128 (number_at ns i))
at_place template text count ns others i h is e = ap (λ l. number_at l i) e ∙ sym (unpack (number_at ns i) (is.words.each i h))

pub from_place : (template text : List ℕ) (count : ℕ) (ns : List ℤ) (i : ℕ) → i < count → IsFilledBy template text count ns → (n : ℕ) → pos n ≡ to_z w128 (of_z w128 (number_at ns i)) → pos n ≡ number_at ns i
from_place template text count ns i h is n e = e ∙ unpack (number_at ns i) (is.words.each i h)

module _ (template text : List ℕ) where
  pub no_two : IsNotFilled template text 2 → IsNotTwo template text
  no_two none m n h k e = none (pos m ∷ pos n ∷ []) (words_two m n h k) e

  pub no_three : IsNotFilled template text 3 → IsNotThree template text
  no_three none m n o h k l e = none (pos m ∷ pos n ∷ pos o ∷ []) (words_three m n o h k l) e

  module _ (ns : List ℤ) (is : IsFilledBy template text 2 ns) where
    pub no_first_of_two : ((n : ℕ) → IsShort n → pos n ≡ to_z w128 (of_z w128 (number_at ns 0)) → ⊥) → IsNotTwo template text
    no_first_of_two none m n h k e =
        let same = is.sole (pos m ∷ pos n ∷ []) (words_two m n h k) e in
        none m h (at_place template text 2 ns (pos m ∷ pos n ∷ []) 0 (omega arith) is same)

    pub no_second_of_two : ((n : ℕ) → IsShort n → pos n ≡ to_z w128 (of_z w128 (number_at ns 1)) → ⊥) → IsNotTwo template text
    no_second_of_two none m n h k e =
        let same = is.sole (pos m ∷ pos n ∷ []) (words_two m n h k) e in
        none n k (at_place template text 2 ns (pos m ∷ pos n ∷ []) 1 (omega arith) is same)

    pub two_is : (m n : ℕ) → IsShort m → IsShort n → pos m ≡ to_z w128 (of_z w128 (number_at ns 0)) → pos n ≡ to_z w128 (of_z w128 (number_at ns 1)) → IsTwo template text m n
    two_is m n h k e f = record {
      filled_by = subst (IsFilledBy template text 2) (sym whole) is;
      first_short = h;
      second_short = k;
    }
      where
        cells : (a b c d : ℤ) → a ≡ c → b ≡ d → a ∷ b ∷ [] ≡ c ∷ d ∷ []
        cells a b c d p q = cc

        whole : pos m ∷ pos n ∷ [] ≡ ns
        whole = cells (pos m) (pos n) (number_at ns 0) (number_at ns 1) (from_place template text 2 ns 0 (omega arith) is m e) (from_place template text 2 ns 1 (omega arith) is n f) ∙ list_two ns is.words.count_is

  module _ (ns : List ℤ) (is : IsFilledBy template text 3 ns) where
    pub no_first_of_three : ((n : ℕ) → IsShort n → pos n ≡ to_z w128 (of_z w128 (number_at ns 0)) → ⊥) → IsNotThree template text
    no_first_of_three none m n o h k l e =
        let same = is.sole (pos m ∷ pos n ∷ pos o ∷ []) (words_three m n o h k l) e in
        none m h (at_place template text 3 ns (pos m ∷ pos n ∷ pos o ∷ []) 0 (omega arith) is same)

    pub no_second_of_three : ((n : ℕ) → IsShort n → pos n ≡ to_z w128 (of_z w128 (number_at ns 1)) → ⊥) → IsNotThree template text
    no_second_of_three none m n o h k l e =
        let same = is.sole (pos m ∷ pos n ∷ pos o ∷ []) (words_three m n o h k l) e in
        none n k (at_place template text 3 ns (pos m ∷ pos n ∷ pos o ∷ []) 1 (omega arith) is same)

    pub no_third_of_three : ((n : ℕ) → IsShort n → pos n ≡ to_z w128 (of_z w128 (number_at ns 2)) → ⊥) → IsNotThree template text
    no_third_of_three none m n o h k l e =
        let same = is.sole (pos m ∷ pos n ∷ pos o ∷ []) (words_three m n o h k l) e in
        none o l (at_place template text 3 ns (pos m ∷ pos n ∷ pos o ∷ []) 2 (omega arith) is same)

    pub three_is : (m n o : ℕ) → IsShort m → IsShort n → IsShort o → pos m ≡ to_z w128 (of_z w128 (number_at ns 0)) → pos n ≡ to_z w128 (of_z w128 (number_at ns 1)) → pos o ≡ to_z w128 (of_z w128 (number_at ns 2)) → IsThree template text m n o
    three_is m n o h k l e f g = record {
      filled_by = subst (IsFilledBy template text 3) (sym whole) is;
      first_short = h;
      second_short = k;
      third_short = l;
    }
      where
        cells : (a b c d p q : ℤ) → a ≡ d → b ≡ p → c ≡ q → a ∷ b ∷ c ∷ [] ≡ d ∷ p ∷ q ∷ []
        cells a b c d p q r s t = cc

        whole : pos m ∷ pos n ∷ pos o ∷ [] ≡ ns
        whole = cells (pos m) (pos n) (pos o) (number_at ns 0) (number_at ns 1) (number_at ns 2) (from_place template text 3 ns 0 (omega arith) is m e) (from_place template text 3 ns 1 (omega arith) is n f) (from_place template text 3 ns 2 (omega arith) is o g)
            ∙ list_three ns is.words.count_is

-- ---- the lines of such templates
pub two_none : (make : ℕ × ℕ → PageLine) (template : List ℕ) (form : IsForm make template 2 (λ a. pos a.0 ∷ pos a.1 ∷ [])) → ((a : ℕ × ℕ) → IsLineWithin (make a) → IsShort a.0 × IsShort a.1) → (text : List ℕ) → IsNotTwo template text → IsNotOf make text
two_none make template form shorts text none a within e =
    let both = shorts a within in none a.0 a.1 both.0 both.1 (filled_is make template 2 (λ a. pos a.0 ∷ pos a.1 ∷ []) form text a e)

pub two_some : (make : ℕ × ℕ → PageLine) (template : List ℕ) (form : IsForm make template 2 (λ a. pos a.0 ∷ pos a.1 ∷ [])) (text : List ℕ) (m n : ℕ) → IsTwo template text m n → IsLineWithin (make (m, n)) → IsLineOf text (make (m, n))
two_some make template form text m n two within = form_some make template 2 (λ a. pos a.0 ∷ pos a.1 ∷ []) form text (pos m ∷ pos n ∷ []) two.filled_by (m, n) within refl

pub three_none : (make : ℕ × ℕ × ℕ → PageLine) (template : List ℕ) (form : IsForm make template 3 (λ a. pos a.0 ∷ pos a.1 ∷ pos a.2 ∷ [])) → ((a : ℕ × ℕ × ℕ) → IsLineWithin (make a) → IsShort a.0 × IsShort a.1 × IsShort a.2) → (text : List ℕ) → IsNotThree template text → IsNotOf make text
three_none make template form shorts text none a within e =
    let all = shorts a within in none a.0 a.1 a.2 all.0 all.1 all.2 (filled_is make template 3 (λ a. pos a.0 ∷ pos a.1 ∷ pos a.2 ∷ []) form text a e)

pub three_some : (make : ℕ × ℕ × ℕ → PageLine) (template : List ℕ) (form : IsForm make template 3 (λ a. pos a.0 ∷ pos a.1 ∷ pos a.2 ∷ [])) (text : List ℕ) (m n o : ℕ) → IsThree template text m n o → IsLineWithin (make (m, n, o)) → IsLineOf text (make (m, n, o))
three_some make template form text m n o three within = form_some make template 3 (λ a. pos a.0 ∷ pos a.1 ∷ pos a.2 ∷ []) form text (pos m ∷ pos n ∷ pos o ∷ []) three.filled_by (m, n, o) within refl

pub pair_list : (a b : ℤ) (ns : List ℤ) → length ns ≡ 2 → a ≡ number_at ns 0 → b ≡ number_at ns 1 → a ∷ b ∷ [] ≡ ns
pair_list a b ns h e f = cells a b (number_at ns 0) (number_at ns 1) e f ∙ list_two ns h
  where
    cells : (a b c d : ℤ) → a ≡ c → b ≡ d → a ∷ b ∷ [] ≡ c ∷ d ∷ []
    cells a b c d p q = cc

-- the vector of three places, as code passes them
abbrev pub packed_vector : List ℤ → ℕ → Vector
packed_vector ns i = record {
  x = to_z w128 (of_z w128 (number_at ns i));
  y = to_z w128 (of_z w128 (number_at ns (i + 1)));
  z = to_z w128 (of_z w128 (number_at ns (i + 2)));
}

pub vector_at : (template text : List ℕ) (count : ℕ) (ns others : List ℤ) (i : ℕ) → i + 2 < count → IsFilledBy template text count ns → others ≡ ns
    → Same (record { x = number_at others i; y = number_at others (i + 1); z = number_at others (i + 2) }) (packed_vector ns i)
vector_at template text count ns others i h is e =
    let x = at_place template text count ns others i (omega arith) is e in
    let y = at_place template text count ns others (i + 1) (omega arith) is e in
    let z = at_place template text count ns others (i + 2) h is e in
    λ j. record { x = x j; y = y j; z = z j }

list_eight : (ns : List ℤ) → length ns ≡ 8
    → number_at ns 0 ∷ number_at ns 1 ∷ number_at ns 2 ∷ number_at ns 3 ∷ number_at ns 4 ∷ number_at ns 5 ∷ number_at ns 6 ∷ number_at ns 7 ∷ [] ≡ ns
list_eight (a ∷ b ∷ c ∷ d ∷ e ∷ f ∷ g ∷ h ∷ []) p = refl
list_eight _ p = absurd (omega arith)

pub open_list : (template text : List ℕ) (ns : List ℤ) → IsFilledBy template text 8 ns → (m n : ℕ) (from to : Vector) → pos m ≡ to_z w128 (of_z w128 (number_at ns 0)) → pos n ≡ to_z w128 (of_z w128 (number_at ns 1))
    → from ≡ packed_vector ns 2 → to ≡ packed_vector ns 5 → open_numbers (m, n, from, to) ≡ ns
open_list template text ns is m n from to e f g h =
    let word : (i : ℕ) → i < 8 → to_z w128 (of_z w128 (number_at ns i)) ≡ number_at ns i = λ i small. unpack (number_at ns i) (is.words.each i small) in
    cells (pos m) (pos n) from.x from.y from.z to.x to.y to.z (number_at ns 0) (number_at ns 1) (number_at ns 2) (number_at ns 3) (number_at ns 4) (number_at ns 5) (number_at ns 6) (number_at ns 7)
    (e ∙ word 0 (omega arith)) (f ∙ word 1 (omega arith)) (ap (λ (v : Vector). v.x) g ∙ word 2 (omega arith)) (ap (λ (v : Vector). v.y) g ∙ word 3 (omega arith)) (ap (λ (v : Vector). v.z) g ∙ word 4 (omega arith))
    (ap (λ (v : Vector). v.x) h ∙ word 5 (omega arith)) (ap (λ (v : Vector). v.y) h ∙ word 6 (omega arith)) (ap (λ (v : Vector). v.z) h ∙ word 7 (omega arith))
    ∙ list_eight ns is.words.count_is
  where
    cells : (a b c d e f g h i j k l m n o p : ℤ) → a ≡ i → b ≡ j → c ≡ k → d ≡ l → e ≡ m → f ≡ n → g ≡ o → h ≡ p
        → a ∷ b ∷ c ∷ d ∷ e ∷ f ∷ g ∷ h ∷ [] ≡ i ∷ j ∷ k ∷ l ∷ m ∷ n ∷ o ∷ p ∷ []
    cells a b c d e f g h i j k l m n o p q r s t u v w x = cc
