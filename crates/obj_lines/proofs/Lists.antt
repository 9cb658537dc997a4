-- The numbers of a face's corners.
use Rattle.std.proofs.Common.{◌≡◌, ◌≢◌, ℕ, ◌<◌, ◌^◌, true, List, [], ◌∷◌, ◌++◌, All, refl, sym, ap, ◌∙◌, append_assoc}
use Rattle.std.specs.Fmt.{decimal}
use Rattle.std.proofs.lemmas.List.{append_cancel_right}
use Rattle.std.proofs.lemmas.List.Elements.{All-nil, All-cons, All-head, All-tail, All-append}
use Rattle.obj_lines.specs.PageLines.{Indices}
use Rattle.obj_lines.specs.Templates.{is_end, IsFrontOf, HasNoFront, IsIndex, spaced_index, indices_text, AreIndicesOf}
use Rattle.obj_lines.specs.Readings.{IsNotOf}

-- ---- one number behind a space
tails : (a b : ℕ) (x y : List ℕ) → a ∷ x ≡ b ∷ y → x ≡ y
tails a b x y e = cc

-- ---- the list
abbrev pub AreIndices : List ℕ → Type 0
AreIndices ns = All (λ n. n < 2 ^ 64) ns

-- these numbers stand before the rest of a text, and the numbers of the text begin with them
pub record IsSplit (text items rest : List ℕ) : Type 0 where
  pub within : AreIndices items
  pub text_is : indices_text items ++ rest ≡ text
  pub sole : (ns : List ℕ) → AreIndices ns → indices_text ns ≡ text → (more : List ℕ) × AreIndices more × (ns ≡ items ++ more) × (indices_text more ≡ rest)

text_end : (ns : List ℕ) → is_end (indices_text ns) ≡ true
text_end [] = refl
text_end (n ∷ ns) = refl

append_nil : (xs : List ℕ) → xs ++ [] ≡ xs
append_nil [] = refl
append_nil (x ∷ xs) = ap (λ t. x ∷ t) (append_nil xs)

text_more : (items : List ℕ) (n : ℕ) → indices_text (items ++ n ∷ []) ≡ indices_text items ++ spaced_index n
text_more [] n = append_nil (spaced_index n)
text_more (m ∷ items) n = ap (λ t. spaced_index m ++ t) (text_more items n) ∙ sym (append_assoc (spaced_index m) (indices_text items) (spaced_index n))

module _ (text items rest : List ℕ) (split : IsSplit text items rest) where
  pub split_more : (n : ℕ) (behind : List ℕ) → IsFrontOf spaced_index IsIndex rest n behind → IsSplit text (items ++ n ∷ []) behind
  split_more n behind front = record {
    within = All-append (λ n. n < 2 ^ 64) items (n ∷ []) split.within (All-cons (λ n. n < 2 ^ 64) n [] front.within (All-nil (λ n. n < 2 ^ 64)));
    text_is = ap (λ t. t ++ behind) (text_more items n) ∙ append_assoc (indices_text items) (spaced_index n) behind ∙ ap (λ t. indices_text items ++ t) front.text_is ∙ split.text_is;
    sole = λ ns h e. let s = split.sole ns h e in by ns s.0 s.1 s.2 s.3;
  }
    where
      by : (ns more : List ℕ) → AreIndices more → ns ≡ items ++ more → indices_text more ≡ rest → (next : List ℕ) × AreIndices next × (ns ≡ (items ++ n ∷ []) ++ next) × (indices_text next ≡ behind)
      by ns [] h e f = absurd (empty 32 (decimal n ++ behind) (f ∙ sym front.text_is))
        where
          empty : (a : ℕ) (x : List ℕ) → [] ≡ a ∷ x → ⊥
          empty a x e = cc
      by ns (m ∷ more) h e f =
          let same = front.sole m (indices_text more) (All-head (λ n. n < 2 ^ 64) m more h) (text_end more) f in
          (more, All-tail (λ n. n < 2 ^ 64) m more h, e ∙ ap (λ k. items ++ k ∷ more) same.0 ∙ sym (append_assoc items (n ∷ []) more), same.1)

  pub split_none : rest ≢ [] → HasNoFront spaced_index IsIndex rest → (ns : List ℕ) → AreIndices ns → indices_text ns ≢ text
  split_none some none ns h e = let s = split.sole ns h e in by s.0 s.1 s.3
    where
      by : (more : List ℕ) → AreIndices more → indices_text more ≡ rest → ⊥
      by [] h f = some (sym f)
      by (m ∷ more) h f = none m (indices_text more) (All-head (λ n. n < 2 ^ 64) m more h) (text_end more) f

  pub split_end : rest ≡ [] → (ns : List ℕ) → AreIndices ns → indices_text ns ≡ text → ns ≡ items
  split_end done ns h e = let s = split.sole ns h e in by s.0 s.2 (s.3 ∙ done)
    where
      by : (more : List ℕ) → ns ≡ items ++ more → indices_text more ≡ [] → ns ≡ items
      by [] e f = e ∙ append_nil items
      by (m ∷ more) e f = absurd (empty 32 (decimal m ++ indices_text more) f)
        where
          empty : (a : ℕ) (x : List ℕ) → a ∷ x ≡ [] → ⊥
          empty a x e = cc

  pub whole_text : rest ≡ [] → indices_text items ≡ text
  whole_text done = no_rest (indices_text items) rest done ∙ split.text_is
    where
      no_rest : (xs ys : List ℕ) → ys ≡ [] → xs ≡ xs ++ ys
      no_rest [] ys e = sym e
      no_rest (x ∷ xs) ys e = ap (λ t. x ∷ t) (no_rest xs ys e)

pub split_over : (text items rest : List ℕ) → IsSplit text items rest → rest ≡ [] → AreIndicesOf text items
split_over text items rest split done = record { within = split.within; text_is = whole_text text items rest split done; sole = split_end text items rest split done }

-- ---- the line
pub other_sign : (text : List ℕ) → ((more : List ℕ) → 102 ∷ more ≢ text) → IsNotOf Indices text
other_sign text none ns h e = none (indices_text ns) (append_cancel_right (102 ∷ indices_text ns) text (10 ∷ []) e)
