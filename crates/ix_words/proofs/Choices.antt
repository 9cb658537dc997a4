-- The words of a line, one by one, and more than two behind `gen`.
use Rattle.std.proofs.Common.{◌≡◌, ℕ, suc, ◌+◌, ◌<◌, ◌≤◌, Bool, true, false, List, [], ◌∷◌, length, drop, get_or, map, Option, Some, None, String, Global, refl, sym, ap, ◌∙◌, add-one, arith}
use Rattle.std.proofs.Math.Seq.{drop-cons}
use Rattle.std.specs.Prelude.{string_bytes}
use Rattle.std.specs.Option.{option_and_then}
use Rattle.ix_words.specs.declared.options.Options.{Options}
use Rattle.ix_words.specs.Words.{with_word, with_words, gen_of}

abbrev bytes : List (String Global) → List (List ℕ)
bytes words = map (string_bytes {Z = Global}) words

-- the word at a place, and those behind it
one_more : {X : Type 0} (xs : List X) (i : ℕ) (x : X) → i < length xs → x ≡ get_or xs i x → drop i xs ≡ x ∷ drop (i + 1) xs
one_more xs i x lt is = drop-cons xs i x lt ∙ ap (λ y. y ∷ drop (suc i) xs) (sym is) ∙ ap (λ k. x ∷ drop k xs) (sym (add-one i))

next_place : (at : ℕ) → at + 2 + 1 ≡ at + 1 + 2
next_place at = omega arith

-- one option more
pub option_more : (words : List (String Global)) (at : ℕ) (word : String Global) (options read : Options) (all : Option Options) → at < length words
    → word ≡ get_or words at word → with_word options (at + 2) (string_bytes {Z = Global} word) ≡ Some read
    → with_words options (at + 2) (map (string_bytes {Z = Global}) (drop at words)) ≡ all
    → with_words read (at + 1 + 2) (map (string_bytes {Z = Global}) (drop (at + 1) words)) ≡ all
option_more words at word options read all lt is e h =
    ap (λ k. with_words read k (bytes (drop (at + 1) words))) (sym (next_place at))
    ∙ ap (λ o. option_and_then (λ r. with_words r (at + 2 + 1) (bytes (drop (at + 1) words))) o) (sym e)
    ∙ ap (λ l. with_words options (at + 2) (bytes l)) (sym (one_more words at word lt is)) ∙ h

-- more than two words behind `gen`
pub too_many : (words : List (String Global)) → 3 ≤ length words → None ≡ gen_of (map (string_bytes {Z = Global}) words)
too_many [] h = absurd (none_less h)
  where
    none_less : 3 ≤ 0 → ⊥
    none_less h = omega arith
too_many (a ∷ []) h = absurd (one_less h)
  where
    one_less : 3 ≤ 1 → ⊥
    one_less h = omega arith
too_many (a ∷ b ∷ []) h = absurd (two_less h)
  where
    two_less : 3 ≤ 2 → ⊥
    two_less h = omega arith
too_many (a ∷ b ∷ c ∷ words) h = refl
