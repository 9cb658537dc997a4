-- The two words that frame a file.
use Rattle.std.proofs.Common.{◌≡◌, ℕ, ◌-◌, ◌≤◌, zero, suc, true, false, Option, Some, None, List, [], ◌∷◌, ◌++◌, length, take, drop, refl, sym, ◌∙◌, ap, arith, subst, inl, inr, ◌==◌, codes, length-append, take-append-drop, length-take-le}
use Rattle.std.proofs.lemmas.Bool.{true≢false, cases_lt, eqb-true, and_parts, cases_Bool}
use Rattle.spec_step.specs.Spelling.{by_class, is_spelled, word, no_bytes}
use Rattle.spec_step.specs.Longest.{IsLongest, Longest}
use Rattle.spec_step.specs.declared.token.TokenKind.{TokenKind}
use Rattle.spec_step.specs.declared.token.TokenKind.TheVariants as kind
use Rattle.step_token.specs.declared.machine.State.TheVariants.{Start, Word}
use Rattle.step_token.proofs.Steps.{steps}

abbrev pub start_word : List ℕ
start_word = codes "ISO-10303-21"

abbrev pub end_word : List ℕ
end_word = codes "END-ISO-10303-21"

is_done : (bs : List ℕ) → no_bytes bs ≡ true → bs ≡ []
is_done [] e = refl
is_done (b ∷ bs) e = absurd (true≢false (sym e))

pub word_is : (w bs : List ℕ) → word w no_bytes bs ≡ true → bs ≡ w
word_is [] bs e = is_done bs e
word_is (c ∷ cs) [] e = absurd (true≢false (sym e))
word_is (c ∷ cs) (b ∷ bs) e =
    let p = and_parts (b == c) (word cs no_bytes bs) e in
    ap (λ x. x ∷ bs) (eqb-true b c p.0) ∙ ap (λ l. c ∷ l) (word_is cs bs p.1)

-- no other token goes on behind the letters before the dash
pub start_dead : (k : TokenKind) (x : List ℕ) → by_class k (73 ∷ 83 ∷ 79 ∷ 45 ∷ x) ≡ false
start_dead k x = steps Start k 73 (83 ∷ 79 ∷ 45 ∷ x) ∙ steps Word k 83 (79 ∷ 45 ∷ x) ∙ steps Word k 79 (45 ∷ x) ∙ steps Word k 45 x

pub end_dead : (k : TokenKind) (x : List ℕ) → by_class k (69 ∷ 78 ∷ 68 ∷ 45 ∷ x) ≡ false
end_dead k x = steps Start k 69 (78 ∷ 68 ∷ 45 ∷ x) ∙ steps Word k 78 (68 ∷ 45 ∷ x) ∙ steps Word k 68 (45 ∷ x) ∙ steps Word k 45 x

-- a spelled word has its length
spelled_length : (w bytes : List ℕ) (m : ℕ) → m ≤ length bytes → word w no_bytes (take m bytes) ≡ true → m ≡ length w
spelled_length w bytes m le e = sym (length-take-le m bytes le) ∙ ap length (word_is w (take m bytes) e)

-- a front of at least four bytes, as its four first and others
four_start : (m : ℕ) (rest : List ℕ) (k : TokenKind) → by_class k (take m (start_word ++ rest)) ≡ true → m ≤ 12
four_start m rest k e = elim (cases_lt m 4) [
  | inl lt ↦ omega arith
  | inr ge ↦
      let n = m - 4 in let f : m ≡ suc (suc (suc (suc n))) = omega arith in
      absurd (true≢false (sym e ∙ ap (λ i. by_class k (take i (start_word ++ rest))) f ∙ start_dead k _))
]

four_end : (m : ℕ) (rest : List ℕ) (k : TokenKind) → by_class k (take m (end_word ++ rest)) ≡ true → m ≤ 16
four_end m rest k e = elim (cases_lt m 4) [
  | inl lt ↦ omega arith
  | inr ge ↦
      let n = m - 4 in let f : m ≡ suc (suc (suc (suc n))) = omega arith in
      absurd (true≢false (sym e ∙ ap (λ i. by_class k (take i (end_word ++ rest))) f ∙ end_dead k _))
]

start_no_longer : (rest : List ℕ) (k : TokenKind) (m : ℕ) → m ≤ length (start_word ++ rest) → is_spelled k (take m (start_word ++ rest)) ≡ true → m ≤ 12
start_no_longer rest kind.StartWord m le e = let f : m ≡ 12 = spelled_length start_word (start_word ++ rest) m le e in omega arith
start_no_longer rest kind.EndWord zero le e = omega arith
start_no_longer rest kind.EndWord (suc m) le e = absurd (true≢false (sym e))
start_no_longer rest kind.Keyword m le e = four_start m rest kind.Keyword e
start_no_longer rest kind.Number m le e = four_start m rest kind.Number e
start_no_longer rest kind.Int m le e = four_start m rest kind.Int e
start_no_longer rest kind.Real m le e = four_start m rest kind.Real e
start_no_longer rest kind.Text m le e = four_start m rest kind.Text e
start_no_longer rest kind.Enumeration m le e = four_start m rest kind.Enumeration e
start_no_longer rest kind.Binary m le e = four_start m rest kind.Binary e
start_no_longer rest kind.Mark m le e = four_start m rest kind.Mark e

end_no_longer : (rest : List ℕ) (k : TokenKind) (m : ℕ) → m ≤ length (end_word ++ rest) → is_spelled k (take m (end_word ++ rest)) ≡ true → m ≤ 16
end_no_longer rest kind.EndWord m le e = let f : m ≡ 16 = spelled_length end_word (end_word ++ rest) m le e in omega arith
end_no_longer rest kind.StartWord zero le e = omega arith
end_no_longer rest kind.StartWord (suc m) le e = absurd (true≢false (sym e))
end_no_longer rest kind.Keyword m le e = four_end m rest kind.Keyword e
end_no_longer rest kind.Number m le e = four_end m rest kind.Number e
end_no_longer rest kind.Int m le e = four_end m rest kind.Int e
end_no_longer rest kind.Real m le e = four_end m rest kind.Real e
end_no_longer rest kind.Text m le e = four_end m rest kind.Text e
end_no_longer rest kind.Enumeration m le e = four_end m rest kind.Enumeration e
end_no_longer rest kind.Binary m le e = four_end m rest kind.Binary e
end_no_longer rest kind.Mark m le e = four_end m rest kind.Mark e

pub start_longest : (bytes rest : List ℕ) → bytes ≡ start_word ++ rest → IsLongest is_spelled bytes kind.StartWord 12
start_longest bytes rest e = subst (λ l. IsLongest is_spelled l kind.StartWord 12) (sym e) (record {
  within = omega (arith, length-append start_word rest);
  token = refl;
  longest = start_no_longer rest;
})

pub end_longest : (bytes rest : List ℕ) → bytes ≡ end_word ++ rest → IsLongest is_spelled bytes kind.EndWord 16
end_longest bytes rest e = subst (λ l. IsLongest is_spelled l kind.EndWord 16) (sym e) (record {
  within = omega (arith, length-append end_word rest);
  token = refl;
  longest = end_no_longer rest;
})

-- no front is this word
no_word : (w bytes : List ℕ) → ((rest : List ℕ) → bytes ≡ w ++ rest → ⊥) → (m : ℕ) → word w no_bytes (take m bytes) ≡ false
no_word w bytes h m = elim (cases_Bool (word w no_bytes (take m bytes))) [
  | inl e ↦ absurd (h (drop m bytes) (sym (take-append-drop m bytes) ∙ ap (λ l. l ++ drop m bytes) (word_is w (take m bytes) e)))
  | inr e ↦ e
]

by_class_word : (bytes : List ℕ) → ((rest : List ℕ) → bytes ≡ start_word ++ rest → ⊥) → ((rest : List ℕ) → bytes ≡ end_word ++ rest → ⊥)
    → (k : TokenKind) (m : ℕ) → is_spelled k (take m bytes) ≡ by_class k (take m bytes)
by_class_word bytes f g kind.StartWord m = no_word start_word bytes f m
by_class_word bytes f g kind.EndWord m = no_word end_word bytes g m
by_class_word bytes f g kind.Keyword m = refl
by_class_word bytes f g kind.Number m = refl
by_class_word bytes f g kind.Int m = refl
by_class_word bytes f g kind.Real m = refl
by_class_word bytes f g kind.Text m = refl
by_class_word bytes f g kind.Enumeration m = refl
by_class_word bytes f g kind.Binary m = refl
by_class_word bytes f g kind.Mark m = refl

pub longest_neither : (bytes : List ℕ) (o : Option (TokenKind × ℕ)) → ((rest : List ℕ) → bytes ≡ start_word ++ rest → ⊥) → ((rest : List ℕ) → bytes ≡ end_word ++ rest → ⊥)
    → Longest by_class bytes o → Longest is_spelled bytes o
longest_neither bytes None f g h = λ k m le. by_class_word bytes f g k m ∙ h k m le
longest_neither bytes (Some found) f g h = record {
  within = h.within;
  token = by_class_word bytes f g found.0 found.1 ∙ h.token;
  longest = λ k m le e. h.longest k m le (sym (by_class_word bytes f g k m) ∙ e);
}
