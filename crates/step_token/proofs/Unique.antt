-- What stands in a text is one: one gap, one token.
use Rattle.std.proofs.Common.{◌≡◌, ℕ, ◌+◌, ◌-◌, ◌<◌, ◌≤◌, zero, suc, Bool, true, ◌==◌, List, [], ◌∷◌, length, take, drop, Option, Some, None, refl, sym, ◌∙◌, ap, arith, subst, inl, inr, ◌⊎◌, if◌then◌else◌, length-drop}
use Rattle.std.proofs.lemmas.Bool.{cases_order, true≢false, eqb-true}
use Rattle.spec_step.specs.declared.token.Token.{Token}
use Rattle.spec_step.specs.declared.token.TokenKind.{TokenKind}
use Rattle.spec_step.specs.declared.token.TokenKind.TheVariants as kind
use Rattle.spec_step.specs.declared.token.TokenStep.{TokenStep}
use Rattle.spec_step.specs.declared.token.TokenStep.TheVariants.{Got, Bad, End}
use Rattle.spec_step.specs.Spelling.{by_class, is_spelled, one}
use Rattle.spec_step.specs.Longest.{IsLongest, NoToken}
use Rattle.spec_step.specs.Gaps.{is_blank, IsPiece, Pieces, IsComment, IsBlankAt, GapEnds, IsNext}
use Rattle.step_token.specs.declared.machine.State.{State}
use Rattle.step_token.specs.declared.machine.State.TheVariants.{Start}
use Rattle.step_token.specs.Machine.{step_of, accepted_kind}
use Rattle.step_token.proofs.Residual.{residual, after, same, code}
use Rattle.step_token.proofs.Steps.{steps, ends, takes}
use Rattle.step_token.proofs.Words.{start_word, end_word, word_is, start_dead, end_dead}

one_comment : (s : List ℕ) (i j k : ℕ) → IsComment s i j → IsComment s i k → j ≡ k
one_comment s i j k p q = elim (cases_order j k) [
  | inl e ↦ e
  | inr h ↦ elim h [ inl lt ↦ absurd (q.first j p.room lt p.closes) | inr gt ↦ absurd (p.first k q.room gt q.closes) ]
]

no_both : (s : List ℕ) (i j k : ℕ) → IsBlankAt s i j → IsComment s i k → ⊥
no_both s i j k p q = true≢false (sym p.1 ∙ ap is_blank q.opens.1)

one_piece : (s : List ℕ) (i j k : ℕ) → IsPiece s i j → IsPiece s i k → j ≡ k
one_piece s i j k (inl p) (inl q) = p.2 ∙ sym q.2
one_piece s i j k (inl p) (inr q) = absurd (no_both s i j k p q)
one_piece s i j k (inr p) (inl q) = absurd (no_both s i k j q p)
one_piece s i j k (inr p) (inr q) = one_comment s i j k p q

one_end : (s : List ℕ) (m n i a b : ℕ) → Pieces s m i a → Pieces s n i b → ((j : ℕ) → IsPiece s a j → ⊥) → ((j : ℕ) → IsPiece s b j → ⊥) → a ≡ b
one_end s zero zero i a b p q none_a none_b = sym p ∙ q
one_end s zero (suc n) i a b p q none_a none_b = absurd (none_a q.0 (subst (λ x. IsPiece s x q.0) p q.1))
one_end s (suc m) zero i a b p q none_a none_b = absurd (none_b p.0 (subst (λ x. IsPiece s x p.0) q p.1))
one_end s (suc m) (suc n) i a b p q none_a none_b =
    one_end s m n p.0 a b p.2 (subst (λ x. Pieces s n x b) (one_piece s i q.0 p.0 q.1 p.1) q.2) none_a none_b

pub one_gap : (s : List ℕ) (from a b : ℕ) → GapEnds s from a → GapEnds s from b → a ≡ b
one_gap s from a b p q = one_end s p.gap.0 q.gap.0 from a b p.gap.1 q.gap.1 p.no_more q.no_more

pub one_longest : (spelled : TokenKind → List ℕ → Bool) (bytes : List ℕ) (j k : TokenKind) (m n : ℕ) → IsLongest spelled bytes j m → IsLongest spelled bytes k n → m ≡ n
one_longest spelled bytes j k m n p q =
    let up : m ≤ n = q.longest j m p.within p.token in
    let down : n ≤ m = p.longest k n q.within q.token in
    omega arith

-- the kind of a code
abbrev kind_of : ℕ → TokenKind
kind_of n =
    if n == 0 then kind.StartWord
    else (if n == 1 then kind.EndWord
    else (if n == 2 then kind.Keyword
    else (if n == 3 then kind.Number
    else (if n == 4 then kind.Int
    else (if n == 5 then kind.Real
    else (if n == 6 then kind.Text
    else (if n == 7 then kind.Enumeration
    else (if n == 8 then kind.Binary
    else kind.Mark))))))))

kind-code : (k : TokenKind) → kind_of (code k) ≡ k
kind-code kind.StartWord = refl
kind-code kind.EndWord = refl
kind-code kind.Keyword = refl
kind-code kind.Number = refl
kind-code kind.Int = refl
kind-code kind.Real = refl
kind-code kind.Text = refl
kind-code kind.Enumeration = refl
kind-code kind.Binary = refl
kind-code kind.Mark = refl

pub same_kind : (j k : TokenKind) → same j k ≡ true → j ≡ k
same_kind j k e = sym (kind-code j) ∙ ap kind_of (eqb-true (code j) (code k) e) ∙ kind-code k

-- what a state accepts has one kind
one_taken : (o : Option TokenKind) (j k : TokenKind) → takes o j ≡ true → takes o k ≡ true → j ≡ k
one_taken None j k p q = absurd (true≢false (sym p))
one_taken (Some i) j k p q = same_kind j i p ∙ sym (same_kind k i q)

one_after : (o : Option State) (j k : TokenKind) (bs : List ℕ)
    → ((s : State) → residual s j bs ≡ true → residual s k bs ≡ true → j ≡ k)
    → after o j bs ≡ true → after o k bs ≡ true → j ≡ k
one_after None j k bs h p q = absurd (true≢false (sym p))
one_after (Some s) j k bs h p q = h s p q

one_residual : (bs : List ℕ) (s : State) (j k : TokenKind) → residual s j bs ≡ true → residual s k bs ≡ true → j ≡ k
one_residual [] s j k p q = one_taken (accepted_kind s) j k (sym (ends s j) ∙ p) (sym (ends s k) ∙ q)
one_residual (b ∷ bs) s j k p q =
    one_after (step_of s b) j k bs (λ next. one_residual bs next j k) (sym (steps s j b bs) ∙ p) (sym (steps s k b bs) ∙ q)

-- the two words that frame a file are no other token
not_start : (k : TokenKind) → by_class k start_word ≡ true → ⊥
not_start k e = true≢false (sym e ∙ start_dead k _)

not_end : (k : TokenKind) → by_class k end_word ≡ true → ⊥
not_end k e = true≢false (sym e ∙ end_dead k _)

starts_otherwise : start_word ≡ end_word → ⊥
starts_otherwise e = true≢false (ap (one (λ b. b == 73) (λ bs. true)) e)

-- the bytes are one of the two words, or in a class
abbrev pub Spelt : TokenKind → List ℕ → Type 0
Spelt k bs = ((k ≡ kind.StartWord) × (bs ≡ start_word)) ⊎ (((k ≡ kind.EndWord) × (bs ≡ end_word)) ⊎ (by_class k bs ≡ true))

pub spelt : (k : TokenKind) (bs : List ℕ) → is_spelled k bs ≡ true → Spelt k bs
spelt kind.StartWord bs e = inl (refl, word_is start_word bs e)
spelt kind.EndWord bs e = inr (inl (refl, word_is end_word bs e))
spelt kind.Keyword bs e = inr (inr e)
spelt kind.Number bs e = inr (inr e)
spelt kind.Int bs e = inr (inr e)
spelt kind.Real bs e = inr (inr e)
spelt kind.Text bs e = inr (inr e)
spelt kind.Enumeration bs e = inr (inr e)
spelt kind.Binary bs e = inr (inr e)
spelt kind.Mark bs e = inr (inr e)

one_spelt : (j k : TokenKind) (bs : List ℕ) → Spelt j bs → Spelt k bs → j ≡ k
one_spelt j k bs (inl p) (inl q) = p.0 ∙ sym q.0
one_spelt j k bs (inl p) (inr (inl q)) = absurd (starts_otherwise (sym p.1 ∙ q.1))
one_spelt j k bs (inl p) (inr (inr q)) = absurd (not_start k (subst (λ x. by_class k x ≡ true) p.1 q))
one_spelt j k bs (inr (inl p)) (inl q) = absurd (starts_otherwise (sym q.1 ∙ p.1))
one_spelt j k bs (inr (inl p)) (inr (inl q)) = p.0 ∙ sym q.0
one_spelt j k bs (inr (inl p)) (inr (inr q)) = absurd (not_end k (subst (λ x. by_class k x ≡ true) p.1 q))
one_spelt j k bs (inr (inr p)) (inl q) = absurd (not_start j (subst (λ x. by_class j x ≡ true) q.1 p))
one_spelt j k bs (inr (inr p)) (inr (inl q)) = absurd (not_end j (subst (λ x. by_class j x ≡ true) q.1 p))
one_spelt j k bs (inr (inr p)) (inr (inr q)) = one_residual bs Start j k p q

-- the same bytes are spelled as one kind only
pub one_kind : (j k : TokenKind) (bytes : List ℕ) → is_spelled j bytes ≡ true → is_spelled k bytes ≡ true → j ≡ k
one_kind j k bytes p q = one_spelt j k bytes (spelt j bytes p) (spelt k bytes q)

abbrev token : TokenKind → ℕ → ℕ → Token
token kind from end = record { kind = kind; from = from; end = end }

same_parts : (j k : TokenKind) (a b c d : ℕ) → j ≡ k → a ≡ b → c ≡ d → token j a c ≡ token k b d
same_parts j k a b c d e f g = ap (λ x. token x a c) e ∙ ap (λ x. token k x c) f ∙ ap (λ x. token k b x) g

one_token : (s : List ℕ) (t u : Token) → t.from ≡ u.from → t.from < t.end → u.from < u.end
    → IsLongest is_spelled (drop t.from s) t.kind (t.end - t.from) → IsLongest is_spelled (drop u.from s) u.kind (u.end - u.from) → t ≡ u
one_token s t u e some_t some_u p q =
    let q' : IsLongest is_spelled (drop t.from s) u.kind (u.end - u.from) = subst (λ x. IsLongest is_spelled (drop x s) u.kind (u.end - u.from)) (sym e) q in
    let lengths : t.end - t.from ≡ u.end - u.from = one_longest is_spelled (drop t.from s) t.kind u.kind (t.end - t.from) (u.end - u.from) p q' in
    let same_ends : t.end ≡ u.end = omega arith in
    let kinds : t.kind ≡ u.kind =
    one_kind t.kind u.kind (take (t.end - t.from) (drop t.from s)) p.token
    (subst (λ n. is_spelled u.kind (take n (drop t.from s)) ≡ true) (sym lengths) q'.token) in
    same_parts t.kind u.kind t.from u.from t.end u.end kinds e same_ends

-- no piece begins at the end
none_at_end : (s : List ℕ) (j : ℕ) → IsPiece s (length s) j → ⊥
none_at_end s j (inl p) = let here : length s < length s = p.0 in omega arith
none_at_end s j (inr p) = let here : length s + 1 < length s = p.opens.0 in omega arith

end_gap : (s : List ℕ) (from : ℕ) → IsNext s from End → GapEnds s from (length s)
end_gap s from h = record {
  gap = h;
  within = omega arith;
  no_more = none_at_end s;
}

-- where a token begins, none fails to begin
got_bad : (s : List ℕ) (from : ℕ) (t : Token) (at : ℕ) → IsNext s from (Got t) → IsNext s from (Bad at) → ⊥
got_bad s from t at p q =
    let none : NoToken is_spelled (drop t.from s) = subst (λ x. NoToken is_spelled (drop x s)) (sym (one_gap s from t.from at p.0 q.0)) q.2 in
    true≢false (sym p.2.token ∙ none t.kind (t.end - t.from) p.2.within)

-- and the text does not end
got_end : (s : List ℕ) (from : ℕ) (t : Token) → IsNext s from (Got t) → IsNext s from End → ⊥
got_end s from t p q =
    let at_end : t.from ≡ length s = one_gap s from t.from (length s) p.0 (end_gap s from q) in
    omega (arith, p.1, p.2.within, length-drop t.from s)

bad_end : (s : List ℕ) (from at : ℕ) → IsNext s from (Bad at) → IsNext s from End → ⊥
bad_end s from at p q = let at_end : at ≡ length s = one_gap s from at (length s) p.0 (end_gap s from q) in omega (arith, p.1)

-- what stands next is one
pub one_next : (s : List ℕ) (from : ℕ) (a b : TokenStep) → IsNext s from a → IsNext s from b → a ≡ b
one_next s from (Got t) (Got u) p q = ap Got (one_token s t u (one_gap s from t.from u.from p.0 q.0) p.1 q.1 p.2 q.2)
one_next s from (Got t) (Bad at) p q = absurd (got_bad s from t at p q)
one_next s from (Got t) End p q = absurd (got_end s from t p q)
one_next s from (Bad at) (Got t) p q = absurd (got_bad s from t at q p)
one_next s from (Bad at) (Bad to) p q = ap Bad (one_gap s from at to p.0 q.0)
one_next s from (Bad at) End p q = absurd (bad_end s from at p q)
one_next s from End (Got t) p q = absurd (got_end s from t q p)
one_next s from End (Bad at) p q = absurd (bad_end s from at q p)
one_next s from End End p q = refl

pub one_got : (s : List ℕ) (from : ℕ) (t u : Token) → IsNext s from (Got t) → IsNext s from (Got u) → t ≡ u
one_got s from t u p q = one_token s t u (one_gap s from t.from u.from p.0 q.0) p.1 q.1 p.2 q.2
