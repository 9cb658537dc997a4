-- What is known of the best token so far.
use Rattle.std.proofs.Common.{◌≡◌, ℕ, ◌+◌, ◌<◌, ◌≤◌, suc, true, false, Option, Some, None, List, [], ◌∷◌, ◌++◌, length, take, drop, get_or, refl, sym, ◌∙◌, ap, arith, subst, inl, inr, append_assoc, append-nil, ◌-◌}
use Rattle.std.proofs.lemmas.List.{take_more}
use Rattle.std.proofs.Math.Seq.{take-add, drop-cons}
use Rattle.std.proofs.lemmas.Bool.{true≢false, cases_lt, eq-eqb}
use Rattle.spec_step.specs.Longest.{Longest}
use Rattle.spec_step.specs.Spelling.{by_class}
use Rattle.step_token.specs.Machine.{step_of, accepted_kind, better_of}
use Rattle.spec_step.specs.declared.token.TokenKind.{TokenKind}
use Rattle.step_token.specs.declared.machine.State.{State}
use Rattle.step_token.proofs.Residual.{residual, after, same, code}
use Rattle.step_token.proofs.Steps.{steps, ends, takes}

-- of the fronts with at most i bytes, this is the longest token
abbrev pub BestSoFar : List ℕ → ℕ → Option (TokenKind × ℕ) → Type 0
BestSoFar bytes i None = (kind : TokenKind) (m : ℕ) → m ≤ i → by_class kind (take m bytes) ≡ false
BestSoFar bytes i (Some found) =
    (found.1 ≤ i) × (by_class found.0 (take found.1 bytes) ≡ true)
    × ((kind : TokenKind) (m : ℕ) → m ≤ i → by_class kind (take m bytes) ≡ true → m ≤ found.1)

-- whatever follows the front, the state says whether it is a token
abbrev pub Reached : List ℕ → ℕ → State → Type 0
Reached bytes i state = (kind : TokenKind) (more : List ℕ) → by_class kind (take i bytes ++ more) ≡ residual state kind more

pub reached_more : (bytes : List ℕ) (i : ℕ) (s next : State) → i < length bytes → step_of s (get_or bytes i 0) ≡ Some next → Reached bytes i s → Reached bytes (i + 1) next
reached_more bytes i s next lt e h kind more =
    let b = get_or bytes i 0 in
    ap (λ l. by_class kind (l ++ more)) (take_more bytes i 0 lt) ∙ ap (by_class kind) (append_assoc (take i bytes) (b ∷ []) more)
    ∙ h kind (b ∷ more) ∙ steps s kind b more ∙ ap (λ o. after o kind more) e

-- the front with i bytes is a token of the kind that the state accepts
token_at : (bytes : List ℕ) (i : ℕ) (s : State) → Reached bytes i s → (kind : TokenKind) → by_class kind (take i bytes) ≡ takes (accepted_kind s) kind
token_at bytes i s h kind = ap (by_class kind) (sym (append-nil (take i bytes))) ∙ h kind [] ∙ ends s kind

same-refl : (k : TokenKind) → same k k ≡ true
same-refl k = eq-eqb (code k) (code k) refl

-- a length up to i + 1 is one up to i, or i + 1
up_or_last : (P : ℕ → Type 0) (i : ℕ) → ((m : ℕ) → m ≤ i → P m) → P (i + 1) → (m : ℕ) → m ≤ i + 1 → P m
up_or_last P i below last m h = elim (cases_lt i m) [ inl gt ↦ let e : i + 1 ≡ m = omega arith in subst P e last | inr le ↦ below m le ]

best_by : (bytes : List ℕ) (i : ℕ) (best : Option (TokenKind × ℕ)) (o : Option TokenKind)
    → ((kind : TokenKind) → by_class kind (take (i + 1) bytes) ≡ takes o kind) → BestSoFar bytes i best → BestSoFar bytes (i + 1) (better_of best o (i + 1))
best_by bytes i best (Some j) at h = (omega arith, at j ∙ same-refl j, λ kind m le e. le)
best_by bytes i None None at h = λ kind. up_or_last (λ m. by_class kind (take m bytes) ≡ false) i (h kind) (at kind)
best_by bytes i (Some found) None at h =
    (omega arith, h.1, λ kind. up_or_last (λ m. by_class kind (take m bytes) ≡ true → m ≤ found.1) i (h.2 kind) (λ e. absurd (true≢false (sym e ∙ at kind))))

pub best_more : (bytes : List ℕ) (i : ℕ) (s : State) (best : Option (TokenKind × ℕ)) → Reached bytes (i + 1) s → BestSoFar bytes i best → BestSoFar bytes (i + 1) (better_of best (accepted_kind s) (i + 1))
best_more bytes i s best r h = best_by bytes i best (accepted_kind s) (token_at bytes (i + 1) s r) h

-- where the state has no step, no longer front is a token
dead : (bytes : List ℕ) (i : ℕ) (s : State) → i < length bytes → step_of s (get_or bytes i 0) ≡ None → Reached bytes i s
    → (kind : TokenKind) (n : ℕ) → by_class kind (take (i + suc n) bytes) ≡ false
dead bytes i s lt e h kind n =
    let b = get_or bytes i 0 in
    ap (by_class kind) (take-add i (suc n) bytes ∙ ap (λ l. take i bytes ++ take (suc n) l) (drop-cons bytes i 0 lt))
    ∙ h kind (b ∷ take n (drop (suc i) bytes)) ∙ steps s kind b _ ∙ ap (λ o. after o kind (take n (drop (suc i) bytes))) e

longest_of : (bytes : List ℕ) (i : ℕ) (best : Option (TokenKind × ℕ)) → i ≤ length bytes → BestSoFar bytes i best
    → ((kind : TokenKind) (m : ℕ) → i < m → m ≤ length bytes → by_class kind (take m bytes) ≡ false) → Longest by_class bytes best
longest_of bytes i None within h past = λ kind m le. elim (cases_lt i m) [ inl gt ↦ past kind m gt le | inr le' ↦ h kind m le' ]
longest_of bytes i (Some found) within h past = record {
  within = omega (arith, h.0);
  token = h.1;
  longest = λ kind m le e. elim (cases_lt i m) [ inl gt ↦ absurd (true≢false (sym e ∙ past kind m gt le)) | inr le' ↦ h.2 kind m le' e ];
}

pub longest_dead : (bytes : List ℕ) (i : ℕ) (s : State) (best : Option (TokenKind × ℕ)) → i < length bytes → step_of s (get_or bytes i 0) ≡ None → Reached bytes i s → BestSoFar bytes i best → Longest by_class bytes best
longest_dead bytes i s best lt e r h = longest_of bytes i best (omega arith) h (λ kind m gt le.
    let n = m - (i + 1) in let same_m : i + suc n ≡ m = omega arith in subst (λ x. by_class kind (take x bytes) ≡ false) same_m (dead bytes i s lt e r kind n))

pub longest_whole : (bytes : List ℕ) (best : Option (TokenKind × ℕ)) → BestSoFar bytes (length bytes) best → Longest by_class bytes best
longest_whole bytes best h = longest_of bytes (length bytes) best (omega arith) h (λ kind m gt le. absurd (omega arith))
