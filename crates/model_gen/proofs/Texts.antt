-- Texts that grew piece by piece.
use Rattle.std.proofs.Common.{◌≡◌, ℕ, List, ◌++◌, ap, ◌∙◌, append_assoc, Result, Ok, Err, OnOk}

pub joined_two : (old p q a b : List ℕ) → p ≡ old ++ a → q ≡ p ++ b → q ≡ old ++ (a ++ b)
joined_two old p q a b first second = second ∙ ap (λ l. l ++ b) first ∙ append_assoc old a b

pub joined_three : (old p q r a b c : List ℕ) → p ≡ old ++ a → q ≡ p ++ b → r ≡ q ++ c → r ≡ old ++ (a ++ b ++ c)
joined_three old p q r a b c first second third = joined_two old q r (a ++ b) c (joined_two old p q a b first second) third

-- what follows from a fact for the answer `Ok`
pub on_ok : {A E : Type 0} (r : Result A E) {P Q : Type 0} → (P → Q) → OnOk r P → OnOk r Q
on_ok (Ok x) f p = f p
on_ok (Err e) f p = tt
