-- A text that is appended to a page piece by piece.
use Rattle.std.proofs.Common.{◌≡◌, ℕ, suc, ◌+◌, ◌<◌, ◌≤◌, List, [], ◌++◌, length, drop, get_or, Result, Ok, Err, IsErr, refl, sym, ap, subst, ◌∙◌, append_assoc, append-nil, add-one, drop_of_length-le, is_ok, true≢false, if◌then◌else◌}
use Rattle.std.proofs.Math.Seq.{drop-cons}
use Rattle.std.specs.List.{flat_map}
use Rattle.world_print.specs.Appended.{IsAppendedInPart, IsAppended}

-- the page is its old text and a prefix of the text, of which this rest is still to come
pub record IsBegun (old now rest text : List ℕ) : Type 0 where
  pub prefix : List ℕ
  pub grown : now ≡ old ++ prefix
  pub whole : prefix ++ rest ≡ text

-- before the first piece
pub begun : {old text : List ℕ} (rest : List ℕ) → rest ≡ text → IsBegun old old rest text
begun {old} rest e = record { prefix = []; grown = sym (append-nil old); whole = e }

-- a piece more
pub one_more : {old p q rest text : List ℕ} (piece : List ℕ) → IsBegun old p (piece ++ rest) text → q ≡ p ++ piece → IsBegun old q rest text
one_more {old} {p} {q} {rest} piece so_far e = record {
  prefix = so_far.prefix ++ piece;
  grown = e ∙ ap (λ l. l ++ piece) so_far.grown ∙ append_assoc old so_far.prefix piece;
  whole = append_assoc so_far.prefix piece rest ∙ so_far.whole;
}

-- nothing is left to come
pub complete : {old p text : List ℕ} → IsBegun old p [] text → p ≡ old ++ text
complete {old} so_far = so_far.grown ∙ ap (λ l. old ++ l) (sym (append-nil so_far.prefix) ∙ so_far.whole)

-- a call failed that changed nothing
pub stopped : {old p q rest text : List ℕ} → IsBegun old p rest text → q ≡ p → IsAppendedInPart old q text
stopped {old} {p} {q} {rest} so_far e = record { prefix = so_far.prefix; rest = rest; grown = e ∙ so_far.grown; whole = so_far.whole }

-- a call failed that appended a prefix of its piece
pub stopped_in : {old p q text : List ℕ} (piece rest : List ℕ) → IsBegun old p (piece ++ rest) text → IsAppendedInPart p q piece → IsAppendedInPart old q text
stopped_in {old} {p} {q} piece rest so_far part = record {
  prefix = so_far.prefix ++ part.prefix;
  rest = part.rest ++ rest;
  grown = part.grown ∙ ap (λ l. l ++ part.prefix) so_far.grown ∙ append_assoc old so_far.prefix part.prefix;
  whole =
      append_assoc so_far.prefix part.prefix (part.rest ++ rest)
      ∙ ap (λ l. so_far.prefix ++ l) (sym (append_assoc part.prefix part.rest rest) ∙ ap (λ l. l ++ rest) part.whole)
      ∙ so_far.whole;
}

at_end : {old p piece text : List ℕ} → IsBegun old p piece text → IsBegun old p (piece ++ []) text
at_end {piece = piece} so_far = record { prefix = so_far.prefix; grown = so_far.grown; whole = ap (λ l. so_far.prefix ++ l) (append-nil piece) ∙ so_far.whole }

-- the last piece
pub last : {T E : Type 0} {old p piece text : List ℕ} (q : List ℕ) (r : Result T E) → IsBegun old p piece text → IsAppended r p q piece → IsAppended r old q text
last {piece = piece} q (Ok x) so_far e = complete (one_more piece (at_end so_far) e)
last {piece = piece} q (Err x) so_far part = stopped_in piece [] (at_end so_far) part

-- the last piece, by a call that appends all or nothing
pub last_whole : {T E : Type 0} {old p piece text : List ℕ} (q : List ℕ) (r : Result T E) → IsBegun old p piece text → q ≡ (if is_ok r then p ++ piece else p) → IsAppended r old q text
last_whole {piece = piece} q (Ok x) so_far e = complete (one_more piece (at_end so_far) e)
last_whole q (Err x) so_far e = stopped so_far e

-- a call failed, and so does the caller
pub refused : {T E : Type 0} {old now text : List ℕ} (r : Result T E) → IsErr r → IsAppendedInPart old now text → IsAppended r old now text
refused (Ok x) h part = absurd (true≢false (sym h))
refused (Err x) h part = part

-- ---- texts of several pieces, before the first
nested_three : (a b c : List ℕ) → a ++ (b ++ c) ≡ a ++ b ++ c
nested_three a b c = sym (append_assoc a b c)

nested_four : (a b c d : List ℕ) → a ++ (b ++ (c ++ d)) ≡ a ++ b ++ c ++ d
nested_four a b c d = nested_three a b (c ++ d) ∙ nested_three (a ++ b) c d

nested_five : (a b c d e : List ℕ) → a ++ (b ++ (c ++ (d ++ e))) ≡ a ++ b ++ c ++ d ++ e
nested_five a b c d e = nested_four a b c (d ++ e) ∙ nested_three (a ++ b ++ c) d e

nested_six : (a b c d e f : List ℕ) → a ++ (b ++ (c ++ (d ++ (e ++ f)))) ≡ a ++ b ++ c ++ d ++ e ++ f
nested_six a b c d e f = nested_five a b c d (e ++ f) ∙ nested_three (a ++ b ++ c ++ d) e f

pub begun_two : {old : List ℕ} (a b : List ℕ) → IsBegun old old (a ++ b) (a ++ b)
begun_two a b = begun (a ++ b) refl

pub begun_three : {old : List ℕ} (a b c : List ℕ) → IsBegun old old (a ++ (b ++ c)) (a ++ b ++ c)
begun_three a b c = begun (a ++ (b ++ c)) (nested_three a b c)

pub begun_four : {old : List ℕ} (a b c d : List ℕ) → IsBegun old old (a ++ (b ++ (c ++ d))) (a ++ b ++ c ++ d)
begun_four a b c d = begun (a ++ (b ++ (c ++ d))) (nested_four a b c d)

pub begun_five : {old : List ℕ} (a b c d e : List ℕ) → IsBegun old old (a ++ (b ++ (c ++ (d ++ e)))) (a ++ b ++ c ++ d ++ e)
begun_five a b c d e = begun (a ++ (b ++ (c ++ (d ++ e)))) (nested_five a b c d e)

pub begun_six : {old : List ℕ} (a b c d e f : List ℕ) → IsBegun old old (a ++ (b ++ (c ++ (d ++ (e ++ f))))) (a ++ b ++ c ++ d ++ e ++ f)
begun_six a b c d e f = begun (a ++ (b ++ (c ++ (d ++ (e ++ f))))) (nested_six a b c d e f)

-- ---- a text for each item of a list
-- the items from one on that are still to come, and the next of them
pub item_more : {X : Type 0} {old p q text : List ℕ} (f : X → List ℕ) (xs : List X) (i : ℕ) (d : X) → i < length xs → IsBegun old p (flat_map f (drop i xs)) text → q ≡ p ++ f (get_or xs i d) → IsBegun old q (flat_map f (drop (i + 1) xs)) text
item_more {old = old} {p} {q} {text} f xs i d lt so_far e =
    subst (λ k. IsBegun old q (flat_map f (drop k xs)) text) (sym (add-one i))
    (one_more (f (get_or xs i d)) (subst (λ l. IsBegun old p (flat_map f l) text) (drop-cons xs i d lt) so_far) e)

pub item_stopped : {X : Type 0} {old p q text : List ℕ} (f : X → List ℕ) (xs : List X) (i : ℕ) (d : X) → i < length xs → IsBegun old p (flat_map f (drop i xs)) text → IsAppendedInPart p q (f (get_or xs i d)) → IsAppendedInPart old q text
item_stopped {old = old} {p} {text = text} f xs i d lt so_far part =
    stopped_in (f (get_or xs i d)) (flat_map f (drop (suc i) xs)) (subst (λ l. IsBegun old p (flat_map f l) text) (drop-cons xs i d lt) so_far) part

pub items_complete : {X : Type 0} {old p text : List ℕ} (f : X → List ℕ) (xs : List X) (i : ℕ) → length xs ≤ i → IsBegun old p (flat_map f (drop i xs)) text → p ≡ old ++ text
items_complete {old = old} {p} {text} f xs i le so_far = complete (subst (λ l. IsBegun old p (flat_map f l) text) (drop_of_length-le xs le) so_far)
