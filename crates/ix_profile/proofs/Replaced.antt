-- Lists whose elements are replaced one after another, in place.
use Rattle.std.proofs.Common.{◌≡◌, ℕ, ◌+◌, ◌<◌, ◌≤◌, List, [], ◌∷◌, ◌++◌, length, map, take, drop, set, get_or, refl, sym, ap, subst, ◌∙◌, arith}
use Rattle.std.specs.Prelude.{All}
use Rattle.std.proofs.lemmas.List.{append_assoc, append-nil, take_more_set, drop-set-lt, drop_more, drop_all, take_all}
use Rattle.std.proofs.lemmas.List.Elements.{All-push, All-drop, All-nil, All-head, All-tail}

-- the first i elements are replaced, and keep Q; those that are left are as they were, and keep P
pub record AreReplaced {X : Type 0} (f : X → X) (P Q : X → Type 0) (old now : List X) (i : ℕ) : Type 0 where
  pub same : take i now ++ map f (drop i now) ≡ map f old
  pub done : All Q (take i now)
  pub left : All P (drop i now)

pub replaced_start : {X : Type 0} (f : X → X) (P Q : X → Type 0) (old : List X) → All P old → AreReplaced f P Q old old 0
replaced_start f P Q old h = record { same = refl; done = All-nil Q; left = h }

pub replaced_here : {X : Type 0} (f : X → X) (P Q : X → Type 0) (old now : List X) (i : ℕ) (d : X) → i < length now → AreReplaced f P Q old now i → P (get_or now i d)
replaced_here f P Q old now i d l h = All-head P (get_or now i d) (drop (i + 1) now) (subst (λ xs. All P xs) (drop_more now i d l) h.left)

pub replaced_step : {X : Type 0} (f : X → X) (P Q : X → Type 0) (old now : List X) (i : ℕ) (d v : X) → i < length now → v ≡ f (get_or now i d) → Q v → AreReplaced f P Q old now i → AreReplaced f P Q old (set now i v) (i + 1)
replaced_step f P Q old now i d v l e q h =
    let more = take_more_set now i v l in
    let after : drop (i + 1) (set now i v) ≡ drop (i + 1) now = drop-set-lt (i + 1) now i v (next i) in
    let here = drop_more now i d l in
    record {
      same =
          ap (λ xs. xs ++ map f (drop (i + 1) (set now i v))) more
          ∙ ap (λ xs. (take i now ++ v ∷ []) ++ map f xs) after
          ∙ append_assoc (take i now) (v ∷ []) (map f (drop (i + 1) now))
          ∙ ap (λ w. take i now ++ (w ∷ map f (drop (i + 1) now))) e
          ∙ ap (λ xs. take i now ++ map f xs) (sym here)
          ∙ h.same;
      done = subst (λ xs. All Q xs) (sym more) (All-push Q (take i now) v h.done q);
      left = subst (λ xs. All P xs) (sym after) (All-tail P (get_or now i d) (drop (i + 1) now) (subst (λ xs. All P xs) here h.left));
    }
  where
    next : (i : ℕ) → i < i + 1
    next i = omega arith

pub replaced_all : {X : Type 0} (f : X → X) (P Q : X → Type 0) (old now : List X) (i : ℕ) → length now ≤ i → AreReplaced f P Q old now i → now ≡ map f old
replaced_all f P Q old now i l h =
    sym (append-nil now) ∙ ap (λ xs. xs ++ []) (sym (take_all i now l)) ∙ ap (λ xs. take i now ++ map f xs) (sym (drop_all i now l)) ∙ h.same

pub replaced_done : {X : Type 0} (f : X → X) (P Q : X → Type 0) (old now : List X) (i : ℕ) → length now ≤ i → AreReplaced f P Q old now i → All Q now
replaced_done f P Q old now i l h = subst (λ xs. All Q xs) (take_all i now l) h.done
