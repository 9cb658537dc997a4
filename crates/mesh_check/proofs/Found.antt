-- The first member of a list that does not pass a test is the first of which does not hold what the test decides.
use Rattle.std.proofs.Common.{◌≡◌, ℕ, suc, ◌+◌, ◌<◌, Bool, true, false, if◌then◌else◌, Some, None, List, [], ◌∷◌, ◌++◌, length, get_or, All, Decides, refl, sym, ap, ◌∙◌, arith}
use Rattle.std.proofs.lemmas.List.Elements.{All-nil, All-cons, All-head, All-tail}
use Rattle.spec_check.specs.Verdicts.{IsFirstNot}
use Rattle.face_check.specs.Sound.{first_not}

-- the member at the place m, counted from n, is the first that does not hold
pub record IsFound {X : Type 0} (P : X → Type 0) (n m : ℕ) (xs : List X) : Type 0 where
  pub before : List X
  pub member : X
  pub after : List X
  pub first : IsFirstNot P xs before member after
  pub place : m ≡ n + length before

module _ {X : Type 0} (test : X → Bool) (Kept P : X → Type 0) (decide : (x : X) → Kept x → Decides (test x) (P x)) where
  pub all_hold : (n : ℕ) (xs : List X) → All Kept xs → first_not test n xs ≡ None → All P xs
  all_hold n [] kept e = All-nil P
  all_hold n (x ∷ xs) kept e = next (test x) refl e (λ rest. all_hold (n + 1) xs (All-tail Kept x xs kept) rest)
    where
      next : (t : Bool) → test x ≡ t → (if t then first_not test (n + 1) xs else Some n) ≡ None → (first_not test (n + 1) xs ≡ None → All P xs) → All P (x ∷ xs)
      next true pass e more = All-cons P x xs ((decide x (All-head Kept x xs kept)).0 pass) (more e)
      next false pass e more = cc

  pub found : (n m : ℕ) (xs : List X) → All Kept xs → first_not test n xs ≡ Some m → IsFound P n m xs
  found n m [] kept e = cc
  found n m (x ∷ xs) kept e = next (test x) refl e (λ rest. found (n + 1) m xs (All-tail Kept x xs kept) rest)
    where
      here : (n m : ℕ) → Some n ≡ Some m → m ≡ n + 0
      here n m e = let same : n ≡ m = cc in omega arith

      later : (n m k : ℕ) → m ≡ n + 1 + k → m ≡ n + suc k
      later n m k e = omega arith

      no : true ≡ false → ⊥
      no e = cc

      next : (t : Bool) → test x ≡ t → (if t then first_not test (n + 1) xs else Some n) ≡ Some m → (first_not test (n + 1) xs ≡ Some m → IsFound P (n + 1) m xs) → IsFound P n m (x ∷ xs)
      next true pass e more = let rest = more e in record {
        before = x ∷ rest.before;
        member = rest.member;
        after = rest.after;
        first = record {
          split = ap (λ ys. x ∷ ys) rest.first.split;
          hold = All-cons P x rest.before ((decide x (All-head Kept x xs kept)).0 pass) rest.first.hold;
          fails = rest.first.fails;
        };
        place = later n m (length rest.before) rest.place;
      }
      next false pass e more = record {
        before = [];
        member = x;
        after = xs;
        first = record { split = refl; hold = All-nil P; fails = λ h. no (sym ((decide x (All-head Kept x xs kept)).1 h) ∙ pass) };
        place = here n m e;
      }

-- where a member stands
pub member_at : {X : Type 0} (xs before : List X) (x : X) (after : List X) (d : X) → xs ≡ before ++ x ∷ after → get_or xs (length before) d ≡ x
member_at xs before x after d e = ap (λ ys. get_or ys (length before) d) e ∙ at before
  where
    at : (ys : List _) → get_or (ys ++ x ∷ after) (length ys) d ≡ x
    at [] = refl
    at (y ∷ ys) = at ys

pub member_below : {X : Type 0} (xs before : List X) (x : X) (after : List X) → xs ≡ before ++ x ∷ after → length before < length xs
member_below xs before x after e = below before (length xs) (ap length e)
  where
    below : (ys : List _) (n : ℕ) → n ≡ length (ys ++ x ∷ after) → length ys < n
    below [] n e = omega arith
    below (y ∷ ys) n e = let rest = below ys (length (ys ++ x ∷ after)) refl in omega arith
