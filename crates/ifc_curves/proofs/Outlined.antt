-- What the loops of profiles keep.
use Rattle.std.proofs.Common.{◌≡◌, ℕ, ◌≤◌, T, leb, List, [], ◌∷◌, ◌++◌, length, length-append, subst, sym, arith}
use Rattle.std.specs.Prelude.{All}
use Rattle.std.proofs.lemmas.List.Elements.{All-nil, All-cons, All-push, All-weaker}
use Rattle.spec_space.specs.declared.Vector.{Vector}
use Rattle.spec_place.specs.Vectors.{IsWithin}
use Rattle.ix_place.proofs.Sizes.{wider}
use Rattle.ix_profile.specs.Outlines.{IsOutline}

pub one_outline : (n : ℕ) (l : List Vector) (loops : List (List Vector)) → loops ≡ l ∷ [] → 3 ≤ length l → All (IsWithin n) l → IsOutline n loops
one_outline n l loops e long within = subst (λ ls. IsOutline n ls) (sym e) (record {
  some = omega arith;
  long = All-cons (λ l. 3 ≤ length l) l [] long (All-nil (λ l. 3 ≤ length l));
  within = All-cons (All (IsWithin n)) l [] within (All-nil (All (IsWithin n)));
})

some_pushed : (before : List (List Vector)) (l : List Vector) → 1 ≤ length before → 1 ≤ length (before ++ l ∷ [])
some_pushed before l h = let e = length-append before (l ∷ []) in omega (arith, e, h)

pub more_outline : (n : ℕ) (before : List (List Vector)) (l : List Vector) (loops : List (List Vector)) → loops ≡ before ++ l ∷ [] → IsOutline n before → 3 ≤ length l → All (IsWithin n) l
    → IsOutline n loops
more_outline n before l loops e h long within = subst (λ ls. IsOutline n ls) (sym e) (record {
  some = some_pushed before l h.some;
  long = All-push (λ l. 3 ≤ length l) before l h.long long;
  within = All-push (All (IsWithin n)) before l h.within within;
})

pub wider_outline : {m n : ℕ} (loops : List (List Vector)) → IsOutline m loops → T (leb m n) → IsOutline n loops
wider_outline {m} {n} loops h t = record {
  some = h.some;
  long = h.long;
  within = All-weaker (All (IsWithin m)) (All (IsWithin n)) (λ l k. All-weaker (IsWithin m) (IsWithin n) (λ v w. wider v {m = m} {n = n} w t) l k) loops h.within;
}
