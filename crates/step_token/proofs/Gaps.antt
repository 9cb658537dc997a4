-- One piece more of a gap.
use Rattle.std.proofs.Common.{ℕ, zero, suc, List, refl, sym, subst, inl, inr}
use Rattle.spec_step.specs.Gaps.{IsPiece, Pieces, Between, IsComment, IsBlankAt}

pieces_more : (s : List ℕ) (n i j k : ℕ) → Pieces s n i j → IsPiece s j k → Pieces s (suc n) i k
pieces_more s zero i j k e p = (k, subst (λ x. IsPiece s x k) (sym e) p, refl)
pieces_more s (suc n) i j k h p = (h.0, h.1, pieces_more s n h.0 j k h.2 p)

pub between_more : (s : List ℕ) (i j k : ℕ) → Between s i j → IsPiece s j k → Between s i k
between_more s i j k h p = (suc h.0, pieces_more s h.0 i j k h.1 p)

pub comment_more : (s : List ℕ) (i j k : ℕ) → Between s i j → IsComment s j k → Between s i k
comment_more s i j k h p = between_more s i j k h (inr p)

pub blank_more : (s : List ℕ) (i j k : ℕ) → Between s i j → IsBlankAt s j k → Between s i k
blank_more s i j k h p = between_more s i j k h (inl p)
