-- Where the next token stands.
use Rattle.std.proofs.Common.{ℕ, ◌≡◌, ◌+◌, ◌<◌, ◌≤◌, zero, suc, List, length, arith, length-drop, inl, inr}
use Rattle.spec_step.specs.Gaps.{IsPiece, Pieces, IsNext}
use Rattle.spec_step.specs.declared.token.Token.{Token}
use Rattle.spec_step.specs.declared.token.TokenStep.TheVariants.{Got}

piece_up : (s : List ℕ) (i j : ℕ) → IsPiece s i j → i ≤ j
piece_up s i j (inl p) = let e : j ≡ i + 1 = p.2 in omega arith
piece_up s i j (inr p) = let room : i + 4 ≤ j = p.room in omega arith

pieces_up : (s : List ℕ) (n i j : ℕ) → Pieces s n i j → i ≤ j
pieces_up s zero i j h = omega arith
pieces_up s (suc n) i j h =
    let here : i ≤ h.0 = piece_up s i h.0 h.1 in
    let rest : h.0 ≤ j = pieces_up s n h.0 j h.2 in
    omega arith

pub got_from : (s : List ℕ) (from : ℕ) (t : Token) → IsNext s from (Got t) → from ≤ t.from
got_from s from t h = pieces_up s h.0.gap.0 from t.from h.0.gap.1

pub got_behind : (s : List ℕ) (from : ℕ) (t : Token) → IsNext s from (Got t) → from < t.end
got_behind s from t h = let behind : from ≤ t.from = got_from s from t h in omega (arith, h.1)

pub got_end : (s : List ℕ) (from : ℕ) (t : Token) → IsNext s from (Got t) → t.end ≤ length s
got_end s from t h = omega (arith, h.0.within, h.1, h.2.within, length-drop t.from s)
