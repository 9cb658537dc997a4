-- The places of corners in a list where no corner stands twice.
use Rattle.std.proofs.Common.{◌≡◌, ◌≢◌, ℕ, zero, suc, ◌<◌, Bool, true, false, true≢false, cond, List, [], ◌∷◌, ◌++◌, Some, None, Option, map, length, slice_get, ℤ, pos, ◌<ℤ◌, inl, inr, refl, sym, ap, ap₂, ◌∙◌, subst, arith}
use Rattle.std.proofs.lemmas.Int.{ints}
use Rattle.spec_space.specs.declared.Point.{Point}
use Rattle.spec_space.specs.Points.{IsPoint}
use Rattle.plane_core.specs.declared.numbers.Corner.{Corner}
use Rattle.plane_core.specs.Views.{point_of}
use Rattle.convex_cycles.proofs.Lists.{Each, EachPair, Member, each_member}
use Rattle.line_turns.proofs.Chains.{last_from}
use Rattle.line_turns.proofs.Rounds.{front_from}
use Rattle.edge_cut.specs.Cuts.{CutSide, corners_along}
use Rattle.corner_book.proofs.Same.{corner_eq, corner_eq-Decides}
use Rattle.edge_cut.specs.Seen.{AreAt}

-- the place of a corner
abbrev pub place_of : List Corner → Corner → ℕ
place_of [] c = 0
place_of (d ∷ ds) c = cond (corner_eq c d) 0 (suc (place_of ds c))

same_some : (c d : Corner) → Some c ≡ Some d → c ≡ d
same_some c d e = cc

member_at : (cs : List Corner) (p : ℕ) (c : Corner) → slice_get cs p ≡ Some c → Member c cs
member_at [] p c e = cc
member_at (d ∷ ds) zero c e = inl (sym (same_some d c e))
member_at (d ∷ ds) (suc p) c e = inr (member_at ds p c e)

pub at-Member : (cs : List Corner) (p : ℕ) (c : Corner) → slice_get cs p ≡ Some c → Member c cs
at-Member cs p c e = member_at cs p c e

place_here : (d : Corner) (ds : List Corner) (c : Corner) → c ≡ d → place_of (d ∷ ds) c ≡ 0
place_here d ds c e = ap (λ b. cond b 0 (suc (place_of ds c))) ((corner_eq-Decides c d).1 e)

differs : (c d : Corner) → (c ≡ d → ⊥) → corner_eq c d ≡ false
differs c d apart = by (corner_eq c d) refl
  where
    by : (b : Bool) → corner_eq c d ≡ b → b ≡ false
    by true e = absurd (apart ((corner_eq-Decides c d).0 e))
    by false e = refl

-- a corner has one place
pub place_is : (cs : List Corner) (p : ℕ) (c : Corner) → EachPair (λ c d. c ≢ d) cs → slice_get cs p ≡ Some c → place_of cs c ≡ p
place_is [] p c distinct e = cc
place_is (d ∷ ds) zero c distinct e = place_here d ds c (sym (same_some d c e))
place_is (d ∷ ds) (suc p) c distinct e =
    ap (λ b. cond b 0 (suc (place_of ds c))) (differs c d (λ same. each_member (λ x. d ≢ x) c ds (member_at ds p c e) distinct.0 (sym same)))
    ∙ ap suc (place_is ds p c distinct.1 e)

pub at_place : (cs : List Corner) (c : Corner) → Member c cs → slice_get cs (place_of cs c) ≡ Some c
at_place [] c m = absurd m
at_place (d ∷ ds) c m = by (corner_eq c d) refl (at_place ds c) m
  where
    by : (b : Bool) → corner_eq c d ≡ b → (Member c ds → slice_get ds (place_of ds c) ≡ Some c) → Member c (d ∷ ds) → slice_get (d ∷ ds) (cond b 0 (suc (place_of ds c))) ≡ Some c
    by true e rest m = ap Some (sym ((corner_eq-Decides c d).0 e))
    by false e rest (inl same) = absurd (true≢false (sym ((corner_eq-Decides c d).1 same) ∙ e))
    by false e rest (inr m) = rest m

-- corners at places
pub places_are : (cs : List Corner) (ps : List ℕ) (seen : List Corner) → EachPair (λ c d. c ≢ d) cs → AreAt cs ps seen → ps ≡ map (place_of cs) seen
places_are cs [] [] distinct a = refl
places_are cs (p ∷ ps) (c ∷ seen) distinct a = λ i. sym (place_is cs p c distinct a.0) i ∷ places_are cs ps seen distinct a.1 i
places_are cs _ _ distinct a = absurd a

pub seen_members : (cs : List Corner) (ps : List ℕ) (seen : List Corner) → AreAt cs ps seen → Each (λ c. Member c cs) seen
seen_members cs [] [] a = tt
seen_members cs (p ∷ ps) (c ∷ seen) a = (member_at cs p c a.0, seen_members cs ps seen a.1)
seen_members cs _ _ a = absurd a

-- ---- the points of corners
-- what a place without a corner stands for
abbrev nowhere : Point
nowhere = record { x = pos 0; y = pos 0; z = pos 0; w = pos 1 }

abbrev pub point_by : Option Corner → Point
point_by None = nowhere
point_by (Some c) = point_of c

abbrev pub point_at : List Corner → ℕ → Point
point_at cs i = point_by (slice_get cs i)

pub point-at_place : (cs : List Corner) (c : Corner) → Member c cs → point_at cs (place_of cs c) ≡ point_of c
point-at_place cs c m = ap point_by (at_place cs c m)

pub point_at-IsPoint : (cs : List Corner) (i : ℕ) → IsPoint (point_at cs i)
point_at-IsPoint cs i = by (slice_get cs i)
  where
    by : (o : Option Corner) → IsPoint (point_by o)
    by None = one
      where
        one : pos 0 <ℤ pos 1
        one = omega (arith, ints)
    by (Some c) = c.positive

-- the corner at a place
pub corner_at : (cs : List Corner) (i : ℕ) → i < length cs → (c : Corner) × (slice_get cs i ≡ Some c)
corner_at [] i h = absurd (omega (arith, h))
corner_at (c ∷ cs) zero h = (c, refl)
corner_at (c ∷ cs) (suc i) h = corner_at cs i (omega (arith, h))

-- ---- the places along a cut edge, from its start to its end
abbrev pub chain_of : List Corner → CutSide → ℕ × List ℕ
chain_of corners k = (place_of corners k.side.start, map (place_of corners) (k.inside ++ k.side.end ∷ []))

last_mapped : (corners : List Corner) (c : Corner) (cs : List Corner) → last_from (place_of corners c) (map (place_of corners) cs) ≡ place_of corners (last_from c cs)
last_mapped corners c [] = refl
last_mapped corners c (d ∷ ds) = last_mapped corners d ds

last_is : (c z : Corner) (cs : List Corner) → last_from c (cs ++ z ∷ []) ≡ z
last_is c z [] = refl
last_is c z (d ∷ ds) = last_is d z ds

pub chain_end : (corners : List Corner) (k : CutSide) → last_from (chain_of corners k).0 (chain_of corners k).1 ≡ place_of corners k.side.end
chain_end corners k = last_mapped corners k.side.start (k.inside ++ k.side.end ∷ []) ∙ ap (place_of corners) (last_is k.side.start k.side.end k.inside)

front_mapped : (corners : List Corner) (c z : Corner) (cs : List Corner) → front_from (place_of corners c) (map (place_of corners) (cs ++ z ∷ [])) ≡ map (place_of corners) (c ∷ cs)
front_mapped corners c z [] = refl
front_mapped corners c z (d ∷ ds) = ap (λ ps. place_of corners c ∷ ps) (front_mapped corners d z ds)

pub chain_front : (corners : List Corner) (k : CutSide) → front_from (chain_of corners k).0 (chain_of corners k).1 ≡ map (place_of corners) (corners_along k)
chain_front corners k = front_mapped corners k.side.start k.side.end k.inside
