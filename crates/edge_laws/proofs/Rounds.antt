-- The round of a face from the chains of its piece.
use Rattle.std.proofs.Common.{◌≡◌, ◌≢◌, ◌⊎◌, inl, inr, ℕ, Bool, true, false, true≢false, ◌&&◌, cond, List, [], ◌∷◌, ◌++◌, map, reverse, ℤ, refl, sym, ap, ap₂, ◌∙◌, subst}
use Rattle.std.specs.List.{flat_map}
use Rattle.std.specs.Ordering.{int_eq}
use Rattle.std.proofs.lemmas.Bool.Decides.{Decides-int_eq}
use Rattle.spec_space.specs.declared.Point.{Point}
use Rattle.spec_page.specs.Element.{Face}
use Rattle.plane_core.specs.declared.numbers.Plane.{Plane as BookPlane}
use Rattle.plane_core.specs.declared.numbers.Corner.{Corner}
use Rattle.plane_core.specs.Views.{point_of}
use Rattle.convex_cycles.specs.Cycles.{Step}
use Rattle.convex_cycles.proofs.Lists.{Each, EachPair, Member, each_member, each_from_members, joined}
use Rattle.poly_frag.specs.declared.frag.Frag.{Frag}
use Rattle.line_turns.proofs.Chains.{last_from}
use Rattle.line_turns.proofs.Rounds.{front_from, AreLinked, fronts}
use Rattle.line_turns.proofs.EdgeCounts.{places_seen}
use Rattle.edge_cut.specs.Seen.{corners_seen, AreAt}
use Rattle.edge_cut.proofs.Reversed.{map-append, map-reverse}
use Rattle.edge_cut.specs.declared.sides.Side.{Side}
use Rattle.edge_cut.specs.Sides.{AreSides, step_of}
use Rattle.edge_cut.specs.Cuts.{CutSide, corners_along}
use Rattle.edge_cut.proofs.Steps.{steps_of, AreChainedSides, round_sides}
use Rattle.edge_laws.proofs.Named.{place_of, places_are, chain_of, chain_end, chain_front}

-- ---- the chain that begins at a point
abbrev pub chain_at : List Corner → List CutSide → Point → ℕ × List ℕ
chain_at corners [] p = (0, [])
chain_at corners (k ∷ ks) p = cond (int_eq p.x k.side.start.x && (int_eq p.y k.side.start.y && (int_eq p.z k.side.start.z && int_eq p.w k.side.start.w))) (chain_of corners k) (chain_at corners ks p)

both : (a b : Bool) → (a && b) ≡ true → (a ≡ true) × (b ≡ true)
both true b e = (refl, e)
both false b e = absurd (true≢false (sym e))

number_same : (x y : ℤ) → int_eq x y ≡ true → x ≡ y
number_same x y e = (Decides-int_eq x y).0 e

own_number : (x : ℤ) → int_eq x x ≡ true
own_number x = (Decides-int_eq x x).1 refl

point_same : (p : Point) (c : Corner) → (int_eq p.x c.x && (int_eq p.y c.y && (int_eq p.z c.z && int_eq p.w c.w))) ≡ true → p ≡ point_of c
point_same p c e =
    let s = both (int_eq p.x c.x) (int_eq p.y c.y && (int_eq p.z c.z && int_eq p.w c.w)) e in
    let t = both (int_eq p.y c.y) (int_eq p.z c.z && int_eq p.w c.w) s.1 in
    let u = both (int_eq p.z c.z) (int_eq p.w c.w) t.1 in
    λ i. record { x = number_same p.x c.x s.0 i; y = number_same p.y c.y t.0 i; z = number_same p.z c.z u.0 i; w = number_same p.w c.w u.1 i }

own_point : (c : Corner) → (int_eq c.x c.x && (int_eq c.y c.y && (int_eq c.z c.z && int_eq c.w c.w))) ≡ true
own_point c = ap₂ (λ a b. a && b) (own_number c.x) (ap₂ (λ a b. a && b) (own_number c.y) (ap₂ (λ a b. a && b) (own_number c.z) (own_number c.w)))

-- where the starts differ, each edge has its own chain
abbrev pub StartsDiffer : CutSide → CutSide → Type 0
StartsDiffer k l = point_of k.side.start ≢ point_of l.side.start

chain_here : (corners : List Corner) (k : CutSide) (ks : List CutSide) → chain_at corners (k ∷ ks) (point_of k.side.start) ≡ chain_of corners k
chain_here corners k ks = ap (λ b. cond b (chain_of corners k) (chain_at corners ks (point_of k.side.start))) (own_point k.side.start)

chain_later : (corners : List Corner) (k : CutSide) (ks : List CutSide) (l : CutSide) → StartsDiffer k l → chain_at corners (k ∷ ks) (point_of l.side.start) ≡ chain_at corners ks (point_of l.side.start)
chain_later corners k ks l apart = by (int_eq l.side.start.x k.side.start.x && (int_eq l.side.start.y k.side.start.y && (int_eq l.side.start.z k.side.start.z && int_eq l.side.start.w k.side.start.w))) refl
  where
    by : (b : Bool) → (int_eq l.side.start.x k.side.start.x && (int_eq l.side.start.y k.side.start.y && (int_eq l.side.start.z k.side.start.z && int_eq l.side.start.w k.side.start.w))) ≡ b
        → cond b (chain_of corners k) (chain_at corners ks (point_of l.side.start)) ≡ chain_at corners ks (point_of l.side.start)
    by true e = absurd (apart (sym (point_same (point_of l.side.start) k.side.start e)))
    by false e = refl

pub chain_found : (corners : List Corner) (ks : List CutSide) → EachPair StartsDiffer ks → (k : CutSide) → Member k ks → chain_at corners ks (point_of k.side.start) ≡ chain_of corners k
chain_found corners [] apart k m = absurd m
chain_found corners (l ∷ ls) apart k (inl same) = subst (λ x. chain_at corners (l ∷ ls) (point_of x.side.start) ≡ chain_of corners x) (sym same) (chain_here corners l ls)
chain_found corners (l ∷ ls) apart k (inr m) = chain_later corners l ls k (each_member (StartsDiffer l) k ls m apart.0) ∙ chain_found corners ls apart.1 k m

-- ---- the round
module _ (planes : List BookPlane) (corners : List Corner) (chain : Step → ℕ × List ℕ) where
  abbrev pub HasOwnChain : CutSide → Type 0
  HasOwnChain k = chain (step_of planes k.side) ≡ chain_of corners k

  abbrev steps : List CutSide → List Step
  steps ks = steps_of planes (map (λ k. k.side) ks)

  links : (k : CutSide) (ks : List CutSide) (z : Side) → Each HasOwnChain (k ∷ ks) → AreChainedSides k.side (map (λ k. k.side) ks) z → AreLinked chain (place_of corners k.side.start) (steps (k ∷ ks)) (place_of corners z.start)
  links k [] z own c = (ap (λ ch. ch.0) own.0, ap (λ ch. last_from ch.0 ch.1) own.0 ∙ chain_end corners k ∙ ap (place_of corners) c.0)
  links k (l ∷ ls) z own c = (
    ap (λ ch. ch.0) own.0,
    subst (λ a. AreLinked chain a (steps (l ∷ ls)) (place_of corners z.start)) (sym (ap (λ ch. last_from ch.0 ch.1) own.0 ∙ chain_end corners k ∙ ap (place_of corners) c.0.0)) (links l ls z own.1 c.1),
  )

  pub round_linked : (f : Frag) (ks : List CutSide) → AreSides planes f (map (λ k. k.side) ks) → Each HasOwnChain ks → (first : ℕ) × AreLinked chain first (steps ks) first
  round_linked f [] are own = (0, refl)
  round_linked f (k ∷ ks) are own = (place_of corners k.side.start, links k ks k.side own (round_sides planes f k.side (map (λ k. k.side) ks) are))

  pub round_fronts : (ks : List CutSide) → Each HasOwnChain ks → fronts chain (steps ks) ≡ map (place_of corners) (flat_map corners_along ks)
  round_fronts [] own = refl
  round_fronts (k ∷ ks) own =
      ap₂ (λ xs ys. xs ++ ys) (ap (λ ch. front_from ch.0 ch.1) own.0 ∙ chain_front corners k) (round_fronts ks own.1)
      ∙ sym (map-append (place_of corners) (corners_along k) (flat_map corners_along ks))

  -- the face's places, as they are seen
  seen_places : (b : Bool) (cs : List Corner) → map (place_of corners) (corners_seen b cs) ≡ places_seen b (map (place_of corners) cs)
  seen_places true cs = refl
  seen_places false cs = map-reverse (place_of corners) cs

  pub round_places : (b : Bool) (ks : List CutSide) (ps : List ℕ) → EachPair (λ c d. c ≢ d) corners → Each HasOwnChain ks → AreAt corners ps (corners_seen b (flat_map corners_along ks)) → ps ≡ places_seen b (fronts chain (steps ks))
  round_places b ks ps distinct own a =
      places_are corners ps (corners_seen b (flat_map corners_along ks)) distinct a
      ∙ seen_places b (flat_map corners_along ks)
      ∙ ap (places_seen b) (sym (round_fronts ks own))
