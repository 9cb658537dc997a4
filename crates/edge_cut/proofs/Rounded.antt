-- A round, made edge by edge.
use Rattle.std.proofs.Common.{◌≡◌, ℕ, ◌+◌, ◌<◌, ◌≤◌, List, [], ◌∷◌, ◌++◌, map, take, length, get_or, All, refl, sym, ap, ap₂, ◌∙◌}
use Rattle.std.specs.List.{flat_map}
use Rattle.std.proofs.lemmas.List.{take_more, take_all, append-nil, append_assoc}
use Rattle.std.proofs.lemmas.List.Elements.{All-nil, All-push}
use Rattle.std.proofs.lemmas.Grind.{flat_map-append}
use Rattle.plane_core.specs.declared.numbers.Plane.{Plane as BookPlane}
use Rattle.plane_core.specs.declared.numbers.Corner.{Corner}
use Rattle.plane_core.specs.declared.book.PlaneId.{PlaneId}
use Rattle.poly_frag.specs.declared.frag.Edge.{Edge}
use Rattle.edge_cut.specs.declared.sides.Side.{Side}
use Rattle.edge_cut.specs.declared.sides.Outline.{Outline}
use Rattle.edge_cut.specs.declared.round.Round.{Round}
use Rattle.edge_cut.specs.Cuts.{CutSide, edges_along, corners_along}
use Rattle.edge_cut.specs.Rounds.{HasCut, IsCut, IsRoundOf}

-- the sides so far, cut
pub record IsRoundSoFar (planes : List BookPlane) (cutting : List Corner) (support : PlaneId) (sides : List Side) (round : Round) : Type 0 where
  pub cuts : List CutSide
  pub sides_are : map (λ c. c.side) cuts ≡ sides
  pub cut : All (IsCut planes cutting support) cuts
  pub edges : round.edges.items ≡ flat_map edges_along cuts
  pub corners : round.corners.items ≡ flat_map corners_along cuts

pub round_start : (planes : List BookPlane) (cutting : List Corner) (support : PlaneId) (round : Round) → round.edges.items ≡ [] → round.corners.items ≡ [] → IsRoundSoFar planes cutting support [] round
round_start planes cutting support round e f = record { cuts = []; sides_are = refl; cut = All-nil (IsCut planes cutting support); edges = e; corners = f }

cut_push : (cuts : List CutSide) (cut : CutSide) → map (λ c. c.side) (cuts ++ cut ∷ []) ≡ map (λ c. c.side) cuts ++ cut.side ∷ []
cut_push [] cut = refl
cut_push (c ∷ cuts) cut = ap (λ ss. c.side ∷ ss) (cut_push cuts cut)

last_flat : {X : Type 0} (f : CutSide → List X) (cuts : List CutSide) (cut : CutSide) → flat_map f (cuts ++ cut ∷ []) ≡ flat_map f cuts ++ f cut
last_flat f cuts cut = flat_map-append f cuts (cut ∷ []) ∙ ap (λ xs. flat_map f cuts ++ xs) (append-nil (f cut))

pub round_next : (planes : List BookPlane) (cutting : List Corner) (support : PlaneId) (sides : List Side) (i : ℕ) (s : Side) (old new : Round) → i < length sides → s ≡ get_or sides i s
    → HasCut planes cutting support s old new → IsRoundSoFar planes cutting support (take i sides) old → IsRoundSoFar planes cutting support (take (i + 1) sides) new
round_next planes cutting support sides i s old new below at has far =
    let cut : CutSide = record { side = s; inside = has.inside } in
    record {
      cuts = far.cuts ++ cut ∷ [];
      sides_are = cut_push far.cuts cut ∙ ap₂ (λ ss t. ss ++ t ∷ []) far.sides_are at ∙ sym (take_more sides i s below);
      cut = All-push (IsCut planes cutting support) far.cuts cut far.cut has.stretch;
      edges = has.edges ∙ ap (λ es. es ++ edges_along cut) far.edges ∙ sym (last_flat edges_along far.cuts cut);
      corners = has.corners ∙ ap (λ cs. cs ++ corners_along cut) far.corners ∙ sym (last_flat corners_along far.cuts cut);
    }

pub round_all : (planes : List BookPlane) (cutting : List Corner) (w : Outline) (round : Round) (i : ℕ) → length w.sides.items ≤ i → IsRoundSoFar planes cutting w.support (take i w.sides.items) round → IsRoundOf planes cutting w round
round_all planes cutting w round i all far = record { cuts = far.cuts; sides = far.sides_are ∙ take_all i w.sides.items all; cut = far.cut; edges = far.edges; corners = far.corners }

-- ---- the parts of one edge
pub edges_next : (old mid new : List Edge) (e : Edge) (inside : List Corner) (i : ℕ) (d : Corner) → i < length inside → new ≡ mid ++ e ∷ [] → mid ≡ old ++ map (λ c. e) (take i inside) → new ≡ old ++ map (λ c. e) (take (i + 1) inside)
edges_next old mid new e inside i d below items h =
    items ∙ ap (λ es. es ++ e ∷ []) h ∙ append_assoc old (map (λ c. e) (take i inside)) (e ∷ [])
    ∙ ap (λ es. old ++ es) (sym (const_push e (take i inside) (get_or inside i d)) ∙ ap (map (λ c. e)) (sym (take_more inside i d below)))
  where
    const_push : (e : Edge) (cs : List Corner) (c : Corner) → map (λ c. e) (cs ++ c ∷ []) ≡ map (λ c. e) cs ++ e ∷ []
    const_push e [] c = refl
    const_push e (x ∷ cs) c = ap (λ es. e ∷ es) (const_push e cs c)

pub corners_next : (old mid new : List Corner) (inside : List Corner) (i : ℕ) (c : Corner) → i < length inside → c ≡ get_or inside i c → new ≡ mid ++ c ∷ [] → mid ≡ old ++ take i inside → new ≡ old ++ take (i + 1) inside
corners_next old mid new inside i c below at items h =
    items ∙ ap (λ cs. cs ++ c ∷ []) h ∙ append_assoc old (take i inside) (c ∷ [])
    ∙ ap (λ cs. old ++ cs) (ap (λ d. take i inside ++ d ∷ []) at ∙ sym (take_more inside i c below))

-- first the start, then the corners inside
pub two_pushes : {X : Type 0} (old mid new : List X) (x : X) (xs : List X) → mid ≡ old ++ x ∷ [] → new ≡ mid ++ xs → new ≡ old ++ x ∷ xs
two_pushes old mid new x xs e f = f ∙ ap (λ ys. ys ++ xs) e ∙ append_assoc old (x ∷ []) xs
