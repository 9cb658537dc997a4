-- The sides of the edges after a cut, by the flags of the corners.
use Rattle.std.proofs.Common.{◌≡◌, Bool, true, false, List, [], ◌∷◌, ◌++◌, map, refl, ap, ◌∙◌}
use Rattle.spec_space.specs.declared.Plane.{Plane}
use Rattle.convex_cycles.specs.Sides.{is_in_front}
use Rattle.convex_cycles.specs.Cycles.{Step, AreChained, IsRound}
use Rattle.convex_cycles.proofs.Links.{sides}
use Rattle.convex_cycles.proofs.Remains.{parts, cut_steps}

-- the sides that one side gives, where the corners at its start and its end are kept or not
abbrev pub sides_of_one : Plane → Plane → Bool → Bool → List Plane
sides_of_one cut h true true = h ∷ []
sides_of_one cut h true false = h ∷ cut ∷ []
sides_of_one cut h false true = h ∷ []
sides_of_one cut h false false = []

-- the sides that are left, in order; of the corners the first is given once more at the end
abbrev pub kept_sides : Plane → List Plane → List Bool → List Plane
kept_sides cut [] kept = []
kept_sides cut (h ∷ hs) [] = []
kept_sides cut (h ∷ hs) (s ∷ []) = []
kept_sides cut (h ∷ hs) (s ∷ t ∷ ss) = sides_of_one cut h s t ++ kept_sides cut hs (t ∷ ss)

abbrev pub start_flag : Plane → Step → Bool
start_flag k e = is_in_front k e.start

-- whether the corners of a cycle are kept, the first once more at the end
abbrev pub round_flags : Plane → List Step → List Bool
round_flags k [] = []
round_flags k (e ∷ es) = start_flag k e ∷ (map (start_flag k) es ++ start_flag k e ∷ [])

parts_sides : (k : Plane) (v e : Step) (b c : Bool) (rest : List Step) → sides (parts k v e b c ++ rest) ≡ sides_of_one k e.side b c ++ sides rest
parts_sides k v e true true rest = refl
parts_sides k v e true false rest = refl
parts_sides k v e false true rest = refl
parts_sides k v e false false rest = refl

chained_sides : (k : Plane) (v e : Step) (fs : List Step) (last : Step) → AreChained e fs last
    → sides (cut_steps k v (e ∷ fs)) ≡ kept_sides k (e.side ∷ sides fs) (start_flag k e ∷ (map (start_flag k) fs ++ start_flag k last ∷ []))
chained_sides k v e [] last chain = parts_sides k v e (start_flag k e) (is_in_front k e.end) [] ∙ ap (λ p. sides_of_one k e.side (start_flag k e) (is_in_front k p) ++ []) chain.0
chained_sides k v e (f ∷ fs) last chain =
    parts_sides k v e (start_flag k e) (is_in_front k e.end) (cut_steps k v (f ∷ fs))
    ∙ ap (λ p. sides_of_one k e.side (start_flag k e) (is_in_front k p) ++ sides (cut_steps k v (f ∷ fs))) chain.0.0
    ∙ ap (λ hs. sides_of_one k e.side (start_flag k e) (start_flag k f) ++ hs) (chained_sides k v f fs last chain.1)

pub cut_sides : (k : Plane) (v : Step) (steps : List Step) → IsRound steps → sides (cut_steps k v steps) ≡ kept_sides k (sides steps) (round_flags k steps)
cut_sides k v [] round = absurd round
cut_sides k v (e ∷ es) round = chained_sides k v e es e round
