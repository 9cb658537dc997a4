-- A face is cut into the triangles from its first corner to its edges.
use Rattle.std.proofs.Common.{◌≡◌, ℕ, ◌≤◌, List, [], ◌∷◌, ◌++◌, length, map, get_or, refl, ap, ◌∙◌, arith}
use Rattle.std.specs.List.{flat_map}
use Rattle.std.proofs.lemmas.List.{map-append}
use Rattle.std.proofs.lemmas.List.Elements.{All-head}
use Rattle.spec_space.specs.declared.Vector.{Vector}
use Rattle.spec_solid.specs.Extrusions.{loop_edges, fan, face_triangles}
use Rattle.ix_profile.specs.Outlines.{IsOutline}
use Rattle.grid_round.specs.Fans.{fan_triangle}

fan_is : (apex : Vector) (loops : List (List Vector)) → map (fan_triangle apex) (flat_map loop_edges loops) ≡ fan apex loops
fan_is apex [] = refl
fan_is apex (l ∷ loops) = map-append (fan_triangle apex) (loop_edges l) (flat_map loop_edges loops) ∙ ap (λ ts. map (fan_triangle apex) (loop_edges l) ++ ts) (fan_is apex loops)

cut_first : (n : ℕ) (loops : List (List Vector)) (d : List Vector) (e : Vector) → IsOutline n loops → map (fan_triangle (get_or (get_or loops 0 d) 0 e)) (flat_map loop_edges loops) ≡ face_triangles loops
cut_first n [] d e h = absurd (none h.some)
  where
    none : 1 ≤ 0 → ⊥
    none h = omega arith
cut_first n ([] ∷ loops) d e h = absurd (none (All-head (λ l. 3 ≤ length l) [] loops h.long))
  where
    none : 3 ≤ 0 → ⊥
    none h = omega arith
cut_first n ((u ∷ us) ∷ loops) d e h = fan_is u ((u ∷ us) ∷ loops)

pub face_cut : (n : ℕ) (loops : List (List Vector)) (l : List Vector) (e : Vector) → IsOutline n loops → l ≡ get_or loops 0 l → map (fan_triangle (get_or l 0 e)) (flat_map loop_edges loops) ≡ face_triangles loops
face_cut n loops l e h is = ap (λ l. map (fan_triangle (get_or l 0 e)) (flat_map loop_edges loops)) is ∙ cut_first n loops l e h
