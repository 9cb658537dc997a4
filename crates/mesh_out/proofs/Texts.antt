-- Texts that grow piece by piece.
use Rattle.std.proofs.Common.{◌≡◌, ℕ, List, [], ◌∷◌, ◌++◌, length, refl, ap, ◌∙◌, append_assoc, ℤ, arith, Result, Ok, Err, OnOk}
use Rattle.std.specs.List.{flat_map}
use Rattle.plane_core.specs.declared.numbers.Corner.{Corner}
use Rattle.exact_mesh.specs.Meshes.{vector_of}
use Rattle.world_print.specs.Elements.{page_corners}
use Rattle.mesh_out.specs.Off.{place_line, corner_line}

pub joined_two : (old p q a b : List ℕ) → p ≡ old ++ a → q ≡ p ++ b → q ≡ old ++ (a ++ b)
joined_two old p q a b first second = second ∙ ap (λ l. l ++ b) first ∙ append_assoc old a b

pub joined_three : (old p q r a b c : List ℕ) → p ≡ old ++ a → q ≡ p ++ b → r ≡ q ++ c → r ≡ old ++ (a ++ b ++ c)
joined_three old p q r a b c first second third = joined_two old q r (a ++ b) c (joined_two old p q a b first second) third

pub joined_four : (old p q r s a b c d : List ℕ) → p ≡ old ++ a → q ≡ p ++ b → r ≡ q ++ c → s ≡ r ++ d → s ≡ old ++ (a ++ b ++ c ++ d)
joined_four old p q r s a b c d first second third fourth =
    joined_two old r s (a ++ b ++ c) d (joined_three old p q r a b c first second third) fourth

-- what follows from a fact for the answer `Ok`
pub on_ok : {A E : Type 0} (r : Result A E) {P Q : Type 0} → (P → Q) → OnOk r P → OnOk r Q
on_ok (Ok x) f p = f p
on_ok (Err e) f p = tt

-- as many corners of a page as there are printed ones
pub page_count : (cs : List Corner) (vs : List (List ℤ)) → length vs ≡ length cs → length (page_corners cs vs) ≡ length vs
page_count [] [] e = refl
page_count [] (v ∷ vs) e = cc
page_count (c ∷ cs) [] e = cc
page_count (c ∷ cs) (v ∷ vs) e = let rest = page_count cs vs (omega arith) in omega (arith, rest)

-- their lines are those of the printed corners
pub page_lines : (cs : List Corner) (vs : List (List ℤ)) → length vs ≡ length cs → flat_map corner_line (page_corners cs vs) ≡ flat_map (λ v. place_line (vector_of v)) vs
page_lines [] [] e = refl
page_lines [] (v ∷ vs) e = cc
page_lines (c ∷ cs) [] e = cc
page_lines (c ∷ cs) (v ∷ vs) e = ap (λ l. place_line (vector_of v) ++ l) (page_lines cs vs (omega arith))
