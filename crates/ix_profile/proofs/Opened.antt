-- Curves that are opened, one after another.
use Rattle.std.proofs.Common.{◌≡◌, ℕ, ◌+◌, ◌<◌, ◌≤◌, Bool, true, false, List, [], ◌∷◌, ◌++◌, length, map, take, drop, get_or, Option, refl, sym, ap, subst, ◌∙◌, true≢false}
use Rattle.std.specs.Prelude.{All, Some, None, unwrap_or, if◌then◌else◌}
use Rattle.std.proofs.lemmas.List.{append_assoc, drop_more, take_more, take_all}
use Rattle.std.proofs.lemmas.List.Elements.{All-push}
use Rattle.spec_space.specs.declared.Vector.{Vector}
use Rattle.spec_shape.specs.Loops.{open_loop}
use Rattle.ix_profile.specs.Curves.{makes_loop, MakesLoop}

-- the loops of the first i curves, which all make one
pub record AreOpened (curves loops : List (List Vector)) (i : ℕ) : Type 0 where
  pub same : loops ++ map open_loop (drop i curves) ≡ map open_loop curves
  pub done : All MakesLoop (take i curves)

abbrev is_there : Option (List Vector) → Bool
is_there (Some x) = true
is_there None = false

some_if : (b : Bool) (v found : List Vector) → Some found ≡ (if b then Some v else None) → (b ≡ true) × (found ≡ v)
some_if true v found e = (refl, ap (λ o. unwrap_or o found) e)
some_if false v found e = absurd (true≢false (ap is_there e))

pub opened_step : (curves loops more : List (List Vector)) (i : ℕ) (d found : List Vector) → i < length curves
    → Some found ≡ (if makes_loop (get_or curves i d) then Some (open_loop (get_or curves i d)) else None)
    → more ≡ loops ++ found ∷ [] → AreOpened curves loops i → AreOpened curves more (i + 1)
opened_step curves loops more i d found l e g h =
    let s = some_if (makes_loop (get_or curves i d)) (open_loop (get_or curves i d)) found e in
    record {
      same =
          ap (λ ls. ls ++ map open_loop (drop (i + 1) curves)) g
          ∙ append_assoc loops (found ∷ []) (map open_loop (drop (i + 1) curves))
          ∙ ap (λ w. loops ++ (w ∷ map open_loop (drop (i + 1) curves))) s.1
          ∙ ap (λ cs. loops ++ map open_loop cs) (sym (drop_more curves i d l))
          ∙ h.same;
      done = subst (λ cs. All MakesLoop cs) (sym (take_more curves i d l)) (All-push MakesLoop (take i curves) (get_or curves i d) h.done s.0);
    }

pub opened_all : (curves loops : List (List Vector)) (i : ℕ) → length curves ≤ i → AreOpened curves loops i → All MakesLoop curves
opened_all curves loops i l h = subst (λ cs. All MakesLoop cs) (take_all i curves l) h.done
