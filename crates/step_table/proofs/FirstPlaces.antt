-- The place of the first instance with a number.
use Rattle.std.proofs.Common.{◌≡◌, ◌==◌, ℕ, suc, ◌+◌, ◌<◌, Bool, true, false, List, [], ◌∷◌, ◌++◌, length, take, Option, Some, None, if◌then◌else◌, refl, sym, ◌∙◌, ap, cond, arith}
use Rattle.std.proofs.lemmas.List.{length-take-le}
use Rattle.std.specs.List.{find}
use Rattle.std.specs.Prelude.{slice_get}
use Rattle.std.specs.Option.{option_or, option_map, option_and_then}
use Rattle.spec_step.specs.declared.tree.Instance.{Instance}
use Rattle.step_table.specs.Places.{first_place}

moved : (o : Option ℕ) (b : Bool) (k : ℕ) → option_map (λ p. p + 1) (option_or o (if b then Some k else None)) ≡ option_or (option_map (λ p. p + 1) o) (if b then Some (suc k) else None)
moved None true k = ap Some (omega arith)
moved None false k = refl
moved (Some p) b k = refl

here_or_later : (b : Bool) (o o' : Option ℕ) (last : Bool) (k : ℕ) → o' ≡ option_map (λ p. p + 1) (option_or o (if last then Some k else None))
    → (if b then Some 0 else o') ≡ option_or (if b then Some 0 else option_map (λ p. p + 1) o) (if last then Some (suc k) else None)
here_or_later true o o' last k e = refl
here_or_later false o o' last k e = e ∙ moved o last k

-- with one instance more
pub place_more : (instances : List Instance) (i : Instance) (n : ℕ)
    → first_place (instances ++ i ∷ []) n ≡ option_or (first_place instances n) (if i.number == n then Some (length instances) else None)
place_more [] i n = refl
place_more (j ∷ instances) i n =
    here_or_later (j.number == n) (first_place instances n) (option_map (λ p. p + 1) (first_place (instances ++ i ∷ []) n)) (i.number == n) (length instances) (ap (option_map (λ p. p + 1)) (place_more instances i n))

-- the same at the place that a loop has come to
pub place_at : (instances : List Instance) (place n : ℕ) (i : Instance) (old new : Option ℕ) → place < length instances
    → take (place + 1) instances ≡ take place instances ++ i ∷ []
    → old ≡ first_place (take place instances) n
    → new ≡ option_or old (if i.number == n then Some place else None)
    → new ≡ first_place (take (place + 1) instances) n
place_at instances place n i old new lt more e h =
    let count : length (take place instances) ≡ place = length-take-le place instances (omega arith) in
    h
    ∙ ap (λ o. option_or o (if i.number == n then Some place else None)) e
    ∙ ap (λ k. option_or (first_place (take place instances) n) (if i.number == n then Some k else None)) (sym count)
    ∙ sym (place_more (take place instances) i n)
    ∙ ap (λ xs. first_place xs n) (sym more)

there : (b : Bool) (i : Instance) (instances : List Instance) (o : Option ℕ) (found : Option Instance)
    → option_and_then (slice_get instances) o ≡ found
    → option_and_then (slice_get (i ∷ instances)) (if b then Some 0 else option_map (λ p. p + 1) o) ≡ cond b (Some i) found
there true i instances o found e = refl
there false i instances None found e = e
there false i instances (Some p) found e = let next : p + 1 ≡ suc p = omega arith in ap (slice_get (i ∷ instances)) next ∙ e

-- the instance at that place
pub found_there : (instances : List Instance) (n : ℕ) → option_and_then (slice_get instances) (first_place instances n) ≡ find (λ i. i.number == n) instances
found_there [] n = refl
found_there (i ∷ instances) n = there (i.number == n) i instances (first_place instances n) (find (λ i. i.number == n) instances) (found_there instances n)
