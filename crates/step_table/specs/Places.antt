-- Where the instance of a number stands.
use Rattle.std.specs.Prelude.{ℕ, ◌+◌, ◌==◌, List, [], ◌∷◌, Option, Some, None, if◌then◌else◌}
use Rattle.std.specs.Option.{option_map}
use Rattle.spec_step.specs.declared.tree.Instance.{Instance}

-- the place of the first instance with a number, counted from 0
abbrev pub first_place : List Instance → ℕ → Option ℕ
first_place [] n = None
first_place (i ∷ instances) n = if i.number == n then Some 0 else option_map (λ place. place + 1) (first_place instances n)
