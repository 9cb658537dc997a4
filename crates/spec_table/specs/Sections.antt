-- The instances of a file by their numbers.
use Rattle.std.specs.Prelude.{◌≡◌, ℕ, ◌-◌, ◌==◌, List, Option, Some, None, slice_get}
use Rattle.std.specs.List.{find}
use Rattle.std.specs.Option.{option_and_then}
use Rattle.spec_step.specs.declared.tree.Param.{Param}
use Rattle.spec_step.specs.declared.tree.Entry.{Entry}
use Rattle.spec_step.specs.declared.tree.Body.{Body}
use Rattle.spec_step.specs.declared.tree.Body.TheVariants.{Simple, Complex}
use Rattle.spec_step.specs.declared.tree.Instance.{Instance}

-- the DATA section of a file: its instances in order, and the text in which their spans stand
pub record DataSection : Type 0 where
  pub text : List ℕ
  pub instances : List Instance

-- the instance of a number
abbrev pub instance_of : DataSection → ℕ → Option Instance
instance_of section n = find (λ i. i.number == n) section.instances

-- the number names an instance with one entry
abbrev pub IsSimple : DataSection → ℕ → Type 0
IsSimple section n = (i : Instance) × (e : Entry) × (instance_of section n ≡ Some i) × (i.body ≡ Simple e)

abbrev pub param_in : ℕ → Body → Option Param
param_in position (Simple e) = slice_get e.params (position - 1)
param_in position (Complex es) = None

-- the parameter of an instance at a position, counted from 1
abbrev pub param_of : DataSection → ℕ → ℕ → Option Param
param_of section n position = option_and_then (λ i. param_in position i.body) (instance_of section n)
