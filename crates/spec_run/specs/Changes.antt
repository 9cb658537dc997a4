-- What became of a source or a sink.
use Rattle.std.specs.Prelude.{◌≡◌, ℕ, List, Option}
use Rattle.spec_outside.specs.Ends.{Known, known}

-- what was known of it before, what is known of it after, and that it is as it was, whatever it tells
pub record Change : Type 1 where
  pub before : Known
  pub after : Known
  pub same : Type 0

-- by what it tells of its bytes, and its count of faults
abbrev pub change : {X : Type 0} → (X → Option (List ℕ)) → (X → ℕ) → X → X → Change
change bytes faults old new = record {
  before = known (bytes old) (faults old);
  after = known (bytes new) (faults new);
  same = new ≡ old;
}
