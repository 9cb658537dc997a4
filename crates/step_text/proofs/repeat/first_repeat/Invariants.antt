use Rattle.std.proofs.Common.{◌≡◌, take}
use Rattle.std.specs.BTreeMap.{get}
use Rattle.std.specs.Ordering.{nat_cmp}
use Rattle.spec_step.specs.Files.{HasDistinctNumbers}
use Rattle.step_text.proofs.Repeats.{place_of_number}
use Rattle.std.proofs.Common.{ℕ}
use Rattle.step_text.proofs.repeat.first_repeat.Given as goal

abbrev pub invariant-loop-instance : goal.invariant-loop-instance
invariant-loop-instance l = record {
  distinct : HasDistinctNumbers (take l.instance-index l.instances);
  places : (n : ℕ) → get nat_cmp l.places n ≡ place_of_number n (take l.instance-index l.instances);
}
