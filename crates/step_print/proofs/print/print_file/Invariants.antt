use Rattle.std.proofs.Common.{◌-◌, ◌≤◌, length}
use Rattle.step_print.proofs.Prints.{Printed}
use Rattle.step_print.proofs.print.print_file.Given as goal

abbrev pub invariant-loop-token : goal.invariant-loop-token
invariant-loop-token l = record {
  within : l.from ≤ length l.file.source.now;
  printed : Printed l.file.source.now l.from l.page.items;
}

abbrev pub decreases-loop-token : goal.decreases-loop-token
decreases-loop-token l = length l.file.source.now - l.from
