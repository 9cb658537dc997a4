use Rattle.std.proofs.Common.{drop}
use Rattle.obj_lines.proofs.Scans.{IsWalk}
use Rattle.obj_lines.proofs.template.scan.Given as goal

abbrev pub invariant-loop-sign : goal.invariant-loop-sign
invariant-loop-sign g l = IsWalk l.template l.text g.row.N l.count l.numbers (drop l.sign-index l.template) l.rest
