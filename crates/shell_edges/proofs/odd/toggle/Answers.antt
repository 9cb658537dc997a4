use Rattle.std.proofs.Common.{sym, ◌∙◌}
use Rattle.shell_edges.proofs.Sets.{taken}
use Rattle.shell_edges.proofs.odd.toggle.Goals as goal

pub returns-else-not-remove : goal.returns-else-not-remove
returns-else-not-remove c = record {
  toggled = λ k. taken c.args.edge k c.args.odd.now c.remove.new.self (sym c.if-not-remove.false ∙ c.remove.ensures.test) (c.remove.ensures.updates.0 k);
}
