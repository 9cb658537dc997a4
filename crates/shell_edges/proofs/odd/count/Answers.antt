use Rattle.std.proofs.Common.{sym, ap, ◌∙◌}
use Rattle.std.specs.BTreeSet.{contains}
use Rattle.std.proofs.lemmas.Result.{on_ok_weaker}
use Rattle.spec_solid.specs.Triangles.{differ}
use Rattle.shell_edges.specs.Odd.{vector_of, joint_cmp}
use Rattle.std.specs.declared.cmp.Ordering.TheVariants.{Greater}
use Rattle.shell_edges.proofs.Orders.{turned}
use Rattle.shell_edges.proofs.Sets.{counts_rising, counts_falling, counts_nothing}
use Rattle.shell_edges.proofs.odd.count.Goals as goal

pub returns-in-Less : goal.returns-in-Less
returns-in-Less c = record {
  counted = on_ok_weaker c.toggle.result (λ toggled k. toggled k ∙ ap (λ s. differ s (contains joint_cmp c.args.odd.now k))
      (counts_rising c.args.edge c.place-first.result c.place-second.result k c.place-first.ensures c.place-second.ensures (sym c.cmp.ensures ∙ c.in-Less.is))) c.toggle.ensures.toggled;
}

pub returns-in-Equal : goal.returns-in-Equal
returns-in-Equal c = record {
  counted = λ k. counts_nothing c.args.edge c.place-first.result c.place-second.result k (contains joint_cmp c.args.odd.now k) c.place-first.ensures c.place-second.ensures (sym c.cmp.ensures ∙ c.in-Equal.is);
}

pub returns-in-Greater : goal.returns-in-Greater
returns-in-Greater c = record {
  counted = on_ok_weaker c.toggle-in-Greater.result (λ toggled k. toggled k ∙ ap (λ s. differ s (contains joint_cmp c.args.odd.now k))
      (counts_falling c.args.edge c.place-first.result c.place-second.result k c.place-first.ensures c.place-second.ensures (turned (vector_of c.place-first.result) (vector_of c.place-second.result) Greater (sym c.cmp.ensures ∙ c.in-Greater.is)))) c.toggle-in-Greater.ensures.toggled;
}
