use Rattle.std.proofs.Common.{sym, ◌∙◌}
use Rattle.std.proofs.lemmas.Result.{IfOk-weaker}
use Rattle.tree_pool.specs.Pools.{Slots}
use Rattle.parity_trees.specs.declared.work.State.TheVariants.{Down}
use Rattle.parity_trees.specs.Works.{GoesOn}
use Rattle.parity_trees.proofs.Steps.{settled}
use Rattle.parity_trees.proofs.step.go_down.Goals as goal

pub returns-in-None : goal.returns-in-None
returns-in-None c = record { walk = settled c.args.book.now c.args.pool.now c.args.work c.args.frames.now.items c.leaf.result (sym c.deref.ensures.value ∙ c.in-None.ensures.none) c.leaf.ensures.stands }

pub returns-in-Some : goal.returns-in-Some
returns-in-Some c =
    let planes = c.args.book.now in
    let frames = c.args.frames.now.items in
    let rest = c.divide.new.frames.items in
    record {
      walk = IfOk-weaker c.divide.result
          (λ state. (pool : Slots) → GoesOn planes pool (Down c.args.work) frames pool state rest)
          (λ state. GoesOn planes c.args.pool.now (Down c.args.work) frames c.args.pool.now state rest)
          (λ state on. on c.args.pool.now)
          c.divide.ensures.walk;
    }
