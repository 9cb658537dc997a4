use Rattle.std.proofs.lemmas.Result.{IfOk-weaker}
use Rattle.tree_pool.specs.Pools.{Slots}
use Rattle.tree_merge.specs.declared.table.Table4.{Table4}
use Rattle.tree_merge.specs.declared.work.Pair.{Pair}
use Rattle.tree_merge.specs.declared.work.State.TheVariants.{Down}
use Rattle.tree_merge.specs.Works.{Two, StandForTwo, IsDivided, GoesOn}
use Rattle.tree_merge.proofs.Steps.{settled}
use Rattle.tree_merge.proofs.step.go_down.Goals as goal

pub returns-in-Settled : goal.returns-in-Settled
returns-in-Settled c = record {
  walk = settled c.args.book.now c.args.table c.args.pool.now c.args.work.pair c.args.work.cell c.args.frames.now.items c.in-Settled.value c.leaf.result c.in-Settled.ensures.next c.leaf.ensures.stands;
}

pub returns-in-Divided : goal.returns-in-Divided
returns-in-Divided c =
    let planes = c.args.book.now in
    let frames = c.args.frames.now.items in
    let rest = c.divide.new.frames.items in
    record {
      walk = IfOk-weaker c.divide.result
          (λ state. (pool : Slots) (table : Table4) (pair : Pair) → ((w : Two) → StandForTwo pool pair w → IsDivided pool table pair w c.in-Divided.plane.k c.in-Divided.front c.in-Divided.back)
          → GoesOn planes table pool (Down (record { cell = c.args.work.cell; pair = pair })) frames pool state rest)
          (λ state. GoesOn planes c.args.table c.args.pool.now (Down c.args.work) frames c.args.pool.now state rest)
          (λ state on. on c.args.pool.now c.args.table c.args.work.pair c.in-Divided.ensures.next)
          c.divide.ensures.walk;
    }
