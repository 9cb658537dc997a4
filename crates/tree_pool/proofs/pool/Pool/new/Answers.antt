use Rattle.std.proofs.Common.{ap}
use Rattle.tree_pool.specs.Pools.{slot_at}
use Rattle.tree_pool.proofs.Inserted.{second_leaf}
use Rattle.tree_pool.proofs.pool.Pool.new.Goals as goal

pub add_slot-requires-2-clause-absent : goal.add_slot-requires-2-clause-absent
add_slot-requires-2-clause-absent c =
    second_leaf c.new-slots.result.slots c.add_slot.new.slots.slots c.add_slot.new.index c.in_ok-no.no c.add_slot.ensures.agrees
    (λ j. ap (λ s. slot_at s j) c.new-slots.ensures.empty) c.in_ok-no.ensures.node c.in_ok-no.ensures.only
