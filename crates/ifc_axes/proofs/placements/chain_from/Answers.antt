use Rattle.ifc_axes.proofs.Upwards.{turned_simple}
use Rattle.ifc_axes.proofs.placements.chain_from.Goals as goal

pub links-requires : goal.links-requires
links-requires c =
    turned_simple c.args.table.now c.in_ok-numbers.numbers.items c.reverse.new.self.items c.deref.result.now c.reverse.ensures.items c.deref.ensures.value c.in_ok-numbers.ensures.simple
