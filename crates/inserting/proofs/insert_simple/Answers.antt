-- `inserting::insert_simple`: the closest node is in the tree, and a row with path 0 is attached below it.
use Rattle.std.proofs.Common.{arith}
use Rattle.joining.proofs.Placing.{next-counts}
use Rattle.inserting.proofs.Inserting.{may_simple, did_simple}
use Rattle.inserting.proofs.insert_simple.Goals as goal

pub attach-requires : goal.attach-requires
attach-requires c = may_simple c.requires _ c.closest_node-p.ensures

pub one_more-arena-requires : goal.one_more-arena-requires
one_more-arena-requires c = next-counts c.requires (omega arith)

pub returns : goal.returns
returns c = did_simple c.requires _ c.closest_node-p.ensures _ c.attach.ensures.attached _ c.one_more-arena.ensures
