-- `GlobalRoutingTree::find_node`: in the tree's columns.
use Rattle.std.proofs.Common.{ap}
use Rattle.global_router.specs.Reading.{looked_up}
use Rattle.global_router.proofs.Reading.{named_is}
use Rattle.global_router.proofs.GlobalRoutingTree.find_node.Goals as goal

pub returns : goal.returns
returns c = ap looked_up (named_is c.to_table-t.result c.to_table-t.ensures _ c.find_node.result c.find_node.ensures)
