-- `nearest::find_nearest_node`: each turn keeps the least rank, and the last is that of the closest node.
use Rattle.std.proofs.Common.{arith}
use Rattle.nearest.proofs.Closest.{starts, turn}
use Rattle.nearest.proofs.find_nearest_node.Goals as goal

pub loop-i-init : goal.loop-i-init
loop-i-init c = starts _ _ _ _ c.requires.some c.rank-best.ensures

pub loop-i-preserved : goal.loop-i-preserved
loop-i-preserved c =
    turn _ _ _ _ c.loop-i.invariant c.requires.few (omega arith) c.rank.ensures (omega arith)
