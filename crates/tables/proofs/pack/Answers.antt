-- `tables::pack`: the nodes before i are the rows'.
use Rattle.std.proofs.Common.{arith}
use Rattle.tables.proofs.Packing.{packs_more}
use Rattle.tables.proofs.pack.Goals as goal

pub loop-i-preserved : goal.loop-i-preserved
loop-i-preserved c = packs_more _ _ _ _ (omega arith) c.loop-i.invariant c.node_at.ensures
