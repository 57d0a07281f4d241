-- `joining::put`: a store in a column, or none past its end.
use Rattle.std.proofs.Common.{arith}
use Rattle.joining.proofs.Blocks.{put, put_past}
use Rattle.joining.proofs.put.Goals as goal

pub returns-then-i-lt-MOST_NODES : goal.returns-then-i-lt-MOST_NODES
returns-then-i-lt-MOST_NODES g c = put g.row.K _ _ (omega (arith, c.if-i-lt-MOST_NODES.true, c.from-i.ensures)) (omega (arith, c.from-i.ensures)) _

pub returns-else-i-lt-MOST_NODES : goal.returns-else-i-lt-MOST_NODES
returns-else-i-lt-MOST_NODES g c = put_past g.row.K _ _ _ (omega (arith, c.if-i-lt-MOST_NODES.false, c.from-i.ensures))
