-- `tree_bytes::put_records`: the records before i are written.
use Rattle.std.proofs.Common.{ap, arith}
use Rattle.wire.specs.Puts.{puts_as, puts_none, puts_then}
use Rattle.tree_bytes.specs.TreeBytes.{in_turn}
use Rattle.tree_bytes.proofs.Fields.{turn_none, turn_more}
use Rattle.tree_bytes.proofs.put_records.Goals as goal

pub loop-i-init : goal.loop-i-init
loop-i-init c = puts_as (puts_none _ _ (omega arith) (omega arith)) (turn_none _)

pub loop-i-preserved : goal.loop-i-preserved
loop-i-preserved c = puts_as (puts_then c.loop-i.invariant (puts_as c.put_record-p.ensures c.record_at-r.ensures)) (turn_more _ _)

pub returns : goal.returns
returns c = puts_as c.loop-i.invariant (ap (in_turn _) (omega arith))
