-- `nearest::BranchColumns::two_least`: the two are those of the branches before c.
use Rattle.std.proofs.Common.{arith}
use Rattle.nearest.proofs.Leasts.{turn}
use Rattle.nearest.proofs.BranchColumns.two_least.Goals as goal

pub loop-c-preserved : goal.loop-c-preserved
loop-c-preserved c =
    (omega arith, turn _ c.loop-c.invariant.1 (omega arith) c.rank-r.ensures (omega arith) (omega arith))
