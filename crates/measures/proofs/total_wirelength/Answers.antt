-- `measures::total_wirelength`: the sum of the first i edges.
use Rattle.std.proofs.Common.{arith}
use Rattle.measures.proofs.Lending.{reads}
use Rattle.measures.proofs.Summed.{sum-none, sum_more, sum-all}
use Rattle.measures.proofs.total_wirelength.Goals as goal

pub loop-i-init : goal.loop-i-init
loop-i-init c = sum-none _ _

pub overflow_add-sum : goal.overflow_add-sum
overflow_add-sum c = omega (arith, c.loop-i.invariant.small, c.edge-sum.ensures.1, (reads c.args.tree).few)

pub loop-i-preserved : goal.loop-i-preserved
loop-i-preserved c = sum_more _ _ c.loop-i.invariant (omega arith) c.edge-sum.ensures.0 c.edge-sum.ensures.1

pub returns : goal.returns
returns c = sum-all _ _ c.loop-i.invariant (reads c.args.tree).size (omega arith)
