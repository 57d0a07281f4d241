-- `exports::ferruleslate_plan`: no more was written than the buffer holds.
use Rattle.std.proofs.Common.{arith}
use Rattle.exports.proofs.Numbers.{size_small}
use Rattle.exports.proofs.ferruleslate_plan.Goals as goal

pub returned-requires : goal.returned-requires
returned-requires c = size_small c.plan-written.ensures (omega arith)
