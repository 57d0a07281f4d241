-- `exports::ferruleslate_tree_bytes`: no more was written than the buffer holds.
use Rattle.std.proofs.Common.{arith}
use Rattle.exports.proofs.Numbers.{size_small}
use Rattle.exports.proofs.ferruleslate_tree_bytes.Goals as goal

pub returned-requires : goal.returned-requires
returned-requires c = size_small c.write_tree_bytes-written.ensures (omega arith)
