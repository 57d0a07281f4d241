-- `removing::bypass`: two changes of links, and a parent.
use Rattle.std.proofs.Common.{arith}
use Rattle.joining.proofs.Blocks.{column-most}
use Rattle.removing.proofs.bypass.Goals as goal

pub detach-requires-clause-p_lt_most_nodes : goal.detach-requires-clause-p_lt_most_nodes
detach-requires-clause-p_lt_most_nodes c = let m = column-most 0 c.args.arena.now.nodes.marks in (omega (arith, c.requires.in_p, m), omega (arith, c.requires.in_i, m))

pub attach_last-requires : goal.attach_last-requires
attach_last-requires c = let m = column-most 0 c.args.arena.now.nodes.marks in (omega (arith, c.requires.in_p, m), omega (arith, c.requires.in_c, m))

pub store_parent-requires : goal.store_parent-requires
store_parent-requires c = omega (arith, c.requires.in_c, column-most 0 c.args.arena.now.nodes.marks)
