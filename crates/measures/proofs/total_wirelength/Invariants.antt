-- `measures::total_wirelength`: the sum of the first i edges.
use Rattle.measures.specs.Standing.{nodes_in}
use Rattle.measures.proofs.Summed.{Summed}
use Rattle.measures.proofs.total_wirelength.Given as goal

abbrev pub invariant-loop-i : goal.invariant-loop-i
invariant-loop-i l = Summed (nodes_in l.tree.arena.now) l.tree.arena.now.counts.nodes l.i l.sum
