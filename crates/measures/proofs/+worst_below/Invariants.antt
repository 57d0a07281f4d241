-- `measures::worst_below`: the longest run so far and the longest of the children that are left; the levels fall.
use Rattle.measures.specs.Standing.{nodes_in}
use Rattle.measures.specs.Chains.{rest_of}
use Rattle.measures.proofs.Longest.{Longest}
use Rattle.measures.proofs.+worst_below.Given as goal

abbrev pub decreases-worst_below : goal.decreases-worst_below
decreases-worst_below l = l.left

abbrev pub invariant-loop-c : goal.invariant-loop-c
invariant-loop-c l = Longest (nodes_in l.tree.arena.now) l.tree.arena.now.counts.nodes l.left l.i (rest_of l.c-iterator) l.longest
