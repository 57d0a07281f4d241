-- `tree_bytes::count_of`: the nodes of the kind before i.
use Rattle.tree.specs.Memory.{type_number}
use Rattle.measures.specs.Standing.{nodes_in}
use Rattle.tree_bytes.proofs.Counting.{Counts}
use Rattle.tree_bytes.proofs.count_of.Given as goal

abbrev pub invariant-loop-i : goal.invariant-loop-i
invariant-loop-i l = Counts (nodes_in l.tree.arena.now) l.tree.arena.now.counts.nodes (type_number l.which) l.i l.m
