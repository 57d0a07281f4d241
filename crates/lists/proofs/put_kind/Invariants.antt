-- `lists::put_kind`: the nodes of the kind before i are written.
use Rattle.tree.specs.Memory.{type_number}
use Rattle.measures.specs.Standing.{nodes_in}
use Rattle.lists.proofs.Paths.{Listed}
use Rattle.lists.proofs.put_kind.Given as goal

abbrev pub invariant-loop-i : goal.invariant-loop-i
invariant-loop-i l = Listed (nodes_in l.tree.arena.now) l.tree.arena.now.counts.nodes (type_number l.which) l.fn.out l.at l.out l.p l.i
