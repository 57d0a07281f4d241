-- `tables::Table::find_node`: no node before i has the name.
use Rattle.tree.specs.Memory.{name_in}
use Rattle.joining.specs.Buffers.{column}
use Rattle.tables.proofs.Naming.{own_name, Other}
use Rattle.tables.proofs.Table.find_node.Given as goal

abbrev pub invariant-loop-i : goal.invariant-loop-i
invariant-loop-i l = Other (own_name (column 1 l.self.arena.nodes.marks) (column 2 l.self.arena.nodes.marks)) (name_in l.name) l.i
