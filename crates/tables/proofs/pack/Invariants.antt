-- `tables::pack`: the nodes before i are the rows'.
use Rattle.joining.specs.Buffers.{rows_held}
use Rattle.tables.specs.Nodes.{Packs}
use Rattle.tables.proofs.pack.Given as goal

abbrev pub invariant-loop-i : goal.invariant-loop-i
invariant-loop-i l = Packs (rows_held l.rows) l.i l.nodes
