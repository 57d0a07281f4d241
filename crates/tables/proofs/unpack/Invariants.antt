-- `tables::unpack`: the rows before i are the nodes'.
use Rattle.joining.specs.Buffers.{rows_held}
use Rattle.tables.proofs.Unpacking.{Storing}
use Rattle.tables.proofs.unpack.Given as goal

abbrev pub invariant-loop-i : goal.invariant-loop-i
invariant-loop-i l = Storing l.nodes l.i (rows_held l.rows)
