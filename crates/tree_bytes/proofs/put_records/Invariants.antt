-- `tree_bytes::put_records`: the records before i are written.
use Rattle.wire.specs.Puts.{Puts}
use Rattle.measures.specs.Standing.{nodes_in}
use Rattle.tree_bytes.specs.TreeBytes.{record_of, in_turn}
use Rattle.tree_bytes.proofs.put_records.Given as goal

abbrev pub invariant-loop-i : goal.invariant-loop-i
invariant-loop-i l = Puts l.fn.out l.at (in_turn (record_of (nodes_in l.tree.arena.now)) l.i) l.out l.p
