-- `job::read_column`: after i turns the first i numbers of the column are those that were read, and the rest is as before.
use Rattle.std.proofs.Common.{◌≤◌, replicate, pos}
use Rattle.wire.specs.Fields.{int32}
use Rattle.job.proofs.Row.{Filled}
use Rattle.job.proofs.read_column.Given as goal

abbrev pub invariant-loop-i : goal.invariant-loop-i
invariant-loop-i g l = Filled (int32 l.s) l.stride (replicate g.row.N (pos 0)) l.from l.i l.column
