-- `nearest::put_distances`: the distances before i are stored.
use Rattle.nearest.specs.Columns.{Distances}
use Rattle.nearest.proofs.put_distances.Given as goal

abbrev pub invariant-loop-i : goal.invariant-loop-i
invariant-loop-i l = Distances l.i l.q l.points.xs.now l.points.ys.now l.e
