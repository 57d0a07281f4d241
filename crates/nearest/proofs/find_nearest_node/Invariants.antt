-- `nearest::find_nearest_node`: each turn keeps the least rank, and the last is that of the closest node.
use Rattle.nearest.proofs.Closest.{Ranked}
use Rattle.nearest.proofs.find_nearest_node.Given as goal

abbrev pub invariant-loop-i : goal.invariant-loop-i
invariant-loop-i l = Ranked l.n l.points.xs.now l.points.ys.now l.q l.best l.i
