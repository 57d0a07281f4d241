-- `rectangles::gather`: the rectangles before this one are gathered.
use Rattle.std.proofs.Common.{take}
use Rattle.rectangles.specs.Rectangles.{Gathers}
use Rattle.rectangles.proofs.gather.Given as goal

abbrev pub invariant-loop-k : goal.invariant-loop-k
invariant-loop-k l = Gathers (take l.k-index l.ks) l.f
