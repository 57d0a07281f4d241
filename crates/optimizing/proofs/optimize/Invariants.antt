-- `optimizing::optimize`: at the loop's head what is left of the pass gives the optimized nodes.
use Rattle.joining.specs.Buffers.{stored}
use Rattle.optimizing.proofs.Passing.{Under}
use Rattle.optimizing.proofs.optimize.Given as goal

abbrev pub invariant-loop-i : goal.invariant-loop-i
invariant-loop-i l = Under l.fn.arena.counts (stored l.fn.arena) l.i l.arena.counts (stored l.arena)
