-- `inserting::insert_all`: at the head of the loop the columns hold the tree of the terminals so far.
use Rattle.joining.specs.Buffers.{stored}
use Rattle.inserting.proofs.Turning.{Under}
use Rattle.inserting.proofs.insert_all.Given as goal

abbrev pub invariant-loop-i : goal.invariant-loop-i
invariant-loop-i l = Under l.way l.ks l.px l.py l.a l.i l.arena.counts (stored l.arena)
