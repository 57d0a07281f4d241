-- `removing::lower_links`: at the loop's head the links before the next one are lowered.
use Rattle.removing.proofs.Moving.{Lowering}
use Rattle.removing.proofs.lower_links.Given as goal

abbrev pub invariant-loop-v : goal.invariant-loop-v
invariant-loop-v l = Lowering l.i l.initial.v-items l.v-items l.v-index
