-- `sorting::put_keys`: the keys before i are those of their points.
use Rattle.sorting.specs.Keys.{Keyed}
use Rattle.sorting.proofs.put_keys.Given as goal

abbrev pub invariant-loop-i : goal.invariant-loop-i
invariant-loop-i l = Keyed l.px l.py l.s l.i l.keys
