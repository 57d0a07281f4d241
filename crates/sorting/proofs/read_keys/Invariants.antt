-- `sorting::read_keys`: the points before i are those of their keys.
use Rattle.sorting.specs.Keys.{Read}
use Rattle.sorting.proofs.read_keys.Given as goal

abbrev pub invariant-loop-i : goal.invariant-loop-i
invariant-loop-i l = Read l.keys l.i l.px l.py
