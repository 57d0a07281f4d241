-- `route::farthest`: w, and the terminals that are left.
use Rattle.route.proofs.Scanning.{Scanned}
use Rattle.route.proofs.farthest.Given as goal

abbrev pub invariant-loop-i : goal.invariant-loop-i
invariant-loop-i l = Scanned l.px l.py l.s l.w l.i
