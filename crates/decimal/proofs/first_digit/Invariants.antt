-- `decimal::first_digit`: of the multiples of `unit` before the k-th, n are at most m, that is, as many as go into m but no more than were tried.
use Rattle.std.proofs.Common.{◌≡◌, ◌-◌, ◌/◌, ◌<◌, min}
use Rattle.decimal.proofs.first_digit.Given as goal

abbrev pub invariant-loop-k : goal.invariant-loop-k
invariant-loop-k l = (0 < l.unit) × (l.m / l.unit < 10) × (l.n ≡ min (l.k - 1) (l.m / l.unit))
