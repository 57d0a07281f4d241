-- `decimal::put_digits`: the k digits of `rest`, put at p, complete the text.
use Rattle.std.proofs.Common.{◌^◌, ◌<◌}
use Rattle.wire.specs.Puts.{Left}
use Rattle.decimal.specs.Padded.{padded}
use Rattle.decimal.proofs.put_digits.Given as goal

abbrev pub invariant-loop-k : goal.invariant-loop-k
invariant-loop-k l = (l.rest < 10 ^ l.k) × Left l.fn.out l.at (padded l.count l.m) l.out l.p (padded l.k l.rest)
