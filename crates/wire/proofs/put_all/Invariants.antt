-- `wire::put_all`: what is left to write is the rest of the bytes.
use Rattle.std.proofs.Common.{drop}
use Rattle.wire.specs.Puts.{Left}
use Rattle.wire.proofs.put_all.Given as goal

abbrev pub invariant-loop-byte : goal.invariant-loop-byte
invariant-loop-byte l = Left l.fn.out l.at l.bytes l.out l.p (drop l.byte-index l.bytes)
