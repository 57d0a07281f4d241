-- `wire::put_all`: copied whole; or in turn, and then what is left to write is the rest of the bytes.
use Rattle.std.proofs.Common.{◌≡◌, ◌+◌, ◌-◌, length, arith}
use Rattle.std.proofs.lemmas.List.{drop_more}
use Rattle.std.proofs.Math.ListN.{drop_of_length-le}
use Rattle.wire.specs.Puts.{puts_whole, left_less, left-none}
use Rattle.wire.proofs.put_all.Goals as goal

pub returns-then-end-out : goal.returns-then-end-out
returns-then-end-out c =
    let n = length c.args.bytes.now in
    let e : c.saturating_add-end.result ≡ c.args.at + n = omega arith in
    let k : c.args.at + n - c.args.at ≡ n = omega arith in
    rw (e, k, c.copy_from_slice.ensures.after) (puts_whole _ _ _ (omega arith) (omega arith))

pub loop-byte-preserved : goal.loop-byte-preserved
loop-byte-preserved c = left_less c.loop-byte.invariant (drop_more _ _ 0 c.loop-byte-test.true) c.put-p.ensures

pub returns : goal.returns
returns c = left-none c.loop-byte.invariant (drop_of_length-le _ c.loop-byte-test.false)
