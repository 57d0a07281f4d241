-- `planning::put_refusal_number`: the parts one after the other.
use Rattle.std.proofs.Common.{◌≡◌, ap}
use Rattle.decimal.specs.Decimal.{decimal_of}
use Rattle.wire.specs.Puts.{puts_as, puts_then}
use Rattle.planning.specs.Output.{refusal_line}
use Rattle.planning.proofs.put_refusal_number.Goals as goal

pub returns : goal.returns
unfolding refusal_line
returns c =
    let e : c.from.result ≡ c.args.n = cc in
    puts_then (puts_then c.put_bytes-p1.ensures (puts_as c.put_u32-p2.ensures (ap decimal_of e))) c.put_bytes.ensures
