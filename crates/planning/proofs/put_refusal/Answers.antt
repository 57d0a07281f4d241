-- `planning::put_refusal`: the line of the refusal's number.
use Rattle.std.proofs.Common.{ap}
use Rattle.wire.specs.Puts.{puts_as}
use Rattle.planning.specs.Output.{refusal_line}
use Rattle.planning.proofs.put_refusal.Goals as goal

pub returns : goal.returns
returns c = puts_as c.put_refusal_number.ensures (ap refusal_line c.number.ensures)
