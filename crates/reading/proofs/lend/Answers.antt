-- `reading::lend`: in a table's arena a tree stands.
use Rattle.reading.proofs.Standing.{lends}
use Rattle.reading.proofs.lend.Goals as goal

pub invariant_of-result : goal.invariant_of-result
invariant_of-result c = record { held = ∣ lends c.args.t.now ∣₁ }
