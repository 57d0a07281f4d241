-- `edits::write_steps`: each turn leaves less of the script.
use Rattle.std.proofs.Common.{length, ◌-◌}
use Rattle.edits.proofs.write_steps.Given as goal

abbrev pub decreases-loop-at : goal.decreases-loop-at
decreases-loop-at l = length l.script - l.at
