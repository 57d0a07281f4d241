-- `routeplan::write_plan`: what was written lies at the start of the buffer.
use Rattle.std.proofs.Common.{sym}
use Rattle.std.proofs.Math.Seq.{length-take-le}
use Rattle.planning.proofs.Parts.{front}
use Rattle.routeplan.proofs.write_plan.Goals as goal

pub slice_bounds-out-end : goal.slice_bounds-out-end
slice_bounds-out-end c = (front c.plan-answer.ensures c.in-Ok.is).low

pub slice_bounds-write_all-end : goal.slice_bounds-write_all-end
slice_bounds-write_all-end c = sym (length-take-le _ _ (front c.plan-answer.ensures c.in-Ok.is).low)
