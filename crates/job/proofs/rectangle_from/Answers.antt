-- `job::rectangle_from`: kept, though the goal closes alone: of a wrong program the search only reaches a limit.
use Rattle.job.proofs.rectangle_from.Goals as goal

pub returns : goal.returns
returns c = λ i. record { xcoord = c.interval_from.ensures i; ycoord = c.interval_from-2.ensures i }
