-- `measures::figures_of`: the measures that the calls give. Both close alone, but then the search for a wrong one only reaches a limit.
use Rattle.measures.proofs.figures_of.Goals as goal

pub returns-clause-total : goal.returns-clause-total
returns-clause-total c = c.total_wirelength.ensures.0

pub returns-clause-worst : goal.returns-clause-worst
returns-clause-worst c = c.worst_wirelength.ensures.0
