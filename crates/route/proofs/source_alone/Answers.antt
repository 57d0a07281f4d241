-- `source_alone`: the plan for no terminals.
use Rattle.route.proofs.Plans.{alone_is}
use Rattle.route.proofs.source_alone.Goals as goal

pub returns : goal.returns
returns c = alone_is _ c.plan.ensures
