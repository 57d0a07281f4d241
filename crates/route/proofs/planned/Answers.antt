-- `planned`: the job's columns are lent to the router.
use Rattle.route.proofs.Lending.{plannable, planned_is}
use Rattle.route.proofs.planned.Goals as goal

pub plan-requires : goal.plan-requires
plan-requires c = plannable c.args.j c.requires

pub returns : goal.returns
returns c = planned_is c.args.j c.requires _ c.plan.ensures
