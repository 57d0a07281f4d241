-- `global_router::route`: demand 3 comes with the answer.
use Rattle.std.proofs.Common.{rules, ◌≡◌, Err, ap, ◌∙◌}
use Rattle.route.specs.Routing.{routed}
use Rattle.global_router.specs.Calls.{routing_from}
use Rattle.global_router.proofs.Answering.{owes}
use Rattle.global_router.proofs.from_job.route.Goals as goal

pub returns-in_err-t-clause-owed : goal.returns-in_err-t-clause-owed
returns-in_err-t-clause-owed c =
    let e : c.from_residual.result ≡ Err c.in_err-t.field-0.0 = search rules in
    owes _ (ap routing_from e ∙ c.in_err-t.ensures)

pub returns-clause-owed : goal.returns-clause-owed
returns-clause-owed c = owes _ (ap routed c.from_table.ensures ∙ c.in_ok-t.ensures)
