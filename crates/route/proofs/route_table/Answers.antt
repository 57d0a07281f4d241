-- `route_table`: the refusal, or the tree of the job that was read.
use Rattle.std.proofs.Common.{◌≡◌, Err, rules, ap, ◌∙◌}
use Rattle.route.specs.Tables.{routing_in}
use Rattle.route.proofs.Reading.{sound, routed_is, refused_is}
use Rattle.route.proofs.route_table.Goals as goal

pub returns-in_err-job : goal.returns-in_err-job
returns-in_err-job c =
    let e : c.from_residual.result ≡ Err c.in_err-job.field-0.0 = search rules in
    ap routing_in e ∙ refused_is c.args.bytes.now c.in_err-job.ensures.is

pub planned-requires : goal.planned-requires
planned-requires c = sound c.args.bytes.now c.in_ok-job.ensures.is c.in_ok-job.ensures.filled

pub returns : goal.returns
returns c = routed_is c.args.bytes.now c.in_ok-job.job c.in_ok-job.ensures.is c.planned.ensures
