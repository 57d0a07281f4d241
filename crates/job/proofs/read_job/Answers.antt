-- `job::read_job`: where no test refuses, the job of the file.
use Rattle.std.proofs.Common.{sym, ap, subst, ◌≡◌, ◌∙◌}
use Rattle.job.specs.Job.{Job, accepted, job_of}
use Rattle.job.specs.Reading.{packed, unpacked}
use Rattle.job.specs.declared.RoutingJob.{RoutingJob}
use Rattle.job.proofs.Packing.{job-back}
use Rattle.job.proofs.Verdict.{passed}
use Rattle.job.proofs.read_job.Goals as goal

pub job_of-requires : goal.job_of-requires
job_of-requires c = (passed c.args.s.now c.in_ok-tests.ensures).few

pub returns-clause-is : goal.returns-clause-is
returns-clause-is c =
    let b = c.args.s.now in
    ap (λ (r : RoutingJob). accepted (unpacked r)) c.job_of.ensures ∙ ap accepted (job-back (job_of b)) ∙ sym c.in_ok-tests.ensures

pub returns-clause-filled : goal.returns-clause-filled
returns-clause-filled c =
    let b = c.args.s.now in
    subst (λ (r : RoutingJob). r ≡ packed (unpacked r)) (sym c.job_of.ensures) (ap packed (sym (job-back (job_of b))))
