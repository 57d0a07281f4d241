-- Jobs in memory.
use Rattle.std.specs.Prelude.{◌≡◌}
use Rattle.job.specs.declared.RoutingJob.{RoutingJob}
use Rattle.job.specs.Reading.{packed, unpacked}
use Rattle.job.specs.Accepted.{Accepted}

-- a job in memory that was accepted
pub record Sound (j : RoutingJob) : Type 0 where
  pub packing : j ≡ packed (unpacked j)
  pub accepted : Accepted (unpacked j)
