-- A job that was read is sound, and routing it is what its bytes get.
use Rattle.std.proofs.Common.{ℕ, ◌≡◌, refl, sym, ap, ◌∙◌, List}
use Rattle.job.specs.declared.RoutingJob.{RoutingJob}
use Rattle.job.specs.Job as J
use Rattle.job.specs.Job.{read_job}
use Rattle.job.specs.Reading.{packed, unpacked}
use Rattle.job.proofs.Accepted.{accepted-job}
use Rattle.tree.specs.Tree.{Tree}
use Rattle.route.specs.Routing.{Routing, refused, routed, tree_for, routing_of, route_of}
use Rattle.route.specs.Jobs.{Sound}

module _ (b : List ℕ) where
  pub sound : {j : RoutingJob} → J.accepted (unpacked j) ≡ read_job b → j ≡ packed (unpacked j) → Sound j
  sound is filled = record { packing = filled; accepted = accepted-job b (sym is) }

  pub routed_is : (j : RoutingJob) {t : Tree} → J.accepted (unpacked j) ≡ read_job b → t ≡ tree_for (unpacked j) → routed t ≡ route_of b
  unfolding route_of
  routed_is j is e = ap routed e ∙ ap routing_of is

  pub refused_is : {n : ℕ} → J.refused n ≡ read_job b → refused n ≡ route_of b
  unfolding route_of
  refused_is is = ap routing_of is
