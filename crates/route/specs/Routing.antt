-- The answer of routing a job: "the refusal or the tree". Definitions only.
use Rattle.std.specs.Prelude.{List, ℕ}
use Rattle.allowance.specs.Allowance.{allowed_of}
use Rattle.tree.specs.Tree.{Tree}
use Rattle.tree.specs.Route as T
use Rattle.job.specs.declared.Mode.{Mode}
use Rattle.job.specs.declared.Mode.TheVariants.{Simple, Steiners, Constraints}
use Rattle.job.specs.Job as J
use Rattle.job.specs.Job.{Job, read_job}

pub data Routing : Type 0 where
  refused : ℕ → Routing
  routed : Tree → Routing

-- with constraints, allowed comes from W by the multiplier
abbrev pub way_of : Mode → T.Mode
way_of Simple = T.simple
way_of Steiners = T.steiners
way_of (Constraints m) = T.constraints (λ w. allowed_of w m)

-- the tree of an accepted job
abbrev pub tree_for : Job → Tree
tree_for j = T.route (way_of j.mode) j.source j.terminals j.keepouts

abbrev pub routing_of : J.Answer → Routing
routing_of (J.refused n) = refused n
routing_of (J.accepted j) = routed (tree_for j)

-- of a job's bytes
unfoldable pub route_of : List ℕ → Routing
route_of b = routing_of (read_job b)
