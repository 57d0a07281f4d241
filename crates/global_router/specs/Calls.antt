-- What the calls that give a tree answer.
use Rattle.std.specs.Prelude.{cond, Result, Ok, Err}
use Rattle.geometry.specs.declared.Point.{Point}
use Rattle.refusal.specs.declared.Refusal.{Refusal}
use Rattle.refusal.specs.Refusals.{number_of}
use Rattle.job.specs.Job.{outside}
use Rattle.route.specs.Routing.{Routing, refused, routed}
use Rattle.route.specs.Tables.{begun}
use Rattle.global_router.specs.declared.GlobalRoutingTree.{GlobalRoutingTree}
use Rattle.global_router.specs.Stored.{tree_of}

-- "A tree begins by hand from a source point, with 5 as its only refusal"
unfoldable pub new_of : Point → Routing
new_of s = cond (outside s) (refused 5) (routed (begun s))

-- the paper's number, or the tree
abbrev pub routing_from : Result GlobalRoutingTree Refusal → Routing
routing_from (Err e) = refused (number_of e)
routing_from (Ok g) = routed (tree_of g)
