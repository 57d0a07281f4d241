-- The answers of the calls that give a tree, by what led to them.
use Rattle.std.proofs.Common.{◌≡◌, sym, ap, subst, ◌∙◌, true, false, List, ℕ, Ok, Err}
use Rattle.refusal.specs.declared.Refusal.TheVariants.{Outside}
use Rattle.geometry.specs.declared.Point.{Point}
use Rattle.job.specs.Job.{outside}
use Rattle.route.specs.Demand3.{Owed}
use Rattle.route.proofs.Owed.{demand3}
use Rattle.route.specs.Routing.{Routing, refused, routed, route_of}
use Rattle.route.specs.Tables.{begun}
use Rattle.global_router.specs.declared.GlobalRoutingTree.{GlobalRoutingTree}
use Rattle.global_router.specs.Stored.{tree_of}
use Rattle.global_router.specs.Calls.{routing_from, new_of}

-- ---- a tree that begins by hand
module _ (p : Point) where
  pub new_refused : outside p ≡ true → routing_from (Err Outside) ≡ new_of p
  unfolding new_of
  new_refused t = is
    where
      is : refused 5 ≡ new_of p
      is = rw t

  pub new_given : outside p ≡ false → (g : GlobalRoutingTree) → tree_of g ≡ begun p → routing_from (Ok g) ≡ new_of p
  unfolding new_of
  new_given t g h = ap routed h ∙ is
    where
      is : routed (begun p) ≡ new_of p
      is = rw t

-- what demand 3 owes of a job's answer
pub owes : (bytes : List ℕ) {r : Routing} → r ≡ route_of bytes → Owed bytes r
owes bytes is = subst (Owed bytes) (sym is) (demand3 bytes)
