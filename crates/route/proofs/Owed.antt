-- Demand 3 holds: order-freedom from the readings and from the trees, and the rest from what is proved of a routed tree (tree/proofs/Routing.antt).
use Rattle.std.proofs.Common.{◌≡◌, refl, ap, subst, ◌∙◌, ℕ, ℤ}
use lib.Ieee.{Float}
use Rattle.allowance.specs.Allowance.{allowed_of}
use Rattle.tree.specs.Tree.{Tree}
use Rattle.tree.specs.Route as T
use Rattle.tree.proofs.Bounds.{Bounded}
use Rattle.tree.proofs.Alike.{route_alike}
use Rattle.tree.proofs.Order.{times-sort}
use Rattle.tree.proofs.Climbing.{reaches, path_is_sum}
use Rattle.tree.proofs.Routing as R
use Rattle.tree.proofs.Routing.{same_limits, route-terminals, route_bounded, route-total}
use Rattle.job.specs.declared.Mode.{Mode}
use Rattle.job.specs.declared.Mode.TheVariants.{Constraints}
use Rattle.job.specs.Job as J
use Rattle.job.specs.Job.{Job, read_job}
use Rattle.job.specs.Alike.{SameJobs, SameReading}
use Rattle.job.proofs.Alike.{read_alike}
use Rattle.route.specs.Routing.{refused, routed, way_of, tree_for, routing_of, route_of}
use Rattle.route.specs.Demand3.{farthest_of, allowance_of, Constrained, Demand3}

-- ---- order
same-tree : (j k : Job) → SameJobs j k → tree_for j ≡ tree_for k
same-tree j k h =
    route_alike (way_of j.mode) j.source j.terminals k.terminals j.keepouts k.keepouts h.terminals h.keepouts
    ∙ (λ i. T.route (way_of (h.mode i)) (h.source i) k.terminals k.keepouts)

same_routing : (x y : J.Answer) → SameReading x y → routing_of x ≡ routing_of y
same_routing (J.refused m) (J.refused n) h = ap refused h
same_routing (J.refused m) (J.accepted k) h = absurd h
same_routing (J.accepted j) (J.refused n) h = absurd h
same_routing (J.accepted j) (J.accepted k) h = ap routed (same-tree j k h)

-- ---- constraints
module _ (j : Job) (m : Float) where
  abbrev tree : Tree
  tree = T.route (T.constraints (λ w. allowed_of w m)) j.source j.terminals j.keepouts

  figures : (tree.allowed ≡ allowance_of j m) × (tree.limit ≡ farthest_of j) × (tree.farthest ≡ farthest_of j)
  figures = same_limits j.source j.keepouts (T.sort j.source j.terminals) (T.rooted j.source (allowance_of j m) (farthest_of j) (farthest_of j))

  constrained : Constrained j m tree
  constrained =
      let allowance : ℕ → ℤ = λ w. allowed_of w m in
      let r = R.routed j.source j.terminals j.keepouts allowance in
      let bounded : Bounded j.source (allowance_of j m) (farthest_of j) tree.nodes =
      subst (λ (a : ℤ). Bounded j.source a (farthest_of j) tree.nodes) figures.0 (route_bounded j.source j.terminals j.keepouts allowance) in
      record {
        exact = refl;
        by_number = route-terminals j.source j.terminals j.keepouts allowance;
        as_often = times-sort j.source j.terminals;
        to_source = reaches r.linked;
        path-sums = path_is_sum r.linked r.measured;
        carries = (figures.0, figures.2, figures.1);
        within = λ i k l e. (bounded i k l e).inside;
        beyond = λ i k l e. (bounded i k l e).outside;
        total-low = route-total j.source j.terminals j.keepouts allowance;
      }

  constrained-tree : j.mode ≡ Constraints m → tree_for j ≡ tree
  constrained-tree e = ap (λ (x : Mode). T.route (way_of x) j.source j.terminals j.keepouts) e

pub demand3 : Demand3
unfolding route_of
demand3 b =
    record {
      same_answer = λ a h. same_routing (read_job a) (read_job b) (read_alike a b h);
      constrained = λ j m e f.
          (tree j m, ap routing_of e ∙ ap routed (constrained-tree j m f), constrained j m);
    }
