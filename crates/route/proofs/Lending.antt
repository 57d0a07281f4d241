-- What an accepted job in memory lends to the router; and the plan of it is the tree of the job.
use Rattle.std.proofs.Common.{ℕ, ◌*◌, ◌≤◌, ◌<◌, ◌≡◌, sym, ap, subst, ◌∙◌, List, arith, length, take, length-take-le, get_or-take, ℤ, pos}
use Rattle.std.proofs.Math.ListN.{length-map}
use Rattle.geometry.specs.declared.Point.{Point}
use Rattle.geometry.specs.Laws.{Within}
use Rattle.tree.specs.Limits.{reach, most_terminals, most_keepouts}
use Rattle.tree.specs.Route.{route}
use Rattle.job.specs.declared.RoutingJob.{RoutingJob}
use Rattle.job.specs.Job.{Job}
use Rattle.job.specs.Reading.{xcoords, ycoords, flat, unpacked}
use Rattle.job.proofs.Packing.{filled-length, flat-length, xs_back, ys_back, flat_back, points-back, rectangles_back}
use Rattle.job.proofs.Accepted.{near_in_memory}
use Rattle.tree.specs.Memory.{point_at, points_of, keepouts_of}
use Rattle.sorting.specs.Points.{Even}
use Rattle.tables.specs.declared.Table.{Table}
use Rattle.tables.specs.Table.{table_tree}
use Rattle.route.specs.Plan.{Plannable, Planned}
use Rattle.route.specs.Routing.{way_of, tree_for}
use Rattle.route.specs.Jobs.{Sound}

module _ (j : RoutingJob) (v : Sound j) where
  abbrev J : Job
  J = unpacked j

  abbrev ts : List Point
  ts = J.terminals

  abbrev px : List ℤ
  px = take j.terminal_count j.terminal_xs

  abbrev py : List ℤ
  py = take j.terminal_count j.terminal_ys

  abbrev ks : List ℤ
  ks = take (4 * j.keepout_count) j.keepouts

  -- ---- lengths
  count_is : j.terminal_count ≡ length ts
  count_is = ap (λ (x : RoutingJob). x.terminal_count) v.packing

  keepouts_is : j.keepout_count ≡ length J.keepouts
  keepouts_is = ap (λ (x : RoutingJob). x.keepout_count) v.packing

  pub terminals-few : j.terminal_count ≤ most_terminals
  terminals-few = omega (arith, count_is, v.accepted.few-terminals)

  pub keepouts-few : j.keepout_count ≤ most_keepouts
  keepouts-few = omega (arith, keepouts_is, v.accepted.few-keepouts)

  xs_length : length j.terminal_xs ≡ most_terminals
  xs_length = ap (λ (x : RoutingJob). length x.terminal_xs) v.packing ∙ filled-length most_terminals (xcoords ts) (omega (arith, length-map ts (λ (p : Point). p.xcoord), v.accepted.few-terminals))

  ys_length : length j.terminal_ys ≡ most_terminals
  ys_length = ap (λ (x : RoutingJob). length x.terminal_ys) v.packing ∙ filled-length most_terminals (ycoords ts) (omega (arith, length-map ts (λ (p : Point). p.ycoord), v.accepted.few-terminals))

  ks_length : length j.keepouts ≡ 4 * most_keepouts
  ks_length = ap (λ (x : RoutingJob). length x.keepouts) v.packing ∙ filled-length (4 * most_keepouts) (flat J.keepouts) (omega (arith, flat-length J.keepouts, v.accepted.few-keepouts))

  pub in_xs : j.terminal_count ≤ length j.terminal_xs
  in_xs = omega (arith, xs_length, terminals-few)

  pub in_ys : j.terminal_count ≤ length j.terminal_ys
  in_ys = omega (arith, ys_length, terminals-few)

  pub in_ks : 4 * j.keepout_count ≤ length j.keepouts
  in_ks = omega (arith, ks_length, keepouts-few)

  pub part_xs : j.terminal_count ≡ length px
  part_xs = sym (length-take-le _ _ in_xs)

  pub part_ys : j.terminal_count ≡ length py
  part_ys = sym (length-take-le _ _ in_ys)

  pub part_ks : 4 * j.keepout_count ≡ length ks
  part_ks = sym (length-take-le _ _ in_ks)

  -- ---- what the parts are
  xs_are : px ≡ xcoords ts
  xs_are = (λ i. take (v.packing i).terminal_count (v.packing i).terminal_xs) ∙ xs_back J

  ys_are : py ≡ ycoords ts
  ys_are = (λ i. take (v.packing i).terminal_count (v.packing i).terminal_ys) ∙ ys_back J

  ks_are : keepouts_of ks ≡ J.keepouts
  ks_are = ap keepouts_of ((λ i. take (4 * (v.packing i).keepout_count) (v.packing i).keepouts) ∙ flat_back J) ∙ rectangles_back J.keepouts

  near_in : (k : ℕ) → k < j.terminal_count → Within reach (point_at j.terminal_xs j.terminal_ys k)
  near_in k h =
      subst (λ (x : RoutingJob). Within reach (point_at x.terminal_xs x.terminal_ys k)) (sym v.packing) (near_in_memory J v.accepted k (omega (arith, count_is)))

  point_is : (k : ℕ) → k < j.terminal_count → point_at px py k ≡ point_at j.terminal_xs j.terminal_ys k
  point_is k h = λ i. record { xcoord = get_or-take j.terminal_count j.terminal_xs k (pos 0) h i; ycoord = get_or-take j.terminal_count j.terminal_ys k (pos 0) h i }

  even : Even px py
  even =
      record {
        both = sym part_ys ∙ part_xs;
        near = λ k h. let l : k < j.terminal_count = omega (arith, part_xs) in subst (Within reach) (sym (point_is k l)) (near_in k l);
      }

  pub plannable : Plannable px py j.source
  plannable =
      record {
        even = even;
        few = omega (arith, part_xs, terminals-few);
        source = v.accepted.source;
      }

  pub planned_is : (t : Table) → Planned ks px py j.source j.mode t → table_tree t ≡ tree_for J
  planned_is t p = p.tree ∙ (λ i. route (way_of j.mode) j.source (((λ k. points_of (xs_are k) (ys_are k)) ∙ points-back ts) i) (ks_are i))
