-- `route::plan`: W, the sorted columns, the mode's choice, and the route.
use Rattle.route.proofs.Planning.{sorted_plannable, figures_small, planned}
use Rattle.route.proofs.plan.Goals as goal

pub route_columns-requires : goal.route_columns-requires
route_columns-requires c =
    record {
      plannable = sorted_plannable _ _ _ c.args.mode c.requires _ _ c.sort.ensures _ c.farthest-w.ensures _ c.choose-c.ensures;
      small = figures_small _ _ _ c.args.mode c.requires _ _ c.sort.ensures _ c.farthest-w.ensures _ c.choose-c.ensures;
    }

pub returns : goal.returns
returns c =
    planned _ _ _ c.args.mode c.requires _ _ c.sort.ensures _ c.farthest-w.ensures _ c.choose-c.ensures _ _ c.route_columns.ensures
