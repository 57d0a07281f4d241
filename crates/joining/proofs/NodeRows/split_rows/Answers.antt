-- `joining::NodeRows::split_rows`: the nearest point is within the limit as the branch's ends are, so the sums fit.
use Rattle.joining.proofs.Rowing.{nearest_near, path_fits, paths_fit}
use Rattle.joining.proofs.NodeRows.split_rows.Goals as goal

pub overflow_add-terminal : goal.overflow_add-terminal
overflow_add-terminal c =
    let n = nearest_near _ _ _ _ c.nearest_on-n.ensures c.view_at-at.ensures.near c.view_at-to.ensures.near in
    path_fits _ _ c.distance-d.ensures c.view_at-at.ensures.near n c.view_at-at.ensures.short

pub overflow_add-terminal-2 : goal.overflow_add-terminal-2
overflow_add-terminal-2 c =
    let n = nearest_near _ _ _ _ c.nearest_on-n.ensures c.view_at-at.ensures.near c.view_at-to.ensures.near in
    paths_fit _ _ _ c.distance-d.ensures c.distance-e.ensures c.view_at-at.ensures.near n c.requires.within c.view_at-at.ensures.short

pub overflow_add-steiner : goal.overflow_add-steiner
overflow_add-steiner c =
    let n = nearest_near _ _ _ _ c.nearest_on-n.ensures c.view_at-at.ensures.near c.view_at-to.ensures.near in
    path_fits _ _ c.distance-d.ensures c.view_at-at.ensures.near n c.view_at-at.ensures.short
