-- `joining::NodeRows::terminal_row`: the parent's path and the distance from it fit.
use Rattle.joining.proofs.Rowing.{path_fits}
use Rattle.joining.proofs.NodeRows.terminal_row.Goals as goal

pub overflow_add-result : goal.overflow_add-result
overflow_add-result c = path_fits _ _ c.distance-d.ensures c.view_at-at.ensures.near c.requires.within c.view_at-at.ensures.short
