-- `search::find_insertion_point`: a stack as high as the most nodes is enough for any tree that stands in the columns.
use Rattle.search.proofs.TreeWalk.{ready_sound, ready_safe, joins}
use Rattle.search.proofs.find_insertion_point.Goals as goal

pub walk-requires-clause-tree_columns : goal.walk-requires-clause-tree_columns
walk-requires-clause-tree_columns c = ready_sound c.requires

pub walk-requires-clause-safe_on : goal.walk-requires-clause-safe_on
walk-requires-clause-safe_on c = ready_safe c.requires _

pub returns : goal.returns
returns c = joins _ _ _ _ _ _ _ _ _ c.walk.ensures
