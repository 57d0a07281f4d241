-- `job::spare_used`: the three bytes in turn.
use Rattle.std.proofs.Common.{rules}
use Rattle.std.proofs.iter.runs.Sources.{ranges}
use Rattle.tree.specs.Search.{any_of}
use Rattle.job.specs.Layout.{row}
use Rattle.job.proofs.spare_used.Goals as goal

pub returns : goal.returns
unfolding any_of row
returns c = search (rules, ranges)
