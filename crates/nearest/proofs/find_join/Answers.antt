-- `nearest::find_join`: without keepouts a branch that is alone the nearest is where the search joins; else the search is asked.
use Rattle.std.proofs.Common.{arith}
use Rattle.nearest.proofs.Standing.{summed_columns}
use Rattle.nearest.proofs.Joining.{in_columns, joins-there}
use Rattle.nearest.proofs.find_join.Goals as goal

pub find_nearest-requires : goal.find_nearest-requires
find_nearest-requires c = summed_columns c.requires

pub join_on-requires : goal.join_on-requires
join_on-requires c = let s = c.in-Some.ensures.sole in in_columns (summed_columns c.requires) s.some s.in_n

pub returns-in-Some : goal.returns-in-Some
returns-in-Some c =
    joins-there c.requires c.args.ks.now (omega arith) c.in-Some.ensures c.join_on.ensures c.found_at.ensures.0 c.found_at.ensures.1
