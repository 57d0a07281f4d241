-- `nearest::BranchColumns::two_least`: the two are those of the branches before c.
use Rattle.std.proofs.Common.{◌≤◌, max}
use Rattle.nearest.specs.Ranks.{branch_rank, entry}
use Rattle.nearest.specs.Sole.{TwoLeast}
use Rattle.nearest.proofs.Leasts.{least_of}
use Rattle.nearest.proofs.BranchColumns.two_least.Given as goal

abbrev pub invariant-loop-c : goal.invariant-loop-c
invariant-loop-c l = (l.c ≤ max l.n 1) × TwoLeast (branch_rank (entry l.self.e.now) (entry l.self.path.now) (entry l.self.parent.now) l.self.allowed) l.c (least_of l.first l.second)
