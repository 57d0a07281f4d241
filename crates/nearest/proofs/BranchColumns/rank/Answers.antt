-- `nearest::BranchColumns::rank`: the parent's index is the number itself, and the columns' numbers are small enough for each sum.
use Rattle.std.proofs.Common.{◌+◌, ap, arith}
use Rattle.std.proofs.Math.ListN.{get_or}
use Rattle.nearest.specs.Ranks.{excess, branch_rank}
use Rattle.nearest.proofs.Ranking.{excess_small}
use Rattle.nearest.proofs.BranchColumns.rank.Goals as goal

pub overflow_add-result-2 : goal.overflow_add-result-2
overflow_add-result-2 c =
    let w = c.from-p.ensures in
    omega (arith, ap (λ i. get_or c.args.self.path.now i 0) w, ap (λ i. get_or c.args.self.e.now i 0) w, excess_small _ _ c.excess.ensures)

pub returns : goal.returns
unfolding branch_rank
returns c =
    let w = c.from-p.ensures in
    omega (
      arith,
      ap (λ i. get_or c.args.self.path.now i 0) w,
      ap (λ i. get_or c.args.self.e.now i 0) w,
      c.excess.ensures,
      ap (λ i. excess (get_or c.args.self.path.now i 0 + get_or c.args.self.e.now i 0) c.args.self.allowed) w,
    )
