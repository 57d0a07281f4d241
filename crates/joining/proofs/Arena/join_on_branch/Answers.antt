-- `joining::Arena::join_on_branch`: two nodes are added, as the tree's own joining has it.
use Rattle.joining.proofs.Placing.{may_split, next-split, did_split}
use Rattle.joining.proofs.Arena.join_on_branch.Goals as goal

pub split_branch-requires : goal.split_branch-requires
split_branch-requires c = may_split _ _ c.requires

pub two_more-self-requires : goal.two_more-self-requires
two_more-self-requires c = next-split _ _ c.requires

pub returns : goal.returns
returns c = did_split _ _ c.requires _ c.split_branch.ensures.split _ c.two_more-self.ensures
