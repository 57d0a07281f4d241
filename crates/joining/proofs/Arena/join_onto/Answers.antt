-- `joining::Arena::join_onto`: one row is attached, as the tree's own joining has it.
use Rattle.joining.proofs.Placing.{next-onto, reads-onto, did_onto}
use Rattle.joining.proofs.Arena.join_onto.Goals as goal

pub terminal_row-row-requires-clause-reads_at : goal.terminal_row-row-requires-clause-reads_at
terminal_row-row-requires-clause-reads_at c = reads-onto _ c.requires

pub one_more-self-requires : goal.one_more-self-requires
one_more-self-requires c = next-onto _ c.requires

pub returns : goal.returns
returns c = did_onto _ c.requires _ c.terminal_row-row.ensures _ c.attach.ensures.attached _ c.one_more-self.ensures
