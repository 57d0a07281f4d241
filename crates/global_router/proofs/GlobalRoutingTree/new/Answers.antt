-- `GlobalRoutingTree::new`: 5 for a point outside the limit.
use Rattle.std.proofs.Common.{sym, ◌∙◌}
use Rattle.job.proofs.Accepted.{within}
use Rattle.global_router.proofs.Answering.{new_refused, new_given}
use Rattle.global_router.proofs.GlobalRoutingTree.new.Goals as goal

pub returns-then-outside : goal.returns-then-outside
returns-then-outside c = new_refused _ (sym c.outside-outside.ensures ∙ c.if-outside.true)

pub source_alone-t-requires : goal.source_alone-t-requires
source_alone-t-requires c = within _ (sym c.outside-outside.ensures ∙ c.if-outside.false)

pub returns : goal.returns
returns c = new_given _ (sym c.outside-outside.ensures ∙ c.if-outside.false) c.from_table-tree.result (c.from_table-tree.ensures ∙ c.source_alone-t.ensures)
