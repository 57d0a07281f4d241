-- `optimizing::tidy`: the node goes where it is lone, else all stays.
use Rattle.joining.specs.Buffers.{stored}
use Rattle.optimizing.proofs.Tidying.{may_test, stands-lone, did_tidy, left_alone}
use Rattle.optimizing.proofs.tidy.Goals as goal

pub is_lone-requires : goal.is_lone-requires
is_lone-requires c = may_test _ _ (stored c.args.arena.now) c.requires

pub remove_node-requires : goal.remove_node-requires
remove_node-requires c = stands-lone _ _ (stored c.args.arena.now) c.requires _ c.is_lone.ensures c.if-is_lone.true

pub returns-then-is_lone : goal.returns-then-is_lone
returns-then-is_lone c = did_tidy _ _ (stored c.args.arena.now) c.requires _ c.is_lone.ensures c.if-is_lone.true _ _ c.remove_node.ensures

pub returns-else-is_lone : goal.returns-else-is_lone
returns-else-is_lone c = left_alone _ _ (stored c.args.arena.now) c.requires _ c.is_lone.ensures c.if-is_lone.false
