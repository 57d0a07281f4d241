-- `tables::row_of`: a parent's index is not noNode.
use Rattle.std.proofs.Common.{ap, sym, ◌∙◌}
use Rattle.joining.specs.Store.{parent_from}
use Rattle.tables.proofs.Unpacking.{row_is, link_parent}
use Rattle.tables.proofs.row_of.Goals as goal

pub returns : goal.returns
returns c = row_is c.args.node.now c.requires _ (link_parent c.args.node.now.parent c.requires.parent ∙ ap parent_from (sym c.link_to.ensures))
