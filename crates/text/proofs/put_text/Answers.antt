-- `text::put_text`: the source and all below it is the whole text.
use Rattle.std.proofs.Common.{ap, ◌∙◌, arith}
use Rattle.wire.specs.Puts.{puts_as}
use Rattle.text.specs.Text.{text_from}
use Rattle.measures.specs.Standing.{nodes_in}
use Rattle.measures.proofs.Lending.{reads}
use Rattle.text.proofs.Lines.{whole}
use Rattle.text.proofs.put_text.Goals as goal

pub returns : goal.returns
returns c = puts_as c.put_node.ensures ((λ i. text_from (nodes_in c.args.tree.arena.now) (c.from.ensures i) 0 0) ∙ whole (reads c.args.tree))
