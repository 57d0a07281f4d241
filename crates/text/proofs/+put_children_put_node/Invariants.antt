-- `text::put_node` and `text::put_children`: the levels fall, or the siblings that are left.
use Rattle.std.proofs.Common.{◌+◌, ◌*◌, length}
use Rattle.joining.specs.Buffers.{column}
use Rattle.measures.specs.Children.{chain_at}
use Rattle.text.proofs.+put_children_put_node.Given as goal

abbrev pub decreases-put_children : goal.decreases-put_children
decreases-put_children l = 70000 * l.left + length (chain_at (column 1 l.tree.arena.now.links) l.child) + 1

abbrev pub decreases-put_node : goal.decreases-put_node
decreases-put_node l = 70000 * l.left
