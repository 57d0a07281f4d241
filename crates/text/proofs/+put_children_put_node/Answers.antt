-- `text::put_node` and `text::put_children`: a node's line and then its children, with one level less; and the siblings before first.
use Rattle.std.proofs.Common.{length, arith}
use Rattle.wire.specs.Puts.{puts_as, puts_none, puts_then}
use Rattle.search.proofs.Chains.{chain-short}
use Rattle.joining.specs.Store.{link_in}
use Rattle.joining.specs.Buffers.{column}
use Rattle.measures.proofs.Lending.{reads}
use Rattle.measures.proofs.Children.{child_low, siblings_before, shorter}
use Rattle.text.proofs.Lines.{node-none, node-some, children-below, none_left, with_last}
use Rattle.text.proofs.+put_children_put_node.Goals as goal

pub put_children-returns-in_default : goal.put_children-returns-in_default
put_children-returns-in_default t c = puts_as (puts_none _ _ (omega arith) (omega arith)) (none_left (reads c.args.tree) c.requires.0 _ c.in_default.is)

pub put_children-child_before-before-requires : goal.put_children-child_before-before-requires
put_children-child_before-before-requires t c =
    omega (arith, child_low (reads c.args.tree) c.requires.0 c.in-Some.is, c.from.ensures, (reads c.args.tree).few)

pub put_children-put_children-p-requires : goal.put_children-put_children-p-requires
put_children-put_children-p-requires t c =
    let v = reads c.args.tree in
    let s = c.requires in
    let b = c.child_before-before.ensures in (
      omega (arith, c.decreases, shorter v s.0 c.in-Some.is _ c.from.ensures b),
      (siblings_before v s.0 c.in-Some.is _ c.from.ensures b, s.1),
    )

pub put_children-put_node-requires : goal.put_children-put_node-requires
put_children-put_node-requires t c =
    (omega (arith, c.decreases), (child_low (reads c.args.tree) c.requires.0 c.in-Some.is, c.requires.1))

pub put_children-returns : goal.put_children-returns
put_children-returns t c =
    puts_as (puts_then c.put_children-p.ensures c.put_node.ensures)
    (with_last (reads c.args.tree) c.requires.0 _ c.in-Some.is c.from.ensures c.child_before-before.ensures)

pub put_node-row_at-row-requires : goal.put_node-row_at-row-requires
put_node-row_at-row-requires t c = omega (arith, c.from.ensures, c.requires.0, (reads c.args.tree).few)

pub put_node-last_child-child-requires : goal.put_node-last_child-child-requires
put_node-last_child-child-requires t c = omega (arith, c.from-2.ensures, c.requires.0, (reads c.args.tree).few)

pub put_node-returns-then-left-eq0 : goal.put_node-returns-then-left-eq0
put_node-returns-then-left-eq0 t c =
    puts_as c.put_line-p.ensures (node-none (reads c.args.tree) _ _ _ c.requires.0 c.from.ensures c.row_at-row.ensures c.if-left-eq0.true)

pub put_node-put_children-requires : goal.put_node-put_children-requires
put_node-put_children-requires t c =
    let v = reads c.args.tree in
    let z = c.if-left-eq0.false in
    let prev = column 1 c.args.tree.arena.now.links in (
      omega (arith, c.decreases, chain-short (length prev) prev (link_in c.last_child-child.result), v.ends),
      (children-below v c.args.left c.args.level _ c.requires.0 c.from.ensures c.row_at-row.ensures c.from-2.ensures c.last_child-child.ensures, omega (arith, c.requires.1)),
    )

pub put_node-returns : goal.put_node-returns
put_node-returns t c =
    puts_as (puts_then c.put_line-p.ensures c.put_children.ensures)
    (node-some (reads c.args.tree) _ _ _ c.requires.0 c.from.ensures c.row_at-row.ensures c.from-2.ensures c.last_child-child.ensures c.if-left-eq0.false)
