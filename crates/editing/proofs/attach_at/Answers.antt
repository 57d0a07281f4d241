-- `editing::attach_at`: 10, or the tree with the new node.
use Rattle.editing.proofs.Refusing.{stop, past, full-one, room_for, gives}
use Rattle.editing.proofs.attach_at.Goals as goal

pub returns-then-overfull : goal.returns-then-overfull
returns-then-overfull c = stop _ _ (full-one c.args.t.now _ c.steiner_number.ensures c.overfull.ensures) c.if-overfull.true

pub with_leaf-requires-clause-p_lt_nodes : goal.with_leaf-requires-clause-p_lt_nodes
with_leaf-requires-clause-p_lt_nodes c = (c.requires.p_lt_nodes, room_for c.args.t.now _ c.steiner_number.ensures c.overfull.ensures c.if-overfull.false)

pub returns : goal.returns
returns c = past _ _ (full-one c.args.t.now _ c.steiner_number.ensures c.overfull.ensures) c.if-overfull.false (gives _ c.with_leaf.ensures)
