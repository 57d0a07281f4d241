-- `editing::splice_at`: 8, then 10, or the tree with the new node.
use Rattle.std.proofs.Common.{ap, not}
use Rattle.editing.proofs.Refusing.{stop, past, full-one, room_for, gives, is_child_of_lem}
use Rattle.editing.proofs.splice_at.Goals as goal

pub returns-then-overfull : goal.returns-then-overfull
returns-then-overfull c =
    past _ _ (ap not c.is_child.ensures) (ap not c.if-not-is_child.false)
    (stop _ _ (full-one c.args.t.now _ c.steiner_number.ensures c.overfull.ensures) c.if-overfull.true)

pub with_node_between-requires-clause-c_value : goal.with_node_between-requires-clause-c_value
with_node_between-requires-clause-c_value c =
    (is_child_of_lem _ _ _ c.is_child.ensures (ap not c.if-not-is_child.false), room_for c.args.t.now _ c.steiner_number.ensures c.overfull.ensures c.if-overfull.false)

pub returns : goal.returns
returns c =
    past _ _ (ap not c.is_child.ensures) (ap not c.if-not-is_child.false)
    (past _ _ (full-one c.args.t.now _ c.steiner_number.ensures c.overfull.ensures) c.if-overfull.false (gives _ c.with_node_between.ensures))
