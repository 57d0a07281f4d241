-- `editing::insert_steiner_node`: 5, then 7, then what `attach_at` gives.
use Rattle.std.proofs.Common.{refl}
use Rattle.editing.specs.Edits.{insert_steiner_node}
use Rattle.editing.specs.Editing.{parent_name_of}
use Rattle.editing.proofs.Refusing.{stop, past, near, lost, there, some, parent-low}
use Rattle.editing.proofs.insert_steiner_node.Goals as goal

pub returns-then-outside : goal.returns-then-outside
unfolding insert_steiner_node
returns-then-outside c = stop _ _ c.outside.ensures c.if-outside.true

pub returns-in_default : goal.returns-in_default
unfolding insert_steiner_node
returns-in_default c = past _ _ c.outside.ensures c.if-outside.false (lost _ c.steiner_parent.ensures c.in_default.is)

pub attach_at-requires-clause-addable : goal.attach_at-requires-clause-addable
attach_at-requires-clause-addable c = record { next = refl; within = near c.outside.ensures c.if-outside.false }

pub attach_at-requires-clause-p_lt_nodes : goal.attach_at-requires-clause-p_lt_nodes
attach_at-requires-clause-p_lt_nodes c =
    parent-low c.args.t.now 0 (some c.args.t.now) (parent_name_of c.args.parent) c.steiner_parent.ensures c.in-Some.is

pub returns : goal.returns
unfolding insert_steiner_node
returns c = past _ _ c.outside.ensures c.if-outside.false (there _ c.steiner_parent.ensures c.in-Some.is c.attach_at.ensures)
