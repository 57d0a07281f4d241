-- `editing::insert_terminal_node`: 5, then 7, then what `attach_at` gives.
use Rattle.std.proofs.Common.{refl}
use Rattle.editing.specs.Edits.{insert_terminal_node}
use Rattle.editing.specs.Editing.{parent_name_of}
use Rattle.editing.proofs.Refusing.{stop, past, near, lost, there, parent-low, closest-low}
use Rattle.editing.proofs.insert_terminal_node.Goals as goal

pub returns-then-outside : goal.returns-then-outside
unfolding insert_terminal_node
returns-then-outside c = stop _ _ c.outside.ensures c.if-outside.true

pub terminal_parent-requires : goal.terminal_parent-requires
terminal_parent-requires c = near c.outside.ensures c.if-outside.false

pub returns-in_default : goal.returns-in_default
unfolding insert_terminal_node
returns-in_default c = past _ _ c.outside.ensures c.if-outside.false (lost _ c.terminal_parent.ensures c.in_default.is)

pub attach_at-requires-clause-addable : goal.attach_at-requires-clause-addable
attach_at-requires-clause-addable c = record { next = refl; within = near c.outside.ensures c.if-outside.false }

pub attach_at-requires-clause-p_lt_nodes : goal.attach_at-requires-clause-p_lt_nodes
attach_at-requires-clause-p_lt_nodes c =
    parent-low c.args.t.now _ (closest-low c.args.t.now c.args.q) (parent_name_of c.args.parent) c.terminal_parent.ensures c.in-Some.is

pub returns : goal.returns
unfolding insert_terminal_node
returns c = past _ _ c.outside.ensures c.if-outside.false (there _ c.terminal_parent.ensures c.in-Some.is c.attach_at.ensures)
