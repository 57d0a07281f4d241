-- `editing::insert_node_on_branch`: 5, then 7 of either name, then 9, then what `splice_at` gives.
use Rattle.std.proofs.Common.{◌≡◌, Err, sym, ap, ◌∙◌, rules}
use Rattle.editing.specs.Edits.{insert_node_on_branch}
use Rattle.editing.specs.Editing.{edit_of}
use Rattle.tables.proofs.TableSizes.{of_all}
use Rattle.editing.proofs.Refusing.{stop, past, near, lost, there, in_tree, no_name, with_name, next_name}
use Rattle.editing.proofs.insert_node_on_branch.Goals as goal

pub returns-then-outside : goal.returns-then-outside
unfolding insert_node_on_branch
returns-then-outside c = stop _ _ c.outside.ensures c.if-outside.true

pub returns-in_default : goal.returns-in_default
unfolding insert_node_on_branch
returns-in_default c = past _ _ c.outside.ensures c.if-outside.false (lost _ (of_all c.args.t.now _ c.find_node.ensures) c.in_default.is)

pub returns-in_default-find_node : goal.returns-in_default-find_node
unfolding insert_node_on_branch
returns-in_default-find_node c =
    past _ _ c.outside.ensures c.if-outside.false
    (there _ (of_all c.args.t.now _ c.find_node.ensures) c.in-Some.is
    (lost _ (of_all c.args.t.now _ c.find_node-2.ensures) c.in_default-find_node.is))

pub splice_at-requires-clause-p_lt_nodes : goal.splice_at-requires-clause-p_lt_nodes
splice_at-requires-clause-p_lt_nodes c =
    (in_tree c.args.t.now _ c.find_node.ensures c.in-Some.is, in_tree c.args.t.now _ c.find_node-2.ensures c.in-Some-find_node.is)

pub returns-in_err-name : goal.returns-in_err-name
unfolding insert_node_on_branch
returns-in_err-name c =
    let h : c.from_residual.result ≡ Err c.in_err-name.field-0.0 = search (rules, c.from_residual.ensures) in
    past _ _ c.outside.ensures c.if-outside.false
    (there _ (of_all c.args.t.now _ c.find_node.ensures) c.in-Some.is
    (there _ (of_all c.args.t.now _ c.find_node-2.ensures) c.in-Some-find_node.is
    (ap edit_of h ∙ no_name c.args.t.now c.args.q _ _ c.args.kind _ (sym c.new_name.ensures ∙ c.in_err-name.was))))

pub splice_at-requires-clause-addable : goal.splice_at-requires-clause-addable
splice_at-requires-clause-addable c =
    record { next = next_name c.args.t.now.arena.counts c.args.kind _ (sym c.new_name.ensures ∙ c.in_ok-name.was); within = near c.outside.ensures c.if-outside.false }

pub returns : goal.returns
unfolding insert_node_on_branch
returns c =
    past _ _ c.outside.ensures c.if-outside.false
    (there _ (of_all c.args.t.now _ c.find_node.ensures) c.in-Some.is
    (there _ (of_all c.args.t.now _ c.find_node-2.ensures) c.in-Some-find_node.is
    (with_name c.args.t.now c.args.q _ _ c.args.kind _ (sym c.new_name.ensures ∙ c.in_ok-name.was) c.splice_at.ensures)))
