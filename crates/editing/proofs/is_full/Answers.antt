-- `editing::is_full`: one node and no Steiner number, or two and the next one.
use Rattle.std.proofs.Common.{ap, sym, ◌∙◌}
use Rattle.search.specs.declared.Join.{Join}
use Rattle.search.specs.Find.{join_of}
use Rattle.tree.specs.WellFormed.{new_nodes}
use Rattle.table_steps.specs.Steps.{new_number}
use Rattle.editing.specs.Editing.{overfull}
use Rattle.editing.proofs.is_full.Goals as goal

pub returns-in-Onto : goal.returns-in-Onto
returns-in-Onto c =
    c.overfull.ensures ∙ ap (λ (j : Join). overfull c.args.k.nodes (new_nodes (join_of j)) (new_number c.args.k (join_of j))) (sym c.in-Onto.is)

pub returns-in-Split : goal.returns-in-Split
returns-in-Split c =
    c.overfull-in-Split.ensures ∙ ap (λ (j : Join). overfull c.args.k.nodes (new_nodes (join_of j)) (new_number c.args.k (join_of j))) (sym c.in-Split.is)
