-- `reading::read_figures`: of the arena's nodes. The search finds this too, but refuses a wrong body only by a limit of its own.
use Rattle.std.proofs.Common.{ap, ◌∙◌}
use Rattle.tree.specs.Tree.{total}
use Rattle.tree.specs.Measures.{worst}
use Rattle.reading.proofs.Standing.{nodes_lent}
use Rattle.reading.proofs.read_figures.Goals as goal

pub returns-clause-total : goal.returns-clause-total
returns-clause-total c = c.figures_of.ensures.total ∙ ap total (nodes_lent c.args.t.now c.lend.ensures)

pub returns-clause-worst : goal.returns-clause-worst
returns-clause-worst c = c.figures_of.ensures.worst ∙ ap worst (nodes_lent c.args.t.now c.lend.ensures)
