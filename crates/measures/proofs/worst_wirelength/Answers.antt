-- `measures::worst_wirelength`: from the source, with as many levels as there are nodes.
use Rattle.std.proofs.Common.{ap, ◌∙◌, arith}
use Rattle.tree.specs.Measures.{worst_below}
use Rattle.measures.specs.Standing.{nodes_in}
use Rattle.measures.proofs.Longest.{from_source}
use Rattle.measures.proofs.Lending.{reads}
use Rattle.measures.proofs.worst_wirelength.Goals as goal

pub returns : goal.returns
returns c =
    let w = c.worst_below.ensures in
    (from_source (reads c.args.tree) (w.0 ∙ (λ i. worst_below (nodes_in c.args.tree.arena.now) (c.from.ensures i) 0)), omega (arith, w.1, c.from.ensures))
