-- `lists::write_path`: what the writer writes, with as many steps as there are nodes.
use Rattle.std.proofs.Common.{rules, ◌∙◌}
use Rattle.tree.specs.Measures.{path_down}
use Rattle.output.proofs.Answering.{answers_of}
use Rattle.measures.specs.Standing.{nodes_in}
use Rattle.measures.proofs.Lending.{reads}
use Rattle.lists.proofs.Paths.{path-whole}
use Rattle.lists.proofs.write_path.Goals as goal

pub returns : goal.returns
returns c =
    let ns = nodes_in c.args.tree.arena.now in
    answers_of ((λ i. path_down ns (c.from-left.ensures i) c.args.node.0) ∙ path-whole (reads c.args.tree) c.args.node.0)
    (c.write_measured.ensures _ (record { measures = λ m none p. search (rules, p.met, p.shows, p.leaves); writes = λ r out' p. search (rules, p.met, p.shows, p.leaves) }))
