-- `search::Search::examine_children`: at the head of the loop, the children that are left give the same walk as all of them.
use Rattle.std.proofs.Common.{length, get_or}
use Rattle.tree.specs.Memory.{keepouts_of}
use Rattle.search.specs.Walk.{view_in, link_in}
use Rattle.search.specs.Columns.{chain}
use Rattle.search.specs.Thin.{is_wanted}
use Rattle.search.proofs.ChildTurns.{Turn}
use Rattle.search.proofs.Search.examine_children.Given as goal

abbrev pub invariant-loop-child : goal.invariant-loop-child
invariant-loop-child l =
    Turn (keepouts_of l.self.ks.now) l.self.query (view_in l.self.nodes) (λ b. is_wanted l.self.links.last.now) l.at l.self.links.prev.now
    (get_or l.self.links.last.now l.at.node.0 0) l.fn.b l.fn.stack l.from l.stack l.found l.top l.looks l.child

abbrev pub decreases-loop-child : goal.decreases-loop-child
decreases-loop-child l = length (chain l.self.links.prev.now (link_in l.child))
