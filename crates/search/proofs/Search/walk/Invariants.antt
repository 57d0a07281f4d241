-- `search::Search::walk`: at the head of the loop, what is left of the walk gives the same answer as the whole; safety says that the popped node and its children fit.
use Rattle.std.proofs.Common.{◌-◌, length}
use Rattle.tree.specs.Memory.{keepouts_of}
use Rattle.search.specs.Walk.{view_in, start}
use Rattle.search.specs.Columns.{children_in}
use Rattle.search.proofs.WalkTurns.{Round}
use Rattle.search.proofs.Search.walk.Given as goal

abbrev pub invariant-loop-turn : goal.invariant-loop-turn
invariant-loop-turn l =
    Round (keepouts_of l.self.ks.now) l.self.query (view_in l.self.nodes) (children_in l.self.links) l.n (length l.fn.stack) l.n (start l.self.query)
    l.stack l.found l.top l.looks (l.n - l._turn)
