-- What a caller of `ferruleslate_figures` holds after the call, by a routing: each figure of the tree by its own definition. Definitions only.
use Rattle.std.specs.Prelude.{pos, neg_ℤ}
use Rattle.tree.specs.Tree.{total}
use Rattle.tree.specs.Measures.{worst}
use Rattle.route.specs.Routing.{Routing, refused, routed}
use Rattle.by_place.specs.declared.Called.{Called}

-- a refusal is minus its number, and leaves the zeros that were lent
abbrev pub called_of : Routing → Called
called_of (refused n) = record { status = neg_ℤ (pos n); allowed = pos 0; farthest = 0; total = 0; worst = 0 }
called_of (routed t) = record { status = pos 0; allowed = t.allowed; farthest = t.farthest; total = total t.nodes; worst = worst t.nodes }
