-- `measures::edge`: the parent is the row's, and the points are those that stand there.
use Rattle.std.proofs.Common.{refl, arith}
use Rattle.measures.proofs.Lending.{reads}
use Rattle.measures.proofs.Reading.{parent_low, near_read}
use Rattle.measures.proofs.Summed.{edge_none, parent_near, edge-some}
use Rattle.measures.proofs.edge.Goals as goal

pub returns-in_default : goal.returns-in_default
returns-in_default c = (edge_none (reads c.args.tree) _ c.requires c.in_default.ensures, omega arith)

pub point_at-a-requires : goal.point_at-a-requires
point_at-a-requires c = omega (arith, parent_low (reads c.args.tree) _ c.requires c.in-Some.ensures refl, c.from.ensures, (reads c.args.tree).few)

pub distance-requires : goal.distance-requires
distance-requires c =
    let v = reads c.args.tree in
    (parent_near v _ c.requires c.in-Some.ensures c.from.ensures c.point_at-a.ensures, near_read v _ c.requires _ refl c.point_at-b.ensures)

pub returns : goal.returns
returns c = edge-some (reads c.args.tree) _ c.requires c.in-Some.ensures c.from.ensures c.point_at-a.ensures c.point_at-b.ensures c.distance.ensures
