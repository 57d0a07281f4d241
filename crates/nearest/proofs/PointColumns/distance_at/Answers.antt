-- `nearest::PointColumns::distance_at`: the two gaps make the distance, which is small within the limit.
use Rattle.std.proofs.Common.{rules, arith}
use Rattle.geometry.specs.Signed.{InPoint}
use Rattle.geometry.specs.Laws.{dist-small}
use Rattle.nearest.proofs.Filling.{two_gaps}
use Rattle.nearest.proofs.PointColumns.distance_at.Goals as goal

pub overflow_add-result : goal.overflow_add-result
overflow_add-result c =
    let f : InPoint c.args.q = search rules in
    omega (arith, two_gaps c.requires.near f c.min_dist-x.ensures c.min_dist-y.ensures, dist-small c.requires.near c.requires.within)

pub returns : goal.returns
returns c =
    let f : InPoint c.args.q = search rules in
    two_gaps c.requires.near f c.min_dist-x.ensures c.min_dist-y.ensures
