-- `nearest::PointColumns::rank`: the distance is small enough to be counted in steps of 256.
use Rattle.std.proofs.Common.{arith}
use Rattle.geometry.specs.Laws.{dist-small}
use Rattle.nearest.proofs.PointColumns.rank.Goals as goal

pub overflow_mul-result : goal.overflow_mul-result
overflow_mul-result c = let v = c.requires.0 in omega (arith, c.distance_at.ensures, dist-small v.near v.within)

pub overflow_add-result : goal.overflow_add-result
overflow_add-result c = let v = c.requires.0 in omega (arith, c.distance_at.ensures, dist-small v.near v.within)
