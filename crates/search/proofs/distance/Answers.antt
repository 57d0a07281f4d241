-- `search::distance`: within the limit the distance is at most 4,000,000.
use Rattle.std.proofs.Common.{arith}
use Rattle.geometry.specs.Laws.{dist-small}
use Rattle.search.proofs.distance.Goals as goal

pub overflow_cast-result : goal.overflow_cast-result
overflow_cast-result c = omega (arith, c.min_dist_with.ensures, dist-small c.requires.0 c.requires.1)
