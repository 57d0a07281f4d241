-- `sorting::sort`: the keys of the points, sorted, and read back.
use Rattle.sorting.proofs.Ordering.{sorted_points}
use Rattle.sorting.proofs.sort.Goals as goal

pub returns : goal.returns
returns c =
    sorted_points _ _ _ _ _ _ _ c.requires.even c.put_keys.ensures c.sort_keys.ensures.permutation c.sort_keys.ensures.sorted c.read_keys.ensures c.read_keys.auto.px
