-- `sorting::sort_keys`: the definition's sorted keys.
use Rattle.sorting.proofs.KeysSorted.{keys_sorted}
use Rattle.sorting.proofs.sort_keys.Goals as goal

pub returns-clause-is : goal.returns-clause-is
returns-clause-is c = keys_sorted _ _ c.sort_unstable.ensures.permutation c.sort_unstable.ensures.sorted
