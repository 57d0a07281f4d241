-- `sorting::put_keys`: the keys before i are those of their points.
use Rattle.std.proofs.Common.{arith, ap, ◌∙◌}
use Rattle.sorting.specs.Keys.{key_of}
use Rattle.sorting.proofs.Filling.{keyed_more}
use Rattle.sorting.proofs.put_keys.Goals as goal

pub loop-i-preserved : goal.loop-i-preserved
loop-i-preserved c = keyed_more c.loop-i.invariant (omega arith) (c.key.ensures ∙ ap (key_of _) c.point_at-p.ensures)
