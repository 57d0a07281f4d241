-- `sorting::read_keys`: the points before i are those of their keys.
use Rattle.std.proofs.Common.{rules, ap, set}
use Rattle.geometry.specs.Signed.{home}
use Rattle.sorting.proofs.Filling.{read_more}
use Rattle.sorting.proofs.read_keys.Goals as goal

pub loop-i-preserved : goal.loop-i-preserved
loop-i-preserved c =
    read_more c.loop-i.invariant c.loop-i-test.true c.point_of-p.ensures
    (ap (set c.loop-i.px c.loop-i.i) (home (search rules))) (ap (set c.loop-i.py c.loop-i.i) (home (search rules)))
