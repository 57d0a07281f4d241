-- `removing::close_gap`: the library's copy, read at each index.
use Rattle.removing.proofs.Moving.{gap-closed}
use Rattle.removing.proofs.close_gap.Goals as goal

pub returns : goal.returns
returns g c = let e = c.copy_within.ensures in gap-closed _ _ _ _ c.requires.0 e.len e.by_index.1 e.by_index.0
