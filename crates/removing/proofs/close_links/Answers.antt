-- `removing::close_links`: the places move down, and then the links in them are lowered.
use Rattle.std.proofs.Common.{arith}
use Rattle.removing.proofs.Moving.{at-index, links-closed}
use Rattle.removing.proofs.close_links.Goals as goal

pub returns : goal.returns
returns c = links-closed _ _ _ _ _ _ (omega (arith, c.requires.0)) c.requires.0 (at-index c.from.ensures (c.close_gap.ensures 0)) c.lower_links.ensures
