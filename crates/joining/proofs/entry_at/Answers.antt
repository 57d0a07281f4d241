-- `joining::entry_at`: a number of a column is that of its place.
use Rattle.std.proofs.Common.{refl}
use Rattle.joining.proofs.Blocks.{read}
use Rattle.joining.proofs.entry_at.Goals as goal

pub returns : goal.returns
returns g c = read g.row.K _ c.args.i c.requires.1 refl 0
