-- `job::read_column`: after i turns the first i numbers of the column are those that were read, and the rest is zeros.
use Rattle.std.proofs.Common.{arith, pos, ℤ}
use Rattle.std.proofs.lemmas.List.{length-replicate}
use Rattle.job.proofs.Locals.{read_back}
use Rattle.job.proofs.Row.{fill_none, fill_more, fill_all}
use Rattle.job.proofs.Packing.{column_read}
use Rattle.job.proofs.read_column.Goals as goal

pub loop-i-init : goal.loop-i-init
loop-i-init g c = fill_none _ _ _ _

pub loop-i-preserved : goal.loop-i-preserved
loop-i-preserved g c = fill_more _ _ _ _ (pos 0) _ _ c.loop-i.invariant (omega (arith, c.requires.0, length-replicate {A = ℤ})) _ (read_back c.i32_at.type_inv c.i32_at.ensures)

pub returns : goal.returns
returns g c = column_read g.row.N c.args.s.now c.args.stride c.args.from c.args.n (fill_all _ _ _ _ _ _ _ c.loop-i.invariant (omega arith)) c.requires.0
