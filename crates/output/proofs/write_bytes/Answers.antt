-- `output::write_bytes`: refused or written, by its length.
use Rattle.output.proofs.Answering.{too_long, whole}
use Rattle.output.proofs.write_bytes.Goals as goal

pub returns-then-out-s : goal.returns-then-out-s
returns-then-out-s c = too_long _ c.if-out-s.true

pub returns : goal.returns
returns c = whole _ c.if-out-s.false c.put_all.ensures
