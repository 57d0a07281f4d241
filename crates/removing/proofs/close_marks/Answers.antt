-- `removing::close_marks`: each column by itself.
use Rattle.std.proofs.Common.{arith}
use Rattle.removing.specs.Close.{GapClosed, LinksClosed}
use Rattle.removing.proofs.Moving.{at-index}
use Rattle.removing.proofs.Lending.{three}
use Rattle.removing.proofs.close_marks.Goals as goal

pub returns : goal.returns
returns c =
    let e = c.from-at.ensures in
    let x = c.close_links in
    let y = c.close_gap in
    let z = c.close_gap-2 in
    let r = three (LinksClosed _ _) (GapClosed 0 _ _) c.args.marks.now x.new.col y.new.column (omega arith) x.ensures.size (y.ensures 0).size x.ensures (at-index e (y.ensures 0))
    (GapClosed 0 _ _) z.new.column (omega arith) (z.ensures 0).size (at-index e (z.ensures 0)) in
    record { parents = r.0; kinds = r.1.0; numbers = r.1.1 }
