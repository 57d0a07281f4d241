-- `removing::close_all_links`: each column by itself.
use Rattle.std.proofs.Common.{arith}
use Rattle.removing.specs.Close.{LinksClosed}
use Rattle.removing.proofs.Lending.{three}
use Rattle.removing.proofs.close_all_links.Goals as goal

pub returns : goal.returns
returns c =
    let x = c.close_links in
    let y = c.close_links-2 in
    let z = c.close_links-3 in
    let r = three (LinksClosed _ _) (LinksClosed _ _) c.args.links.now x.new.col y.new.col (omega arith) x.ensures.size y.ensures.size x.ensures y.ensures
    (LinksClosed _ _) z.new.col (omega arith) z.ensures.size z.ensures in
    record { lasts = r.0; prevs = r.1.0; nexts = r.1.1 }
