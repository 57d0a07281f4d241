-- `removing::close_points`: each column by itself.
use Rattle.std.proofs.Common.{pos, arith}
use Rattle.removing.specs.Close.{GapClosed}
use Rattle.removing.proofs.Lending.{two}
use Rattle.removing.proofs.close_points.Goals as goal

pub returns : goal.returns
returns c =
    let x = c.close_gap in
    let y = c.close_gap-2 in
    let r = two (GapClosed (pos 0) _ _) (GapClosed (pos 0) _ _) c.args.points.now x.new.column y.new.column (omega arith) (x.ensures (pos 0)).size (y.ensures (pos 0)).size (x.ensures (pos 0)) (y.ensures (pos 0)) in
    record { xs = r.0; ys = r.1 }
