-- `tree_bytes::put_record`: one after the other. A coordinate goes to its writer as its 32 bits, which are its own.
use Rattle.std.proofs.Common.{rules, ap, FitsSigned, w32, to_z-of_z}
use Rattle.wire.specs.Fields.{int32_bytes}
use Rattle.wire.specs.Puts.{puts_as, puts_then}
use Rattle.tree_bytes.proofs.Fields.{whole-i32}
use Rattle.tree_bytes.proofs.put_record.Goals as goal

pub returns : goal.returns
returns c =
    let x : FitsSigned w32 c.args.r.pt.xcoord = search rules in
    let y : FitsSigned w32 c.args.r.pt.ycoord = search rules in
    puts_then
    (puts_then
    (puts_then c.put_all-p1.ensures (puts_as c.put_i32-p2.ensures (ap int32_bytes (to_z-of_z x))))
    (puts_as c.put_i32-p3.ensures (ap int32_bytes (to_z-of_z y))))
    (puts_as c.put_u32.ensures (whole-i32 _))
