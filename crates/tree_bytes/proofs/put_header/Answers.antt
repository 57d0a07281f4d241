-- `tree_bytes::put_header`: one after the other. What is allowed goes to its writer as its 32 bits, which are its own.
use Rattle.std.proofs.Common.{rules, ap, FitsSigned, w32, to_z-of_z}
use Rattle.wire.specs.Fields.{int32_bytes}
use Rattle.wire.specs.Puts.{puts_as, puts_then}
use Rattle.tree_bytes.specs.TreeBytes.{header_of}
use Rattle.tree_bytes.proofs.Fields.{whole-i32}
use Rattle.tree_bytes.proofs.put_header.Goals as goal

pub returns : goal.returns
unfolding header_of
returns c =
    let a : FitsSigned w32 c.args.f.allowed = search rules in
    puts_then
    (puts_then
    (puts_then
    (puts_then
    (puts_then c.put_all-p1.ensures c.put_u32-p2.ensures)
    (puts_as c.put_i32-p3.ensures (ap int32_bytes (to_z-of_z a))))
    (puts_as c.put_u32-p4.ensures (whole-i32 _)))
    (puts_as c.put_u32-p5.ensures (whole-i32 _)))
    (puts_as c.put_u32.ensures (whole-i32 _))
