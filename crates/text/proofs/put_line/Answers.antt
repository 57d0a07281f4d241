-- `text::put_line`: the parts one after the other. A coordinate goes to its writer as its 32 bits, which are its own.
use Rattle.std.proofs.Common.{rules, ap, FitsSigned, w32, to_z-of_z}
use Rattle.decimal.specs.Decimal.{int_text}
use Rattle.wire.specs.Puts.{puts_as, puts_then}
use Rattle.text.specs.Text.{line_of}
use Rattle.text.proofs.put_line.Goals as goal

pub returns : goal.returns
unfolding line_of
returns c =
    let x : FitsSigned w32 c.args.pt.xcoord = search rules in
    let y : FitsSigned w32 c.args.pt.ycoord = search rules in
    puts_then
    (puts_then
    (puts_then
    (puts_then
    (puts_then (puts_then c.put_indent-p1.ensures c.put_name-p2.ensures) c.put_all-p3.ensures)
    (puts_as c.put_i32-p4.ensures (ap int_text (to_z-of_z x))))
    c.put_all-p5.ensures)
    (puts_as c.put_i32-p6.ensures (ap int_text (to_z-of_z y))))
    c.put_all.ensures
