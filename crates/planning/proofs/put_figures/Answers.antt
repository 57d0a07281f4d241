-- `planning::put_figures`: the parts one after the other. The allowance goes to its writer as its 32 bits, which are its own.
use Rattle.std.proofs.Common.{ap, rules}
use Rattle.geometry.specs.Signed.{In32, home}
use Rattle.decimal.specs.Decimal.{int_text}
use Rattle.wire.specs.Puts.{puts_as, puts_then}
use Rattle.planning.specs.Output.{figures_line}
use Rattle.planning.proofs.put_figures.Goals as goal

pub returns : goal.returns
unfolding figures_line
returns c =
    let f : In32 c.args.f.allowed = search rules in
    puts_then
    (puts_then
    (puts_then
    (puts_then
    (puts_then
    (puts_then
    (puts_then
    (puts_then c.put_bytes-p1.ensures (puts_as c.put_i32-p2.ensures (ap int_text (home f))))
    c.put_bytes-p3.ensures)
    c.put_u32-p4.ensures)
    c.put_bytes-p5.ensures)
    c.put_u32-p6.ensures)
    c.put_bytes-p7.ensures)
    c.put_u32-p8.ensures)
    c.put_bytes.ensures
