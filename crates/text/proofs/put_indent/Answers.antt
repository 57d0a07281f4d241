-- `text::put_indent`: the indent of the levels so far stands.
use Rattle.std.proofs.Common.{ap, arith}
use Rattle.wire.specs.Puts.{puts_as, puts_none, puts_then}
use Rattle.text.specs.Text.{indent}
use Rattle.text.proofs.Lines.{indent-none, indent_more}
use Rattle.text.proofs.put_indent.Goals as goal

pub loop-k-init : goal.loop-k-init
loop-k-init c = puts_as (puts_none _ _ (omega arith) (omega arith)) indent-none

pub loop-k-preserved : goal.loop-k-preserved
loop-k-preserved c = puts_as (puts_then c.loop-k.invariant c.put_all-p.ensures) (indent_more c.loop-k._k)

pub returns : goal.returns
returns c = puts_as c.loop-k.invariant (ap indent (omega (arith, c.loop-k.auto._k-end)))
