-- `text::put_indent`: the indent of the levels so far stands.
use Rattle.wire.specs.Puts.{Puts}
use Rattle.text.specs.Text.{indent}
use Rattle.text.proofs.put_indent.Given as goal

abbrev pub invariant-loop-k : goal.invariant-loop-k
invariant-loop-k l = Puts l.fn.out l.at (indent l._k) l.out l.p
