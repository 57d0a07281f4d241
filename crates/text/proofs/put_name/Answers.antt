-- `text::put_name`: by kind, the head and the number.
use Rattle.std.proofs.Common.{ℕ, ◌++◌, ap, sym, ◌∙◌}
use Rattle.decimal.specs.Decimal.{decimal_of}
use Rattle.decimal.specs.Text.{bytes}
use Rattle.tree.specs.Memory.{name_in}
use Rattle.tree.specs.declared.NodeName.{NodeName}
use Rattle.wire.specs.Puts.{puts_as, puts_then}
use Rattle.text.specs.Text.{head_of}
use Rattle.text.proofs.put_name.Goals as goal

pub returns-in-Source : goal.returns-in-Source
unfolding head_of
returns-in-Source c = puts_as c.put_all.ensures (ap (λ (n : NodeName). head_of (name_in n)) (sym c.in-Source.is))

pub returns-in-Steiner : goal.returns-in-Steiner
unfolding head_of
returns-in-Steiner c =
    puts_as (puts_then c.put_all-p.ensures c.put_u32.ensures)
    (ap (λ (k : ℕ). bytes "Steiner(steiner_" ++ decimal_of k) c.from.ensures ∙ ap (λ (n : NodeName). head_of (name_in n)) (sym c.in-Steiner.is))

pub returns-in-Terminal : goal.returns-in-Terminal
unfolding head_of
returns-in-Terminal c =
    puts_as (puts_then c.put_all-p-in-Terminal.ensures c.put_u32-in-Terminal.ensures)
    (ap (λ (k : ℕ). bytes "Terminal(terminal_" ++ decimal_of k) c.from-in-Terminal.ensures ∙ ap (λ (n : NodeName). head_of (name_in n)) (sym c.in-Terminal.is))
