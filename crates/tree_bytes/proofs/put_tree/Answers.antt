-- `tree_bytes::put_tree`: the header, with what the arena gives, and the records. What is allowed goes on as its 32 bits, which are its own.
use Rattle.std.proofs.Common.{rules, ◌∙◌}
use Rattle.geometry.specs.Signed.{In32, home}
use Rattle.wire.specs.Puts.{puts_as, puts_then}
use Rattle.measures.proofs.Lending.{reads}
use Rattle.tree_bytes.proofs.Whole.{whole}
use Rattle.tree_bytes.proofs.put_tree.Goals as goal

pub returns : goal.returns
returns c =
    let f = c.figures_of-f.ensures in
    let a : In32 c.args.allowed = search rules in
    puts_as (puts_then c.put_header-p.ensures c.put_records.ensures)
    (whole (reads c.args.tree) c.count_of-terminals.ensures c.count_of-steiners.ensures (f.allowed ∙ home a) f.farthest f.total f.worst)
