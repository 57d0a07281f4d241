-- `tree_bytes::record_at`: each field as it is read.
use Rattle.std.proofs.Common.{ap, sym, ◌∙◌, arith}
use Rattle.tree_bytes.specs.TreeBytes.{parent_byte}
use Rattle.measures.proofs.Lending.{reads}
use Rattle.measures.proofs.Reading.{parent_is}
use Rattle.tree_bytes.proofs.Fields.{number-low, parent-fits, shown}
use Rattle.tree_bytes.proofs.record_at.Goals as goal

pub parent_byte-parent-requires : goal.parent_byte-parent-requires
parent_byte-parent-requires c = parent-fits (reads c.args.tree) _ c.requires c.parent_at.ensures

pub overflow_cast-number : goal.overflow_cast-number
overflow_cast-number c = omega (arith, number-low (reads c.args.tree) _ c.requires c.row_at-row.ensures, c.number-number.ensures)

pub returns : goal.returns
returns c =
    let v = reads c.args.tree in
    shown v _ c.requires c.row_at-row.ensures (c.kind_byte-kind.ensures ∙ c.node_type.ensures)
    (c.parent_byte-parent.ensures ∙ ap parent_byte (sym (parent_is v _ c.requires c.parent_at.ensures))) c.number-number.ensures c.place-place.ensures
