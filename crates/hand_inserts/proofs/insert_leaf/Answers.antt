-- `hand_inserts::insert_leaf`: a row with path 0 is attached below p.
use Rattle.hand_inserts.proofs.Naming.{may_count}
use Rattle.hand_inserts.proofs.Leaf.{did_leaf}
use Rattle.hand_inserts.proofs.insert_leaf.Goals as goal

pub counts_after-arena-requires : goal.counts_after-arena-requires
counts_after-arena-requires c = may_count c.requires

pub returns : goal.returns
returns c = did_leaf c.args.name _ c.requires _ c.new_row-row.ensures _ c.attach.ensures.attached _ c.counts_after-arena.ensures
