-- `hand_inserts::insert_between`: rows are stored, and then links changed.
use Rattle.std.proofs.Common.{arith}
use Rattle.joining.proofs.Blocks.{column-most}
use Rattle.hand_inserts.proofs.Naming.{may_count}
use Rattle.hand_inserts.proofs.Branch.{may_store, may_link, did_between}
use Rattle.hand_inserts.proofs.insert_between.Goals as goal

pub store_between-requires : goal.store_between-requires
store_between-requires c =
    let v = may_store c.args.name _ _ c.requires in
    let m = column-most 0 c.args.arena.now.nodes.points in
    (omega (arith, v.0, m), omega (arith, v.1, m))

pub link_between-requires : goal.link_between-requires
link_between-requires c = may_link c.args.name _ _ c.requires

pub counts_after-arena-requires : goal.counts_after-arena-requires
counts_after-arena-requires c = may_count c.requires

pub returns : goal.returns
returns c =
    did_between c.args.name _ _ c.requires _ c.new_row-row.ensures _ c.store_between.ensures c.link_between.ensures _ c.counts_after-arena.ensures
