-- `inserting::route_sorted`: the source is stored, and then the terminals join.
use Rattle.joining.specs.Buffers.{stored}
use Rattle.inserting.proofs.Turning.{may_insert}
use Rattle.inserting.proofs.route_sorted.Goals as goal

pub insert_all-requires : goal.insert_all-requires
insert_all-requires c = may_insert _ _ _ (stored c.args.arena.now) c.requires _ c.store_source.ensures.begun _ c.store_source.ensures.counts
