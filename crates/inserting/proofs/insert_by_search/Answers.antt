-- `inserting::insert_by_search`: the search's place is in the tree.
use Rattle.inserting.proofs.Inserting.{searchable, may_join, did_search}
use Rattle.inserting.proofs.insert_by_search.Goals as goal

pub find-f-requires : goal.find-f-requires
find-f-requires c = searchable c.requires

pub join-requires : goal.join-requires
join-requires c = may_join c.requires c.find-f.result c.find-f.ensures

pub returns : goal.returns
returns c = did_search c.requires c.find-f.result c.find-f.ensures c.join.ensures
