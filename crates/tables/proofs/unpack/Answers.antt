-- `tables::unpack`: the rows before i are the nodes'.
use Rattle.tables.proofs.Unpacking.{plain, turn}
use Rattle.tables.proofs.unpack.Goals as goal

pub row_of-row-requires : goal.row_of-row-requires
row_of-row-requires c = plain _ _ c.requires.unpackable _ c.loop-i-test.true _ c.from.ensures _

pub loop-i-preserved : goal.loop-i-preserved
loop-i-preserved c =
    turn _ _ c.requires.unpackable _ c.loop-i-test.true _ c.from.ensures _ _ c.loop-i.invariant _ c.row_of-row.ensures _ c.store_row.ensures
