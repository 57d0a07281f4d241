-- `inserting::insert_all`: at the head of the loop the columns hold the tree of the terminals so far.
use Rattle.std.proofs.Common.{arith}
use Rattle.joining.specs.Buffers.{stored}
use Rattle.inserting.proofs.Turning.{starts, stands, turn, ends}
use Rattle.inserting.proofs.insert_all.Goals as goal

pub loop-i-init : goal.loop-i-init
loop-i-init c = starts _ _ _ (stored c.args.arena.now) c.requires.0 c.args.way _ _ c.requires.1

pub insert_terminal-requires : goal.insert_terminal-requires
insert_terminal-requires c =
    stands _ _ _ (stored c.args.arena.now) c.requires.0 c.args.way _ _ _ (stored c.loop-i.arena) c.loop-i.invariant c.loop-i-test.true _ c.query_at-b.ensures

pub loop-i-preserved : goal.loop-i-preserved
loop-i-preserved c =
    turn _ _ _ (stored c.args.arena.now) c.requires.0 c.args.way _ _ _ (stored c.loop-i.arena) c.loop-i.invariant c.loop-i-test.true _ c.query_at-b.ensures _ _ c.insert_terminal.ensures

pub returns : goal.returns
returns c = ends _ _ _ (stored c.args.arena.now) c.requires.0 c.args.way _ _ _ (stored c.loop-i.arena) c.loop-i.invariant (omega arith)
