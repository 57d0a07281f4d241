-- `optimizing::optimize`: at the loop's head what is left of the pass gives the optimized nodes.
use Rattle.std.proofs.Common.{arith}
use Rattle.joining.specs.Buffers.{stored}
use Rattle.optimizing.proofs.Passing.{starts, stands, turn, ends}
use Rattle.optimizing.proofs.optimize.Goals as goal

pub loop-i-init : goal.loop-i-init
loop-i-init c = starts _ (stored c.args.arena.now) c.requires

pub tidy-requires : goal.tidy-requires
tidy-requires c = stands _ (stored c.args.arena.now) c.requires _ _ (stored c.loop-i.arena) c.loop-i.invariant _ (omega (arith, c.loop-i-test.true))

pub loop-i-preserved : goal.loop-i-preserved
loop-i-preserved c =
    turn _ (stored c.args.arena.now) c.requires _ _ (stored c.loop-i.arena) c.loop-i.invariant _ (omega (arith, c.loop-i-test.true)) _ _ c.tidy.ensures

pub returns : goal.returns
returns c = ends _ (stored c.args.arena.now) c.requires _ _ (stored c.loop-i.arena) c.loop-i.invariant (omega (arith, c.loop-i-test.false))
