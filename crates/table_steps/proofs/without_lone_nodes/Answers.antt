-- `table_steps::without_lone_nodes`: the table's tree, with the nodes that stay.
use Rattle.std.proofs.Common.{arith, refl}
use Rattle.tree.specs.Optimize.{optimize}
use Rattle.tree.proofs.Optimizing.{formed-optimize, fewer_optimized}
use Rattle.joining.specs.declared.Arena.{Arena}
use Rattle.joining.specs.Standing.{Anything, Became, Grows}
use Rattle.tables.specs.declared.Table.{Table}
use Rattle.tables.specs.Table.{table_tree, tabled}
use Rattle.tables.proofs.TableSizes.{size}
use Rattle.tables.proofs.Standing.{stands}
use Rattle.table_steps.proofs.Stepping.{Steps, stepping}
use Rattle.table_steps.proofs.without_lone_nodes.Goals as goal

module _ (t : Table) where
  after : {a : Arena} → Became (Grows Anything optimize) t.arena a → Steps optimize t a
  after {a} g =
      stepping t Anything tt optimize (formed-optimize (table_tree t) (tabled t).formed) (omega (arith, fewer_optimized (table_tree t) (tabled t).formed, size t, (tabled t).few))
      (tabled t).steiners a g refl refl refl

pub optimize-requires : goal.optimize-requires
optimize-requires c = stands c.args.t.now Anything tt

pub invariant_of-t : goal.invariant_of-t
invariant_of-t c = record { stands = (after c.args.t.now c.optimize.ensures).held }

pub returns : goal.returns
returns c = (after c.args.t.now c.optimize.ensures).is _
