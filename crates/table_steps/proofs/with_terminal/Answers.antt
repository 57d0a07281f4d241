-- `table_steps::with_terminal`: the table's tree, with one node more or two.
use Rattle.std.proofs.Common.{arith, refl}
use Rattle.geometry.specs.declared.Point.{Point}
use Rattle.geometry.specs.Laws.{Within}
use Rattle.tree.specs.Limits.{most_nodes, reach}
use Rattle.tree.specs.Route.{join}
use Rattle.tree.specs.WellFormed.{Fits, new_nodes}
use Rattle.tree.proofs.Forming.{formed-join}
use Rattle.search.specs.declared.Join.{Join}
use Rattle.search.specs.Find.{join_of}
use Rattle.joining.specs.declared.Arena.{Arena}
use Rattle.joining.specs.Standing.{At, Became, Joined}
use Rattle.tables.specs.declared.Table.{Table}
use Rattle.tables.specs.Table.{table_tree, tabled}
use Rattle.tables.proofs.TableSizes.{size}
use Rattle.table_steps.specs.Steps.{Room, new_number}
use Rattle.table_steps.proofs.Stepping.{Steps, ready, stepping}
use Rattle.table_steps.proofs.Sizes.{joined-size, joined_number}
use Rattle.table_steps.proofs.with_terminal.Goals as goal

module _ (t : Table) (q : Point) (j : Join) (near : Within reach q) (fits : Fits (table_tree t).nodes (join_of j)) (room : Room t (new_nodes (join_of j)) (new_number t.arena.counts (join_of j))) where
  after : {a : Arena} → Became (Joined j q) t.arena a → Steps (λ x. join x q (join_of j)) t a
  after {a} g =
      stepping t (At j) fits (λ x. join x q (join_of j)) (formed-join (table_tree t) (tabled t).formed q near (join_of j) fits)
      (omega (arith, joined-size (table_tree t) (tabled t).formed q (join_of j) fits, size t, room.0))
      (joined_number t (join_of j) most_nodes (tabled t).steiners room.1) a g refl refl refl

pub join-requires : goal.join-requires
join-requires c = ready c.args.t.now (At c.args.j) _ _ c.requires.fits c.requires.room.0 c.requires.within

pub invariant_of-t : goal.invariant_of-t
invariant_of-t c = record { stands = (after c.args.t.now c.args.q c.args.j c.requires.within c.requires.fits c.requires.room c.join.ensures).held }

pub returns : goal.returns
returns c = (after c.args.t.now c.args.q c.args.j c.requires.within c.requires.fits c.requires.room c.join.ensures).is _
