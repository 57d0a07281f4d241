-- `table_steps::with_leaf`: the table's tree, with one node more.
use Rattle.std.proofs.Common.{ℕ, ◌<◌, length, arith, refl}
use Rattle.geometry.specs.declared.Point.{Point}
use Rattle.tree.specs.Limits.{most_nodes}
use Rattle.tree.specs.declared.NodeName.{NodeName}
use Rattle.tree.specs.Memory.{name_in}
use Rattle.tree.specs.Route.{attached}
use Rattle.tree.proofs.Forming.{formed-attached}
use Rattle.joining.specs.declared.Arena.{Arena}
use Rattle.joining.specs.Standing.{Holding, Standing, Became}
use Rattle.hand_inserts.specs.Insert.{Below, LeafInserted}
use Rattle.tables.specs.declared.Table.{Table}
use Rattle.tables.specs.Table.{table_tree, tabled}
use Rattle.tables.proofs.TableSizes.{size}
use Rattle.table_steps.specs.Steps.{Addable, Room, steiner_in}
use Rattle.table_steps.proofs.Stepping.{Steps, ready, stepping}
use Rattle.table_steps.proofs.Sizes.{one_leaf, number-after}
use Rattle.table_steps.proofs.with_leaf.Goals as goal

module _ (t : Table) (n : NodeName) (q : Point) (p : ℕ) (v : Addable t (name_in n) q) (r : (p < t.arena.counts.nodes) × Room t 1 (steiner_in (name_in n))) where
  before : Holding (Standing (Below (name_in n) p) 1 q) t.arena
  before = ready t (Below (name_in n) p) 1 q (omega (arith, r.0, size t), v.next) r.1.0 v.within

  after : {a : Arena} → Became (LeafInserted (name_in n) q p) t.arena a → Steps (λ x. attached x (name_in n) q p) t a
  after {a} g =
      let h : p < length (table_tree t).nodes = omega (arith, r.0, size t) in
      stepping t (Below (name_in n) p) (h, v.next) (λ x. attached x (name_in n) q p) (formed-attached (table_tree t) (tabled t).formed (name_in n) v.next q v.within p h)
      (omega (arith, one_leaf (table_tree t) (tabled t).formed (name_in n) q p h, size t, r.1.0))
      (number-after (table_tree t) (tabled t).formed (name_in n) v.next most_nodes (tabled t).steiners r.1.1) a g refl refl refl

pub insert_leaf-requires : goal.insert_leaf-requires
insert_leaf-requires c = before c.args.t.now c.args.name c.args.q c.args.p.0 c.requires.addable c.requires.p_lt_nodes

pub invariant_of-t : goal.invariant_of-t
invariant_of-t c = record { stands = (after c.args.t.now c.args.name c.args.q c.args.p.0 c.requires.addable c.requires.p_lt_nodes c.insert_leaf.ensures).held }

pub returns : goal.returns
returns c = (after c.args.t.now c.args.name c.args.q c.args.p.0 c.requires.addable c.requires.p_lt_nodes c.insert_leaf.ensures).is _
