-- `table_steps::with_node_between`: the table's tree, with one node more.
use Rattle.std.proofs.Common.{ℕ, ◌≡◌, arith, refl}
use Rattle.geometry.specs.declared.Point.{Point}
use Rattle.tree.specs.Limits.{most_nodes}
use Rattle.tree.specs.Tree.{at, node_at}
use Rattle.tree.specs.declared.NodeName.{NodeName}
use Rattle.tree.specs.Memory.{name_in}
use Rattle.tree.specs.Edits.{spliced}
use Rattle.tree.proofs.Splicing.{formed-spliced}
use Rattle.joining.specs.declared.Arena.{Arena}
use Rattle.joining.specs.Standing.{Holding, Standing, Became}
use Rattle.hand_inserts.specs.Insert.{Between, BetweenInserted}
use Rattle.tables.specs.declared.Table.{Table}
use Rattle.tables.specs.Table.{table_tree, tabled}
use Rattle.tables.proofs.TableSizes.{size}
use Rattle.table_steps.specs.Steps.{Addable, Room, steiner_in}
use Rattle.table_steps.proofs.Stepping.{Steps, ready, stepping}
use Rattle.table_steps.proofs.Sizes.{one-between, number-after}
use Rattle.table_steps.proofs.with_node_between.Goals as goal

module _ (t : Table) (n : NodeName) (q : Point) (p c : ℕ) (v : Addable t (name_in n) q) (r : ((node_at (table_tree t).nodes c).parent ≡ at p) × Room t 1 (steiner_in (name_in n))) where
  before : Holding (Standing (Between (name_in n) p c) 1 q) t.arena
  before = ready t (Between (name_in n) p c) 1 q (r.0, v.next) r.1.0 v.within

  after : {a : Arena} → Became (BetweenInserted (name_in n) q p c) t.arena a → Steps (λ x. spliced x (name_in n) q p c) t a
  after {a} g =
      stepping t (Between (name_in n) p c) (r.0, v.next) (λ x. spliced x (name_in n) q p c) (formed-spliced (table_tree t) (tabled t).formed (name_in n) v.next q v.within p c r.0)
      (omega (arith, one-between (table_tree t) (tabled t).formed (name_in n) q p c r.0, size t, r.1.0))
      (number-after (table_tree t) (tabled t).formed (name_in n) v.next most_nodes (tabled t).steiners r.1.1) a g refl refl refl

pub insert_between-requires : goal.insert_between-requires
insert_between-requires c = before c.args.t.now c.args.name c.args.q c.args.p.0 c.args.c.0 c.requires.addable c.requires.c_value

pub invariant_of-t : goal.invariant_of-t
invariant_of-t c = record { stands = (after c.args.t.now c.args.name c.args.q c.args.p.0 c.args.c.0 c.requires.addable c.requires.c_value c.insert_between.ensures).held }

pub returns : goal.returns
returns c = (after c.args.t.now c.args.name c.args.q c.args.p.0 c.args.c.0 c.requires.addable c.requires.c_value c.insert_between.ensures).is _
