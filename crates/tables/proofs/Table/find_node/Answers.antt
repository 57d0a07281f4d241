-- `tables::Table::find_node`: no node before i has the name.
use Rattle.std.proofs.Common.{◌≡◌, ◌<◌, refl, arith, rules}
use borrow.Author.Count.{below_more}
use Rattle.tree.specs.Limits.{most_nodes}
use Rattle.tables.specs.Table.{table_columns}
use Rattle.tables.proofs.Naming.{met, missed, named_none, named-first}
use Rattle.tables.proofs.TableSizes.{size, few}
use Rattle.tables.proofs.Table.find_node.Goals as goal

pub name_at-requires : goal.name_at-requires
name_at-requires c = omega (arith, c.loop-i-test.true, few c.args.self.now, size c.args.self.now)

pub returns-then-eq : goal.returns-then-eq
returns-then-eq c =
    let h : c.name_at.result ≡ c.args.name = search (rules, c.if-eq.ensures) in
    named-first _ _ _ _ (table_columns c.args.self.now) refl refl _ c.loop-i.invariant c.loop-i-test.true (met _ _ c.args.name _ _ c.from.ensures _ c.name_at.ensures h)

pub loop-i-preserved : goal.loop-i-preserved
loop-i-preserved c =
    let f : c.name_at.result ≡ c.args.name → ⊥ = search (rules, c.if-eq.ensures) in
    below_more _ _ c.loop-i.invariant (missed _ _ c.args.name _ _ c.from.ensures _ c.name_at.ensures f)

pub returns : goal.returns
returns c = named_none _ _ c.args.name _ (table_columns c.args.self.now) refl refl _ c.loop-i.invariant (omega arith)
