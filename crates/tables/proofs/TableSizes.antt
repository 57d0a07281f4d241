-- How many nodes the tree of a table has: the table's count. So a lookup over the count is one over all nodes.
use Rattle.std.proofs.Common.{◌≤◌, ◌≡◌, sym, ap, ◌∙◌, arith, length}
use Rattle.tree.specs.Limits.{most_nodes}
use Rattle.tree.specs.Tree.{Name}
use Rattle.tree.specs.Measures.{Lookup, lookup, lookup_in}
use Rattle.joining.specs.Store.{node_of}
use Rattle.joining.proofs.Reading.{length_upto}
use Rattle.tables.specs.declared.Table.{Table}
use Rattle.tables.specs.Table.{table_columns, table_tree, tabled}

pub size : (t : Table) → length (table_tree t).nodes ≡ t.arena.counts.nodes
size t = length_upto (node_of (table_columns t)) t.arena.counts.nodes

pub few : (t : Table) → length (table_tree t).nodes ≤ most_nodes
few t = omega (arith, size t, (tabled t).few)

pub of_all : (t : Table) (n : Name) {l : Lookup} → l ≡ lookup (table_tree t).nodes n t.arena.counts.nodes → l ≡ lookup_in (table_tree t).nodes n
of_all t n h = h ∙ ap (lookup (table_tree t).nodes n) (sym (size t))
