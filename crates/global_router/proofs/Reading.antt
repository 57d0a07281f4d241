-- What is read of a tree's columns is read of the tree.
use Rattle.std.proofs.Common.{◌≡◌, ap, ◌∙◌, Option}
use Rattle.tree.specs.Tree.{Tree, Name}
use Rattle.tree.specs.Measures.{lookup}
use Rattle.tables.proofs.TableSizes.{of_all}
use Rattle.tree.specs.declared.NodeIndex.{NodeIndex}
use Rattle.tables.specs.declared.Table.{Table}
use Rattle.tables.specs.Nodes.{lookup_of}
use Rattle.tables.specs.Table.{table_tree}
use Rattle.editing.specs.Edits.{node_named}

-- the node that has a name
pub named_is : (t : Table) {x : Tree} → table_tree t ≡ x → (name : Name) (l : Option NodeIndex) → lookup_of l ≡ lookup (table_tree t).nodes name t.arena.counts.nodes → lookup_of l ≡ node_named x name
named_is t h name l e = of_all t name e ∙ ap (λ (y : Tree). node_named y name) h
