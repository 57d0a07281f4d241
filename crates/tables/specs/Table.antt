-- A tree in memory: its columns, and the tree that these stand for. The type says that they keep it.
use Rattle.joining.specs.Links.{Links}
use Rattle.joining.specs.Store.{Columns, columns_of, Store}
use Rattle.joining.specs.Buffers.{links_in, stored}
use Rattle.tree.specs.Tree.{Tree}
use Rattle.tables.specs.Held.{tree_in, TreeIn, held_of}
use Rattle.tables.specs.declared.Table.{Table}

abbrev pub table_store : Table → Store
table_store t = stored t.arena

abbrev pub table_links : Table → Links
table_links t = links_in t.arena.links

-- what is read of the tree
abbrev pub table_columns : Table → Columns
table_columns t = columns_of (table_store t)

abbrev pub table_tree : Table → Tree
table_tree t = tree_in t.arena t.limit t.allowed t.farthest

-- a well-formed tree in memory, within the limits
abbrev pub Tabled : Table → Type 0
Tabled t = TreeIn t.arena t.limit t.allowed t.farthest

-- **every table has one**
pub tabled : (t : Table) → Tabled t
tabled t = held_of t.stands
