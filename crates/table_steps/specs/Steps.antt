-- A step of an edit on a table: what it asks, and what it shows.
use Rattle.std.specs.Prelude.{ℕ, ◌+◌, ◌≤◌, ◌≡◌, Option, None, Some}
use Rattle.geometry.specs.declared.Point.{Point}
use Rattle.geometry.specs.Laws.{Within}
use Rattle.tree.specs.Limits.{most_nodes, reach}
use Rattle.tree.specs.Tree.{Tree, Name, source, steiner, terminal}
use Rattle.tree.specs.Search.{Join, onto, split}
use Rattle.tree.specs.Edits.{Next}
use Rattle.tree.specs.declared.SteinerNumber.{SteinerNumber}
use Rattle.joining.specs.declared.Counts.{Counts}
use Rattle.tables.specs.declared.Table.{Table}
use Rattle.tables.specs.Table.{table_tree}

-- the tree in t has become the tree after the step
pub record Stepped (step : Tree → Tree) (t r : Table) : Type 0 where
  pub is : table_tree r ≡ step (table_tree t)

-- the Steiner number that a name gives out, if any
abbrev pub steiner_in : Name → Option SteinerNumber
steiner_in source = None
steiner_in (steiner k) = Some (record { 0 = k })
steiner_in (terminal k) = None

-- a node with the name, which is given next, and at the point may be added
pub record Addable (t : Table) (n : Name) (q : Point) : Type 0 where
  pub next : Next t.arena.counts.steiner.0 t.arena.counts.terminal.0 n
  pub within : Within reach q

-- a new Steiner number, if there is one, is at most m
abbrev pub NumberedTo : ℕ → Option SteinerNumber → Type 0
NumberedTo m None = Unit {0}
NumberedTo m (Some k) = k.0 ≤ m

-- it is within the limit
abbrev pub Numbered : Option SteinerNumber → Type 0
Numbered = NumberedTo most_nodes

-- there is room for more nodes, and for a Steiner number
abbrev pub Room : Table → ℕ → Option SteinerNumber → Type 0
Room t more number = (t.arena.counts.nodes + more ≤ most_nodes) × Numbered number

-- the Steiner number that a joining gives out, if any
abbrev pub new_number : Counts → Join → Option SteinerNumber
new_number k (onto p) = None
new_number k (split p c) = Some k.steiner
