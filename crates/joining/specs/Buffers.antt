-- A tree kept in an arena, each of whose buffers holds columns of most_nodes numbers one after the other.
use Rattle.std.specs.Prelude.{ℕ, ◌*◌, ◌≡◌, List, take, drop, set, ℤ}
use Rattle.tree.specs.Limits.{most_nodes}
use Rattle.search.specs.declared.NodeView.{NodeView}
use Rattle.search.specs.Walk.{view_at}
use Rattle.joining.specs.declared.NodeRows.{NodeRows}
use Rattle.joining.specs.declared.Arena.{Arena}
use Rattle.joining.specs.Links.{Links, links}
use Rattle.joining.specs.Store.{Rows, rows_of, Store, store}
use Rattle.joining.specs.Join.{Reads}

-- column k: what it has of node i stands at k · most_nodes + i
abbrev pub column : {A : Type 0} → ℕ → List A → List A
column k l = take most_nodes (drop (k * most_nodes) l)

-- x, y | path lengths | parents, kinds, numbers
abbrev pub rows_in : List ℤ → List ℕ → List ℕ → Rows
rows_in points path marks = rows_of (column 0 points) (column 1 points) path (column 0 marks) (column 1 marks) (column 2 marks)

-- last children, children before, children after
abbrev pub links_in : List ℕ → Links
links_in l = links (column 0 l) (column 1 l) (column 2 l)

abbrev pub store_in : List ℤ → List ℕ → List ℕ → List ℕ → Store
store_in points path marks links = store (rows_in points path marks) (links_in links)

-- a node that is read
abbrev pub read_in : List ℤ → List ℕ → ℕ → NodeView
read_in points path p = view_at (column 0 points) (column 1 points) path p

abbrev pub ReadsAt : List ℤ → List ℕ → ℕ → Type 0
ReadsAt points path p = Reads (column 0 points) (column 1 points) path p

-- v goes into column k at i, and the other columns stay as they are; past a column's end nothing is stored
pub record Put {A : Type 0} (k i : ℕ) (v : A) (l l' : List A) : Type 0 where
  pub own : column k l' ≡ set (column k l) i v
  pub other : (j : ℕ) → (j ≡ k → ⊥) → column j l' ≡ column j l

-- ---- an arena: its rows, and all that it holds of a tree but for the counts
abbrev pub rows_held : NodeRows → Rows
rows_held r = rows_in r.points r.path r.marks

abbrev pub stored : Arena → Store
stored a = store (rows_held a.nodes) (links_in a.links)
