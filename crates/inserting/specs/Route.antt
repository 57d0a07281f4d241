-- Routing terminals that are sorted, on columns.
use Rattle.std.specs.Prelude.{ℕ, ◌+◌, ◌≤◌, ◌<◌, ◌≡◌, List, length, set, ℤ}
use Rattle.geometry.specs.declared.Point.{Point}
use Rattle.geometry.specs.Laws.{Within}
use Rattle.tree.specs.Limits.{most_terminals, most_nodes, no_node, reach}
use Rattle.tree.specs.Tree.{Tree}
use Rattle.tree.specs.Route.{inserts, rooted}
use Rattle.tree.specs.WellFormed.{WellFormed, Counted}
use Rattle.search.specs.declared.Query.{Query}
use Rattle.tree.specs.Memory.{point_at}
use Rattle.tree.specs.declared.NodeName.TheVariants.{Source}
use Rattle.search.specs.Walk.{node_index}
use Rattle.joining.specs.declared.Row.{Row}
use Rattle.joining.specs.declared.Counts.{Counts}
use Rattle.joining.specs.Store.{Store, columns_of, set_row, SizedStore, up_to, nodes_of}
use Rattle.joining.specs.Standing.{Stores}
use Rattle.inserting.specs.declared.Way.{Way}
use Rattle.inserting.specs.Insert.{QueryOf, step_of}

-- the row of a source at s: no_node stands for its parent
abbrev pub source_row : Point → Row
source_row s = record { point = s; path = 0; parent = node_index no_node; name = Source }

-- the counts of a source alone
abbrev pub first_counts : Counts
first_counts = record { nodes = 1; steiner = record { 0 = 1 }; terminal = record { 0 = 1 } }

-- the first i terminals
abbrev pub firsts : List ℤ → List ℤ → ℕ → List Point
firsts px py i = up_to (point_at px py) i

-- the tree of the first i terminals; the search's point stands for the source, and w for the farthest distance, which is carried and not read
unfoldable pub tree_after : Way → List ℤ → List ℤ → List ℤ → Query → ℕ → ℕ → Tree
tree_after way ks px py a w i = inserts (step_of way ks) (firsts px py i) (rooted a.point a.allowed w a.limit)

-- the tree that the columns and the counts hold
abbrev pub tree_in : Store → Counts → Query → ℕ → Tree
tree_in c k a w = record { nodes = nodes_of (columns_of c) k.nodes; allowed = a.allowed; farthest = w; limit = a.limit; next_steiner = k.steiner.0; next_terminal = k.terminal.0 }

-- the query for the i-th terminal
abbrev pub query_at : List ℤ → List ℤ → ℕ → Query → Query
query_at px py i a = record { point = point_at px py i; limit = a.limit; allowed = a.allowed }

-- what a route asks: terminals within the limit and not too many, so that there is room for two nodes for each
pub record Routable (px py : List ℤ) (a : Query) (c : Store) : Type 0 where
  pub sized : SizedStore most_nodes c
  pub few : length px ≤ most_terminals
  pub both : length py ≡ length px
  pub source : Within reach a.point
  pub near : (i : ℕ) → i < length px → Within reach (point_at px py i)

-- a route has the tree t in the columns; a is its query, and w the farthest distance
pub record Holds (a : Query) (w : ℕ) (k : Counts) (c : Store) (t : Tree) : Type 0 where
  pub formed : WellFormed t
  pub counted : Counted t
  pub stores : Stores t k c
  pub query : QueryOf a t
  pub farthest : t.farthest ≡ w

-- the source at s is stored, over what stood in the columns
pub record Begun (c : Store) (s : Point) (c' : Store) : Type 0 where
  pub rows : c'.rows ≡ set_row c.rows 0 (source_row s)
  pub last : c'.links.last ≡ set c.links.last 0 no_node
  pub prev : c'.links.prev ≡ c.links.prev
  pub next : c'.links.next ≡ c.links.next

-- the columns hold the source alone, whatever the farthest distance
abbrev pub SourceAlone : Query → Counts → Store → Type 0
SourceAlone a k c = (w : ℕ) → Holds a w k c (rooted a.point a.allowed w a.limit)

-- all terminals are in: the columns and counts give the whole tree, which is well formed
pub record RoutedColumns (way : Way) (ks px py : List ℤ) (a : Query) (k : Counts) (c : Store) : Type 0 where
  pub tree : (w : ℕ) → tree_in c k a w ≡ tree_after way ks px py a w (length px)
  pub holds : (w : ℕ) → Holds a w k c (tree_after way ks px py a w (length px))
  pub next : k.terminal.0 ≡ length px + 1
  pub sized : SizedStore most_nodes c
