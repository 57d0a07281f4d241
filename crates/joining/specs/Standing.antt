-- A tree in an arena: what it is that one stands there, and what a step does to it.
use Rattle.std.specs.Prelude.{ℕ, ◌+◌, ◌≤◌, ◌<◌, ◌≡◌, length}
use Rattle.geometry.specs.declared.Point.{Point}
use Rattle.geometry.specs.Laws.{Within}
use Rattle.tree.specs.Limits.{most_nodes, no_node, reach}
use Rattle.tree.specs.Tree.{Tree}
use Rattle.tree.specs.Route.{join}
use Rattle.tree.specs.WellFormed.{WellFormed, Fits}
use Rattle.search.specs.declared.Join.{Join}
use Rattle.search.specs.Find.{join_of}
use Rattle.joining.specs.declared.Counts.{Counts}
use Rattle.joining.specs.declared.Arena.{Arena}
use Rattle.joining.specs.Store.{Store, columns_of, SizedStore, Keeps, Backs}
use Rattle.joining.specs.Buffers.{stored}

-- the columns hold the tree's nodes, and k counts them and gives the next numbers
pub record Stores (t : Tree) (k : Counts) (c : Store) : Type 0 where
  pub size : length t.nodes ≡ k.nodes
  pub steiner : t.next_steiner ≡ k.steiner.0
  pub terminal : t.next_terminal ≡ k.terminal.0
  pub keeps : Keeps t.nodes (columns_of c)
  pub backs : Backs t.nodes c.links.next

-- **a tree stands in an arena**: a well-formed tree for which When holds, whose nodes k counts. All that is lent a tree asks this, and says what is
-- special beside it
pub record Stands (When : Tree → Type 0) (k : Counts) (c : Store) : Type 0 where
  pub tree : Tree
  pub formed : WellFormed tree
  pub stores : Stores tree k c
  pub when : When tree
  pub sized : SizedStore (length c.rows.xs) c
  pub fits : k.nodes ≤ length c.rows.xs

-- before a node is added: there is room for more nodes, a Steiner number is left, and q is near
pub record Standing (When : Tree → Type 0) (more : ℕ) (q : Point) (k : Counts) (c : Store) : Type 0 where
  pub stands : Stands When k c
  pub room : k.nodes + more ≤ length c.rows.xs
  pub small : k.nodes ≤ most_nodes
  pub steiner : k.steiner.0 < no_node
  pub within : Within reach q

-- after: whatever well-formed tree for which When holds stood there, the tree with the step taken stands there
pub record Grows (When : Tree → Type 0) (step : Tree → Tree) (k : Counts) (c : Store) (k' : Counts) (c' : Store) : Type 0 where
  pub stores : (t : Tree) → WellFormed t → When t → Stores t k c → Stores (step t) k' c'
  pub sized : SizedStore (length c.rows.xs) c'

-- any tree will do
abbrev pub Anything : Tree → Type 0
Anything t = Unit {0}

-- the place is in the tree
abbrev pub At : Join → Tree → Type 0
At j t = Fits t.nodes (join_of j)

-- a terminal at q has joined at the place
abbrev pub Joined : Join → Point → Counts → Store → Counts → Store → Type 0
Joined j q = Grows (At j) (λ t. join t q (join_of j))

-- ---- of an arena, as contracts say it: what holds in it, and what a step made of it
abbrev pub Holding : (Counts → Store → Type 0) → Arena → Type 0
Holding P a = P a.counts (stored a)

abbrev pub Became : (Counts → Store → Counts → Store → Type 0) → Arena → Arena → Type 0
Became R a b = R a.counts (stored a) b.counts (stored b)
