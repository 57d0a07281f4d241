-- A tree in an arena that is lent to be read. The type `Lent` says that one stands there, and every function that reads one answers about `nodes_in`:
-- `nodes_are` in the crate joining, proofs/Reading.antt, says that these are the nodes of whatever well-formed tree stands there.
use Rattle.std.specs.Prelude.{ℕ, ◌+◌, ◌≤◌, ◌≡◌, List, length}
use Rattle.tree.specs.Limits.{most_nodes}
use Rattle.tree.specs.Tree.{Node, Tree}
use Rattle.tree.specs.WellFormed.{WellFormed}
use Rattle.joining.specs.declared.Arena.{Arena}
use Rattle.joining.specs.Store.{Columns, columns_of, nodes_of, Sized, Keeps}
use Rattle.joining.specs.Buffers.{stored}

-- a well-formed tree of n nodes stands in what a reader looks at: all but the links after
pub record Held (n : ℕ) (c : Columns) : Type 0 where
  pub tree : Tree
  pub formed : WellFormed tree
  pub size : length tree.nodes ≡ n
  pub few : n ≤ most_nodes
  -- refused is what "would pass 250 in all, or a new Steiner number would pass 250"
  pub numbers : tree.next_steiner ≤ most_nodes + 1
  pub keeps : Keeps tree.nodes c
  pub sized : Sized (length c.rows.xs) c
  pub room : n ≤ length c.rows.xs

-- ---- what is read of a tree in an arena; for the type, that one stands there; for contracts, its nodes
abbrev pub lent : Arena → Columns
lent a = columns_of (stored a)

abbrev pub Lends : Arena → Type 0
Lends a = Held a.counts.nodes (lent a)

abbrev pub nodes_in : Arena → List Node
nodes_in a = nodes_of (lent a) a.counts.nodes
