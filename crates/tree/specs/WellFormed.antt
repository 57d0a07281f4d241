-- What every tree that the calls give is (document 01, "What each party can get wrong"), and where a point may join one.
use Rattle.std.specs.Prelude.{ℕ, suc, ◌+◌, ◌-◌, ◌*◌, ◌≤◌, ◌<◌, ◌≡◌, List, length}
use Rattle.geometry.specs.Laws.{Within}
use Rattle.tree.specs.Limits.{across, reach}
use Rattle.tree.specs.Tree.{Node, Tree, at, node_at, terminals}
use Rattle.tree.specs.Search.{Join, onto, split}
use Rattle.tree.specs.Shape.{Linked, Named, name_of}

-- "one source, at index 0, child and parent links that agree, every node reaching the source, distinct names and coordinates within the limit"; and path lengths that fit
pub record WellFormed (t : Tree) : Type 0 where
  pub linked : Linked t.nodes
  pub named : Named (length t.nodes) (name_of t.nodes) t.next_steiner t.next_terminal
  pub near : (i : ℕ) → Within reach (node_at t.nodes i).point
  -- a terminal adds to a path no more than the farthest that two points can be apart
  pub short : (i : ℕ) → (node_at t.nodes i).path ≤ across * (t.next_terminal - 1)
  -- each terminal number that was given out has its node
  pub terminals : suc (length (terminals t.nodes)) ≡ t.next_terminal

-- a tree that a route has on its way: each node but the source is a terminal, or a Steiner node that a terminal brought
pub record Counted (t : Tree) : Type 0 where
  pub size : length t.nodes + 1 ≡ t.next_steiner + t.next_terminal
  pub steiners : t.next_steiner ≤ t.next_terminal

-- the place is in the tree: a node, or a node and its child
abbrev pub Fits : List Node → Join → Type 0
Fits ns (onto p) = p < length ns
Fits ns (split p c) = (node_at ns c).parent ≡ at p

-- how many nodes a joining adds
abbrev pub new_nodes : Join → ℕ
new_nodes (onto p) = 1
new_nodes (split p c) = 2
