-- A tree in memory, the tree that it stands for, and what is so of every one.
use Rattle.std.specs.Prelude.{ℕ, List}
use Rattle.tree.specs.Tree.{Node, Tree}
use Rattle.joining.specs.declared.Counts.{Counts}
use Rattle.joining.specs.Links.{Links}
use Rattle.joining.specs.Buffers as B
use Rattle.global_router.specs.Held.{children_held, node_held, counts_held, tree_held, StoredIn, stored_of}
use Rattle.global_router.specs.declared.GlobalRoutingTree.{GlobalRoutingTree}

abbrev pub links_in : GlobalRoutingTree → Links
links_in g = B.links_in g.links

abbrev pub children_in : GlobalRoutingTree → ℕ → List ℕ
children_in g = children_held g.links

abbrev pub node_stored : GlobalRoutingTree → ℕ → Node
node_stored g = node_held g.nodes g.links

abbrev pub counts_of : GlobalRoutingTree → Counts
counts_of g = counts_held g.count g.next_steiner_id g.next_terminal_id

abbrev pub tree_of : GlobalRoutingTree → Tree
tree_of g = tree_held g.nodes g.links (counts_of g) g.worst_wirelength g.allowed g.farthest

-- what each call shows of a tree that it gives
abbrev pub Stored : GlobalRoutingTree → Type 0
Stored g = StoredIn g.nodes g.links (counts_of g) g.worst_wirelength g.allowed g.farthest

-- **every tree shows it**: "a call handed a tree may rest on what the calls show, and on nothing else"
pub stored : (g : GlobalRoutingTree) → Stored g
stored g = stored_of g.stored
