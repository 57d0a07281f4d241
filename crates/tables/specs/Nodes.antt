-- Nodes by value, and their rows in columns; what a name leads to.
use Rattle.std.specs.Prelude.{ℕ, ◌≤◌, ◌<◌, ◌≡◌, List, length, get_or, Option, None, Some}
use Rattle.geometry.specs.Geometry.{origin}
use Rattle.tree.specs.Limits.{most_nodes, no_node}
use Rattle.tree.specs.Tree.{at, zero_figure}
use Rattle.tree.specs.Measures as D
use Rattle.tree.specs.declared.NodeIndex.{NodeIndex}
use Rattle.tree.specs.declared.RoutingNode.{RoutingNode}
use Rattle.tree.specs.declared.NodeName.TheVariants.{Source}
use Rattle.tree.specs.Memory.{parent_in, node_in}
use Rattle.joining.specs.Store.{Rows, row_at, node_from}

-- what stands where no node is
abbrev pub blank_node : RoutingNode
blank_node = record { name = Source; parent = None; pt = origin; path_length = 0; capacitance = zero_figure; delay = zero_figure }

-- the first n nodes are those of the rows
pub record Packs (r : Rows) (n : ℕ) (nodes : List RoutingNode) : Type 0 where
  pub size : length nodes ≡ most_nodes
  pub is : (i : ℕ) → i < n → (cs : List ℕ) → node_in (get_or nodes i blank_node) cs ≡ node_from (row_at r i) cs

-- a node that a row can keep: a row has no figures, and no_node for no parent
pub record Plain (n : RoutingNode) : Type 0 where
  pub parent : parent_in n.parent ≡ at no_node → ⊥
  pub capacitance : n.capacitance ≡ zero_figure
  pub delay : n.delay ≡ zero_figure

pub record Unpackable (nodes : List RoutingNode) (n : ℕ) : Type 0 where
  pub size : length nodes ≡ most_nodes
  pub few : n ≤ most_nodes
  pub plain : (i : ℕ) → i < n → Plain (get_or nodes i blank_node)

-- 7, "a name that no node has", or the node's index
abbrev pub lookup_of : Option NodeIndex → D.Lookup
lookup_of None = D.missing
lookup_of (Some i) = D.found i.0
