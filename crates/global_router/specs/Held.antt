-- A tree in memory by its fields: the tree that it stands for, and what each call shows of a tree that it gives.
use Rattle.std.specs.Prelude.{ℕ, ◌+◌, ◌≤◌, ◌<◌, ◌≡◌, List, reverse, length, get_or, ℤ}
use Rattle.std.specs.Coded.{Coded-set, coded_ℕ, le_prop, ×_prop}
use Rattle.std.proofs.Math.Logic.{∥∥₁_elim, ∥∥₁_map}
use base.Stored.{coded_float}
use Rattle.tree.specs.Limits.{across, most_nodes, no_limit}
use Rattle.tree.specs.Tree.{Node, Tree, zero_figure, climb}
use Rattle.tree.specs.Memory.{node_in}
use Rattle.tree.specs.WellFormed.{WellFormed}
use Rattle.tree.proofs.Merely.{formed_of}
use Rattle.tree.specs.declared.RoutingNode.{RoutingNode}
use Rattle.tree.specs.declared.SteinerNumber.{SteinerNumber}
use Rattle.tree.specs.declared.TerminalNumber.{TerminalNumber}
use Rattle.search.specs.Columns.{chain, Chained}
use Rattle.search.proofs.Merely.{chained_of}
use Rattle.joining.specs.declared.Counts.{Counts}
use Rattle.joining.specs.Links.{LinkedBack}
use Rattle.joining.specs.Buffers.{links_in}
use Rattle.joining.specs.Store.{up_to}
use Rattle.joining.proofs.Merely.{back_of}
use Rattle.tables.specs.Nodes.{blank_node}

-- a node's children: the chain of links from its last child, turned round
abbrev pub children_held : List ℕ → ℕ → List ℕ
children_held links i = reverse (chain (links_in links).prev (get_or (links_in links).last i 0))

abbrev pub node_held : List RoutingNode → List ℕ → ℕ → Node
node_held nodes links i = node_in (get_or nodes i blank_node) (children_held links i)

-- how many nodes there are, and the next numbers
abbrev pub counts_held : ℕ → SteinerNumber → TerminalNumber → Counts
counts_held n s t = record { nodes = n; steiner = s; terminal = t }

abbrev pub tree_held : List RoutingNode → List ℕ → Counts → ℕ → ℤ → ℕ → Tree
tree_held nodes links k limit allowed farthest =
    record {
      nodes = up_to (node_held nodes links) k.nodes;
      allowed = allowed;
      farthest = farthest;
      limit = limit;
      next_steiner = k.steiner.0;
      next_terminal = k.terminal.0;
    }

-- "Each shows that the tree it gives has one source, at index 0, child and parent links that agree, every node reaching the source, distinct names and
-- coordinates within the limit"
pub record StoredIn (ns : List RoutingNode) (links : List ℕ) (k : Counts) (limit : ℕ) (allowed : ℤ) (farthest : ℕ) : Type 0 where
  pub formed : WellFormed (tree_held ns links k limit allowed farthest)
  pub to_source : (i : ℕ) → i < length (tree_held ns links k limit allowed farthest).nodes
      → climb (tree_held ns links k limit allowed farthest).nodes (length (tree_held ns links k limit allowed farthest).nodes) i ≡ 0
  -- the limits
  pub few : k.nodes ≤ most_nodes
  pub steiners : k.steiner.0 ≤ most_nodes + 1
  pub limit-small : limit ≤ no_limit
  pub farthest-small : farthest ≤ across
  -- capacitance and delay are 0.0
  pub figures : (i : ℕ) → i < k.nodes → ((node_held ns links i).capacitance ≡ zero_figure) × ((node_held ns links i).delay ≡ zero_figure)
  -- the columns, and that each chain of links ends
  pub nodes : length ns ≡ most_nodes
  pub last : length (links_in links).last ≡ most_nodes
  pub prev : length (links_in links).prev ≡ most_nodes
  pub back : LinkedBack most_nodes k.nodes (links_in links)
  pub chains : (p : ℕ) → p < k.nodes → Chained (links_in links).prev (get_or (links_in links).last p 0)

-- a tree's ghost field says that this merely holds; nothing is lost by that
pub stored_of : {ns : List RoutingNode} {links : List ℕ} {k : Counts} {limit : ℕ} {allowed : ℤ} {farthest : ℕ}
    → ∥ StoredIn ns links k limit allowed farthest ∥₁ → StoredIn ns links k limit allowed farthest
stored_of m =
    record {
      formed = formed_of _ (∥∥₁_map m (λ h. h.formed));
      to_source = λ i l. ∥∥₁_elim m (Coded-set coded_ℕ _ _) (λ h. h.to_source i l);
      few = ∥∥₁_elim m le_prop (λ h. h.few);
      steiners = ∥∥₁_elim m le_prop (λ h. h.steiners);
      limit-small = ∥∥₁_elim m le_prop (λ h. h.limit-small);
      farthest-small = ∥∥₁_elim m le_prop (λ h. h.farthest-small);
      figures = λ i l. ∥∥₁_elim m (×_prop (Coded-set coded_float _ _) (Coded-set coded_float _ _)) (λ h. h.figures i l);
      nodes = ∥∥₁_elim m (Coded-set coded_ℕ _ _) (λ h. h.nodes);
      last = ∥∥₁_elim m (Coded-set coded_ℕ _ _) (λ h. h.last);
      prev = ∥∥₁_elim m (Coded-set coded_ℕ _ _) (λ h. h.prev);
      back = back_of (∥∥₁_map m (λ h. h.back));
      chains = λ p l. chained_of (∥∥₁_map m (λ h. h.chains p l));
    }
