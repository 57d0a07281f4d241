-- The loop that packs rows into nodes: a turn. The nodes before i are the rows'.
use Rattle.std.proofs.Common.{ℕ, ◌+◌, ◌<◌, ◌≡◌, sym, ap, ◌∙◌, List, arith, length, get_or, set, length-set, get_or-set_same, get_or-set_other}
use Rattle.std.proofs.Math.Decide.{ℕ_discrete}
use Rattle.tree.specs.Limits.{most_nodes}
use Rattle.tree.specs.declared.RoutingNode.{RoutingNode}
use Rattle.tree.specs.Memory.{node_in}
use Rattle.joining.specs.Store.{Rows, row_at, node_from}
use Rattle.tables.specs.Nodes.{blank_node, Packs}

pub packs_more : (r : Rows) (i : ℕ) (nodes : List RoutingNode) (n : RoutingNode) → i < most_nodes → Packs r i nodes
    → ((cs : List ℕ) → node_in n cs ≡ node_from (row_at r i) cs) → Packs r (i + 1) (set nodes i n)
packs_more r i nodes n l v e = record { size = length-set nodes i n ∙ v.size; is = λ k h cs. by k cs (ℕ_discrete k i) h }
  where
    by : (k : ℕ) (cs : List ℕ) → Dec (k ≡ i) → k < i + 1 → node_in (get_or (set nodes i n) k blank_node) cs ≡ node_from (row_at r k) cs
    by k cs (yes d) h =
        ap (λ (j : ℕ). node_in (get_or (set nodes i n) j blank_node) cs) d
        ∙ ap (λ (m : RoutingNode). node_in m cs) (get_or-set_same nodes i n blank_node (omega (arith, v.size)))
        ∙ e cs ∙ ap (λ (j : ℕ). node_from (row_at r j) cs) (sym d)
    by k cs (no d) h = ap (λ (m : RoutingNode). node_in m cs) (get_or-set_other nodes i k n blank_node d) ∙ v.is k (omega arith) cs
