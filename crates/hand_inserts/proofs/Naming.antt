-- A new node's row and the counts after it, by its name.
use Rattle.std.proofs.Common.{ℕ, ◌<◌, ◌≡◌, ap, List, arith}
use Rattle.geometry.specs.declared.Point.{Point}
use Rattle.tree.specs.Limits.{no_node}
use Rattle.tree.specs.Tree.{zero_figure, Tree, Name}
use Rattle.tree.specs.Route.{new_node}
use Rattle.tree.specs.Memory.{name_in}
use Rattle.tree.specs.declared.NodeName.{NodeName}
use Rattle.joining.specs.declared.Counts.{Counts}
use Rattle.joining.specs.Store.{Store, node_from}
use Rattle.joining.specs.Standing.{Standing}
use Rattle.joining.proofs.Steps.{parent-at}
use Rattle.joining.proofs.Growing.{CountsOne}
use Rattle.joining.proofs.Placing.{next-counts}
use Rattle.hand_inserts.specs.Insert.{new_row, counts_after}

-- ---- the row
pub row_new : (n : NodeName) (q : Point) (p : ℕ) (cs : List ℕ) → p < no_node → node_from (new_row n q p) cs ≡ new_node (name_in n) p q cs 0
row_new n q p cs h = λ i. record { name = name_in n; parent = parent-at p h i; point = q; children = cs; path = 0; capacitance = zero_figure; delay = zero_figure }

-- ---- the counts
pub counts-one : (n : Name) (k r : Counts) → r ≡ counts_after n k → CountsOne n k r
counts-one n k r e = record { nodes = ap (λ (x : Counts). x.nodes) e; steiner = ap (λ (x : Counts). x.steiner.0) e; terminal = ap (λ (x : Counts). x.terminal.0) e }

pub may_count : {W : Tree → Type 0} {q : Point} {k : Counts} {c : Store} → Standing W 1 q k c → (k.nodes < no_node) × ((k.steiner.0 < no_node) × (k.terminal.0 < no_node))
may_count v = let e = next-counts v (omega arith) in (e.0, (v.steiner, e.1))
