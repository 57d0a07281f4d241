-- The two ways to insert a node by hand, on columns. What the tree becomes stands in the crate tree (specs/Edits.antt).
use Rattle.std.specs.Prelude.{ℕ, ◌+◌, ◌<◌, ◌≡◌, length}
use Rattle.geometry.specs.declared.Point.{Point}
use Rattle.tree.specs.Tree.{Tree, Name, at, node_at}
use Rattle.tree.specs.declared.NodeName.{NodeName}
use Rattle.tree.specs.Route.{steiner_after, terminal_after, attached}
use Rattle.tree.specs.Edits.{Next, spliced}
use Rattle.search.specs.Walk.{node_index}
use Rattle.joining.specs.declared.Counts.{Counts}
use Rattle.joining.specs.declared.Row.{Row}
use Rattle.joining.specs.Links.{Links, Detached, Appended, Attached}
use Rattle.joining.specs.Store.{Store}
use Rattle.joining.specs.Standing.{Grows}

-- the row of a new node at q below p, with path 0
abbrev pub new_row : NodeName → Point → ℕ → Row
new_row n q p = record { point = q; path = 0; parent = node_index p; name = n }

-- one more node, for which a name is given out
abbrev pub counts_after : Name → Counts → Counts
counts_after n k =
    record {
      nodes = k.nodes + 1;
      steiner = record { 0 = steiner_after n k.steiner.0 };
      terminal = record { 0 = terminal_after n k.terminal.0 };
    }

-- ---- last among the children of p
-- p is in the tree, and the name is given next
abbrev pub Below : Name → ℕ → Tree → Type 0
Below n p t = (p < length t.nodes) × Next t.next_steiner t.next_terminal n

abbrev pub LeafInserted : Name → Point → ℕ → Counts → Store → Counts → Store → Type 0
LeafInserted n q p = Grows (Below n p) (λ t. attached t n q p)

-- ---- on the branch from p to c
-- c is a child of p, and the name is given next
abbrev pub Between : Name → ℕ → ℕ → Tree → Type 0
Between n p c t = ((node_at t.nodes c).parent ≡ at p) × Next t.next_steiner t.next_terminal n

-- c leaves p, n goes last among p's children, and n's one child is c
pub record LinkedBetween (l : Links) (p c n : ℕ) (l' : Links) : Type 0 where
  pub l₁ : Links
  pub l₂ : Links
  pub leaves : Detached l p c l₁
  pub joins : Appended l₁ p n l₂
  pub takes : Attached l₂ n c l'

abbrev pub BetweenInserted : Name → Point → ℕ → ℕ → Counts → Store → Counts → Store → Type 0
BetweenInserted n q p c = Grows (Between n p c) (λ t. spliced t n q p c)
