-- Taking lone nodes out of a tree in columns: what each function asks, and what stands there after it.
use Rattle.std.specs.Prelude.{ℕ, ◌<◌, ◌≡◌, true, cond, List, length}
use Rattle.tree.specs.Tree.{Node, Tree}
use Rattle.tree.specs.Optimize.{lone, remove, with_nodes, optimize}
use Rattle.joining.specs.declared.Counts.{Counts}
use Rattle.joining.specs.Store.{Store}
use Rattle.joining.specs.Standing.{Grows, Anything}

-- node i is lone
abbrev pub LoneIn : ℕ → Tree → Type 0
LoneIn i t = lone t.nodes i ≡ true

-- after: node i, which was lone, is gone
abbrev pub Removed : ℕ → Counts → Store → Counts → Store → Type 0
Removed i = Grows (LoneIn i) (λ t. with_nodes t (remove i t.nodes))

-- there is a node i
abbrev pub NodeIn : ℕ → Tree → Type 0
NodeIn i t = i < length t.nodes

unfoldable pub tidied : ℕ → List Node → List Node
tidied i ns = cond (lone ns i) (remove i ns) ns

-- after: node i is gone if it was lone
abbrev pub Tidied : ℕ → Counts → Store → Counts → Store → Type 0
Tidied i = Grows (NodeIn i) (λ t. with_nodes t (tidied i t.nodes))

-- after: all lone nodes are gone
abbrev pub Optimized : Counts → Store → Counts → Store → Type 0
Optimized = Grows Anything optimize
