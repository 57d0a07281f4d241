-- Measures and listings of a tree (document 01, "Measures, edits, text" and "Tree bytes"). Definitions only. The total stands in specs/Tree.antt.
use Rattle.std.specs.Prelude.{ℕ, zero, suc, ◌+◌, max, Bool, false, cond, List, [], ◌∷◌, ◌++◌, length, eqb}
use Rattle.geometry.specs.Geometry.{dist}
use Rattle.tree.specs.Tree.{Node, Name, source, steiner, terminal, Parent, none, at, node_at}

-- ---- the worst run
-- the greatest f of a list, 0 of none
unfoldable pub greatest : (ℕ → ℕ) → List ℕ → ℕ
greatest f [] = 0
greatest f (c ∷ cs) = max (f c) (greatest f cs)

-- the longest sum from node i down to any leaf: over its children, d to the child and the longest sum below that. `left` bounds the levels, and as
-- many as there are nodes are enough (`worst_enough` in the crate measures, proofs/Levels.antt)
unfoldable pub worst_below : List Node → ℕ → ℕ → ℕ
worst_below ns zero i = 0
worst_below ns (suc left) i = greatest (λ c. dist (node_at ns i).point (node_at ns c).point + worst_below ns left c) (node_at ns i).children

-- "Worst: the longest sum from source to any leaf": no node's sum along its parents is longer, and a leaf's is as long (`none_longer` and `as_long` in
-- the crate measures, proofs/WorstRun.antt)
abbrev pub worst : List Node → ℕ
worst ns = worst_below ns (length ns) 0

-- ---- lists of node indices
-- what a parent's index gives; nothing for the source
abbrev pub of_parent : Parent → (ℕ → List ℕ) → List ℕ
of_parent none f = []
of_parent (at p) f = f p

-- the parent's path, then i. `left` bounds the steps, and as many as there are nodes are enough (`path_enough` in the crate lists, proofs/Enough.antt)
unfoldable pub path_down : List Node → ℕ → ℕ → List ℕ
path_down ns zero i = i ∷ []
path_down ns (suc left) i = of_parent (node_at ns i).parent (path_down ns left) ++ (i ∷ [])

-- "Path": from the source to node i
abbrev pub path_to : List Node → ℕ → List ℕ
path_to ns i = path_down ns (length ns) i

-- the numbers below n that pass a test, in order
unfoldable pub those : (ℕ → Bool) → ℕ → List ℕ
those f zero = []
those f (suc k) = those f k ++ cond (f k) (k ∷ []) []

-- "kind (0 source, 1 Steiner, 2 terminal)"
abbrev pub kind_of : Name → ℕ
kind_of source = 0
kind_of (steiner k) = 1
kind_of (terminal k) = 2

-- "number (0 for the source)"
abbrev pub number_of : Name → ℕ
number_of source = 0
number_of (steiner k) = k
number_of (terminal k) = k

-- the nodes of a kind, in index order
abbrev pub of_kind : ℕ → List Node → List ℕ
of_kind k ns = those (λ i. eqb (kind_of (node_at ns i).name) k) (length ns)

-- "terminals, Steiner nodes: node indices"
abbrev pub steiner_nodes : List Node → List ℕ
steiner_nodes = of_kind 1

abbrev pub terminal_nodes : List Node → List ℕ
terminal_nodes = of_kind 2

-- ---- places and names
-- how many stand before c in a list
unfoldable pub place_in : ℕ → List ℕ → ℕ
place_in c [] = 0
place_in c (x ∷ xs) = cond (eqb x c) 0 (suc (place_in c xs))

-- "place among the parent's children from 0 (0 for the source)"
abbrev pub place_under : List Node → ℕ → Parent → ℕ
place_under ns i none = 0
place_under ns i (at p) = place_in i (node_at ns p).children

-- what a name leads to: a node's index, or 7, "a name that no node has"
pub data Lookup : Type 0 where
  missing : Lookup
  found : ℕ → Lookup

abbrev pub same_name : Name → Name → Bool
same_name a b = cond (eqb (kind_of a) (kind_of b)) (eqb (number_of a) (number_of b)) false

-- the lowest of the first k nodes that has the name
unfoldable pub lookup : List Node → Name → ℕ → Lookup
lookup ns n zero = missing
lookup ns n (suc k) = first (lookup ns n k)
  where
    first : Lookup → Lookup
    first (found i) = found i
    first missing = cond (same_name (node_at ns k).name n) (found k) missing

-- among all nodes
abbrev pub lookup_in : List Node → Name → Lookup
lookup_in ns n = lookup ns n (length ns)
