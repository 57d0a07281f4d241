-- `optimize_steiner_points` (document 01, "Measures, edits, text"). Definitions only.
use Rattle.std.specs.Prelude.{ℕ, zero, suc, Bool, true, false, ◌&&◌, cond, length, eqb, ltb, List, [], ◌∷◌, map}
use mathlib.Core.List.{foldr}
use Rattle.tree.specs.Tree.{Node, Tree, Name, source, steiner, terminal, Parent, none, at, node_at, change, with_parent, replace_last}
use Rattle.tree.specs.Measures.{those}

-- ---- which nodes go
abbrev pub is_steiner : Name → Bool
is_steiner source = false
is_steiner (steiner k) = true
is_steiner (terminal k) = false

-- "one-child Steiner nodes"
unfoldable pub lone : List Node → ℕ → Bool
lone ns i = is_steiner (node_at ns i).name && eqb (length (node_at ns i).children) 1

-- ---- one of them goes
-- the number below
abbrev pub below : ℕ → ℕ
below zero = zero
below (suc k) = k

-- "their indices close up": the index that j has once node i is gone
unfoldable pub closed : ℕ → ℕ → ℕ
closed i j = cond (ltb i j) (below j) j

abbrev pub closed_parent : ℕ → Parent → Parent
closed_parent i none = none
closed_parent i (at p) = at (closed i p)

-- a node's links, shifted; it keeps its name and what else it carries
abbrev pub closed_node : ℕ → Node → Node
closed_node i n =
    record {
      name = n.name;
      parent = closed_parent i n.parent;
      point = n.point;
      children = map (closed i) n.children;
      path = n.path;
      capacitance = n.capacitance;
      delay = n.delay;
    }

-- a list without its i-th element
unfoldable pub drop_at : {A : Type 0} → ℕ → List A → List A
drop_at i [] = []
drop_at zero (x ∷ xs) = xs
drop_at (suc i) (x ∷ xs) = x ∷ drop_at i xs

-- a one-child node's child
abbrev pub first_of : List ℕ → ℕ
first_of [] = 0
first_of (c ∷ cs) = c

-- node i is taken out from between p and c: "the child goes last among the parent's children"
unfoldable pub bypass : List Node → ℕ → ℕ → ℕ → List Node
bypass ns i p c = change (change ns p (replace_last i c)) c (with_parent p)

-- "remaining nodes keep their names and order, and their indices close up"
unfoldable pub close_up : ℕ → List Node → List Node
close_up i ns = map (closed_node i) (drop_at i ns)

abbrev pub remove_below : ℕ → List Node → Parent → List Node
remove_below i ns none = ns
remove_below i ns (at p) = close_up i (bypass ns i p (first_of (node_at ns i).children))

unfoldable pub remove : ℕ → List Node → List Node
remove i ns = remove_below i ns (node_at ns i).parent

-- ---- all of them go
-- "chosen before any removal"
abbrev pub chosen : List Node → List ℕ
chosen ns = those (lone ns) (length ns)

-- they "go from highest index down": the last of the list goes first. None is left after it (`none_left`, proofs/Optimizing.antt)
unfoldable pub optimized : List Node → List Node
optimized ns = foldr remove ns (chosen ns)

-- the tree with other nodes
abbrev pub with_nodes : Tree → List Node → Tree
with_nodes t ns = record { nodes = ns; allowed = t.allowed; farthest = t.farthest; limit = t.limit; next_steiner = t.next_steiner; next_terminal = t.next_terminal }

-- "a removed number isn't given out again"
abbrev pub optimize : Tree → Tree
optimize t = with_nodes t (optimized t.nodes)
