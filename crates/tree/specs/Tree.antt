-- The tree: nodes by index, the source at 0.
use Rattle.std.specs.Prelude.{ℕ, zero, suc, ◌+◌, Bool, true, false, cond, List, [], ◌∷◌, ◌++◌, length, get_or, set, eqb, ℤ, Float}
use Rattle.std.specs.Float.{binary64}
use Rattle.std.specs.Float.Ieee.{of_bits}
use Rattle.geometry.specs.declared.Point.{Point}
use Rattle.geometry.specs.Geometry.{dist, origin}

pub data Name : Type 0 where
  source : Name
  steiner : ℕ → Name
  terminal : ℕ → Name

pub data Parent : Type 0 where
  none : Parent
  at : ℕ → Parent

pub record Node : Type 0 where
  pub name : Name
  pub parent : Parent
  pub point : Point
  pub children : List ℕ
  pub path : ℕ
  pub capacitance : Float
  pub delay : Float

-- 0.0
abbrev pub zero_figure : Float
zero_figure = of_bits binary64 0

-- a test as a number
abbrev pub one : Bool → ℕ
one true = 1
one false = 0

pub record Tree : Type 0 where
  pub nodes : List Node
  pub allowed : ℤ
  pub farthest : ℕ
  pub limit : ℕ
  pub next_steiner : ℕ
  pub next_terminal : ℕ

-- what stands where no node is
abbrev pub blank : Node
blank = record { name = source; parent = none; point = origin; children = []; path = 0; capacitance = zero_figure; delay = zero_figure }

unfoldable pub node_at : List Node → ℕ → Node
node_at ns i = get_or ns i blank

unfoldable pub change : List Node → ℕ → (Node → Node) → List Node
change ns i f = set ns i (f (node_at ns i))

-- c leaves a list of children
unfoldable pub without : ℕ → List ℕ → List ℕ
without c [] = []
without c (a ∷ r) = cond (eqb a c) (without c r) (a ∷ without c r)

abbrev pub with_children : List ℕ → Node → Node
with_children cs n = record { name = n.name; parent = n.parent; point = n.point; children = cs; path = n.path; capacitance = n.capacitance; delay = n.delay }

abbrev pub with_parent : ℕ → Node → Node
with_parent p n = record { name = n.name; parent = at p; point = n.point; children = n.children; path = n.path; capacitance = n.capacitance; delay = n.delay }

-- c goes last among the children
abbrev pub adopt : ℕ → Node → Node
adopt c n = with_children (n.children ++ (c ∷ [])) n

-- c leaves, and s goes last
unfoldable pub replace_last : ℕ → ℕ → Node → Node
replace_last c s n = with_children (without c n.children ++ (s ∷ [])) n

-- ---- measures
-- f 0 + .. + f (n - 1)
unfoldable pub sum_to : ℕ → (ℕ → ℕ) → ℕ
sum_to zero f = 0
sum_to (suc k) f = sum_to k f + f k

-- d from the node to its parent; 0 for the source
abbrev pub to_parent : List Node → Point → Parent → ℕ
to_parent ns q none = 0
to_parent ns q (at p) = dist (node_at ns p).point q

abbrev pub edge : List Node → ℕ → ℕ
edge ns i = to_parent ns (node_at ns i).point (node_at ns i).parent

-- the total: d to the parent, over all nodes
abbrev pub total : List Node → ℕ
total ns = sum_to (length ns) (edge ns)

-- the node above; the source stays
abbrev pub above : ℕ → Parent → ℕ
above i none = i
above i (at p) = p

abbrev pub up : List Node → ℕ → ℕ
up ns i = above i (node_at ns i).parent

-- k steps from a node to its parent
unfoldable pub climb : List Node → ℕ → ℕ → ℕ
climb ns zero i = i
climb ns (suc k) i = climb ns k (up ns i)

-- the Manhattan sum over k such steps
unfoldable pub climbed : List Node → ℕ → ℕ → ℕ
climbed ns zero i = 0
climbed ns (suc k) i = edge ns i + climbed ns k (up ns i)

-- the terminals with their numbers, in index order
abbrev pub terminal_of : Name → Point → List (ℕ × Point) → List (ℕ × Point)
terminal_of source q r = r
terminal_of (steiner k) q r = r
terminal_of (terminal k) q r = (k, q) ∷ r

unfoldable pub terminals : List Node → List (ℕ × Point)
terminals [] = []
terminals (n ∷ ns) = terminal_of n.name n.point (terminals ns)

-- points with numbers from k on
unfoldable pub numbered : ℕ → List Point → List (ℕ × Point)
numbered k [] = []
numbered k (q ∷ qs) = (k, q) ∷ numbered (suc k) qs
