-- A node in memory, as the definitions' node; points in two columns, and keepouts as flat numbers. Definitions only.
use Rattle.std.specs.Prelude.{ℕ, zero, suc, List, [], ◌∷◌, Option, None, Some, get_or, ℤ, pos}
use Rattle.geometry.specs.declared.Point.{Point}
use Rattle.geometry.specs.declared.Rectangle.{Rectangle}
use Rattle.tree.specs.Tree as D
use Rattle.tree.specs.declared.NodeName.{NodeName}
use Rattle.tree.specs.declared.NodeName.TheVariants.{Source, Steiner, Terminal}
use Rattle.tree.specs.declared.NodeIndex.{NodeIndex}
use Rattle.tree.specs.declared.NodeType.{NodeType}
use Rattle.tree.specs.declared.NodeType.TheVariants as T
use Rattle.tree.specs.declared.RoutingNode.{RoutingNode}

abbrev pub name_in : NodeName → D.Name
name_in Source = D.source
name_in (Steiner k) = D.steiner k.0
name_in (Terminal k) = D.terminal k.0

-- the kinds' numbers: "kind (0 source, 1 Steiner, 2 terminal)"
abbrev pub type_number : NodeType → ℕ
type_number T.Source = 0
type_number T.Steiner = 1
type_number T.Terminal = 2

-- any other number is a terminal's
abbrev pub type_of : ℕ → NodeType
type_of zero = T.Source
type_of (suc zero) = T.Steiner
type_of (suc (suc n)) = T.Terminal

-- the name of a kind that has a number
abbrev pub named : NodeType → ℕ → NodeName
named T.Source k = Source
named T.Steiner k = Steiner (record { 0 = k })
named T.Terminal k = Terminal (record { 0 = k })

abbrev pub parent_in : Option NodeIndex → D.Parent
parent_in None = D.none
parent_in (Some p) = D.at p.0

-- with its list of children
abbrev pub node_in : RoutingNode → List ℕ → D.Node
node_in n cs =
    record {
      name = name_in n.name;
      parent = parent_in n.parent;
      point = n.pt;
      children = cs;
      path = n.path_length;
      capacitance = n.capacitance;
      delay = n.delay;
    }

-- the point that stands at i in two columns
abbrev pub point_at : List ℤ → List ℤ → ℕ → Point
point_at xs ys i = record { xcoord = get_or xs i (pos 0); ycoord = get_or ys i (pos 0) }

-- the points of two columns, as many as the shorter has
unfoldable pub points_of : List ℤ → List ℤ → List Point
points_of [] l = []
points_of (x ∷ k) [] = []
points_of (x ∷ k) (y ∷ l) = record { xcoord = x; ycoord = y } ∷ points_of k l

-- the rectangles of a flat list: lower x, upper x, lower y, upper y; as many as there are four numbers for
unfoldable pub keepouts_of : List ℤ → List Rectangle
keepouts_of (a ∷ b ∷ c ∷ d ∷ r) = record { xcoord = record { lb = a; ub = b }; ycoord = record { lb = c; ub = d } } ∷ keepouts_of r
keepouts_of [] = []
keepouts_of (a ∷ []) = []
keepouts_of (a ∷ b ∷ []) = []
keepouts_of (a ∷ b ∷ c ∷ []) = []
