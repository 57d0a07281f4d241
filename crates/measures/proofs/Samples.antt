-- The tree of M6, and what the definitions of measures and lists give for it: total 16, worst 12.
use Rattle.std.proofs.Common.{◌≡◌, refl, List, [], ◌∷◌, ℕ, pos}
use Rattle.geometry.specs.Geometry.{gap, dist}
use Rattle.tree.specs.Tree.{zero_figure, Node, source, steiner, terminal, Name, Parent, none, at, node_at, sum_to, total}
use Rattle.tree.specs.Measures.{greatest, worst_below, worst, path_down, path_to, those, steiner_nodes, terminal_nodes, missing, found, lookup}

abbrev node : Name → Parent → ℕ → ℕ → List ℕ → ℕ → Node
node a p x y cs l = record { name = a; parent = p; point = record { xcoord = pos x; ycoord = pos y }; children = cs; path = l; capacitance = zero_figure; delay = zero_figure }

-- the source with one child, a Steiner node at (4, 2), whose children are terminal_1 at (4, 6) and terminal_2 at (10, 2)
abbrev pub m6 : List Node
m6 =
    node source none 0 0 (3 ∷ []) 0
    ∷ node (terminal 1) (at 3) 4 6 [] 10
    ∷ node (terminal 2) (at 3) 10 2 [] 12
    ∷ node (steiner 1) (at 0) 4 2 (1 ∷ 2 ∷ []) 6
    ∷ []

m6_total : total m6 ≡ 16
unfolding sum_to node_at gap dist
m6_total = refl

m6_worst : worst m6 ≡ 12
unfolding greatest worst_below node_at gap dist
m6_worst = refl

m6_path : path_to m6 2 ≡ 0 ∷ 3 ∷ 2 ∷ []
unfolding path_down node_at
m6_path = refl

m6_terminals : terminal_nodes m6 ≡ 1 ∷ 2 ∷ []
unfolding those node_at
m6_terminals = refl

m6_steiners : steiner_nodes m6 ≡ 3 ∷ []
unfolding those node_at
m6_steiners = refl

m6_lookup : lookup m6 (steiner 1) 4 ≡ found 3
unfolding lookup node_at
m6_lookup = refl

m6_no_such : lookup m6 (steiner 2) 4 ≡ missing
unfolding lookup node_at
m6_no_such = refl
