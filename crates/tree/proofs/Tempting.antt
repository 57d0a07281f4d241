-- Two of document 01's "errors that tempt", shut out of the definitions themselves by computing: an edit of a definition that makes one of them is
-- refused here. The others change the code's tests, and are refused there.
use Rattle.std.proofs.Common.{◌≡◌, refl, List, [], ◌∷◌, map, pos, neg_ℤ}
use Rattle.geometry.specs.declared.Point.{Point}
use Rattle.geometry.specs.Geometry.{gap, dist, min_z, max_z, clip, same, origin}
use Rattle.tree.specs.Tree.{Node, none, at, node_at, change, without, replace_last}
use Rattle.tree.specs.Search.{any_of, stops, blocked, takes, judge, examine, branches, walk, find}
use Rattle.tree.specs.Route.{ordered, place, attach, joined, insert, inserts, route, constraints}

-- the nodes of a job with multiplier 1
abbrev nodes_for : List Point → List Node
nodes_for ts = (route (constraints (λ w. pos w)) origin ts []).nodes

-- "examining children first to last (M10)": the last of (0, 5), (5, 0), (5, 5) joins terminal_2, which has index 2
pub last_to_first : map (λ (n : Node). n.parent) (nodes_for (record { xcoord = pos 0; ycoord = pos 5 } ∷ record { xcoord = pos 5; ycoord = pos 0 } ∷ record { xcoord = pos 5; ycoord = pos 5 } ∷ [])) ≡ none ∷ at 0 ∷ at 0 ∷ at 2 ∷ []
unfolding gap dist min_z max_z clip same node_at change without replace_last any_of stops blocked takes judge examine branches walk find ordered place attach joined insert inserts
last_to_first = refl

-- "putting the Steiner node in C's old place": of (4, 2), (-4, -3), (3, 5) the last splits the branch to terminal_1, and its Steiner node, of index 4,
-- goes after terminal_2
pub after_the_others : map (λ (n : Node). n.children) (nodes_for (record { xcoord = pos 4; ycoord = pos 2 } ∷ record { xcoord = neg_ℤ (pos 4); ycoord = neg_ℤ (pos 3) } ∷ record { xcoord = pos 3; ycoord = pos 5 } ∷ [])) ≡ (2 ∷ 4 ∷ []) ∷ [] ∷ [] ∷ [] ∷ (1 ∷ 3 ∷ []) ∷ []
unfolding gap dist min_z max_z clip same node_at change without replace_last any_of stops blocked takes judge examine branches walk find ordered place attach joined insert inserts
after_the_others = refl
