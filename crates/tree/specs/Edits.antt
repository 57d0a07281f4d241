-- A node by hand (document 01, "Measures, edits, text"). Definitions only.
use Rattle.std.specs.Prelude.{ℕ, ◌≡◌, [], ◌∷◌}
use Rattle.geometry.specs.declared.Point.{Point}
use Rattle.tree.specs.Tree.{Tree, Name, source, steiner, terminal}
use Rattle.tree.specs.Route.{new_node, splice, grown}

-- the name that is given next of its kind; st and te are the numbers that are given next
abbrev pub Next : ℕ → ℕ → Name → Type 0
Next st te source = ⊥
Next st te (steiner k) = k ≡ st
Next st te (terminal k) = k ≡ te

-- "whose branch end becomes the new node's one child"
abbrev pub spliced : Tree → Name → Point → ℕ → ℕ → Tree
spliced t n q p c = grown t n (splice t.nodes p c (new_node n p q (c ∷ []) 0))
