-- The order in which the walk examines branches where nothing is in the way, without what it finds: the first branch that passes a test. Definitions only.
use Rattle.std.specs.Prelude.{ℕ, zero, suc, Bool, cond, List, [], ◌∷◌, ◌++◌, length}
use Rattle.tree.specs.Tree.{Node, node_at}
use Rattle.tree.specs.Search.{Taken, nothing, the}

abbrev pub or_else : Taken → Taken → Taken
or_else nothing t = t
or_else (the p c) t = the p c

module _ (nodes : List Node) (test : ℕ → ℕ → Bool) where
  -- among the branches from p, last to first
  unfoldable pub last_of : ℕ → List ℕ → Taken
  last_of p [] = nothing
  last_of p (c ∷ cs) = or_else (last_of p cs) (cond (test p c) (the p c) nothing)

  -- on a stack: every child is pushed
  unfoldable pub first_on : ℕ → List ℕ → Taken
  first_on zero stack = nothing
  first_on (suc k) [] = nothing
  first_on (suc k) (p ∷ rest) = or_else (last_of p (node_at nodes p).children) (first_on k ((node_at nodes p).children ++ rest))

  abbrev pub first_taken : Taken
  first_taken = first_on (length nodes) (0 ∷ [])
