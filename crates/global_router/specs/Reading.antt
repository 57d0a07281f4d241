-- What name lookup answers.
use Rattle.std.specs.Prelude.{ℕ}
use Rattle.tree.specs.Measures.{Lookup, missing, found}

-- name lookup's answer: the paper's number, or a node's index
pub data Looked : Type 0 where
  refused : ℕ → Looked
  index : ℕ → Looked

-- "7: a name that no node has"
abbrev pub looked_up : Lookup → Looked
looked_up missing = refused 7
looked_up (found i) = index i
