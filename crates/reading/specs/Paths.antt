-- The path to the node that has a name: a name that no node has comes before a buffer that is too short.
use Rattle.std.specs.Prelude.{ℕ, ◌≡◌, List, Result, Err}
use Rattle.refusal.specs.declared.Refusal.{Refusal}
use Rattle.refusal.specs.declared.Refusal.TheVariants.{NoSuchNode}
use Rattle.tree.specs.Tree.{Node, Name}
use Rattle.tree.specs.Measures.{Lookup, missing, found, lookup_in, path_to}
use Rattle.output.specs.Answer.{Answers}

-- "7: a name that no node has"; "all lent bytes are then as before"
abbrev pub PathFrom : List Node → Lookup → List ℕ → Result ℕ Refusal → List ℕ → Type 0
PathFrom ns missing out r out' = (r ≡ Err NoSuchNode) × (out' ≡ out)
PathFrom ns (found i) out r out' = Answers (path_to ns i) out r out'

-- "Path listing and name lookup can give 7, before 11."
abbrev pub PathNamed : List Node → Name → List ℕ → Result ℕ Refusal → List ℕ → Type 0
PathNamed ns n = PathFrom ns (lookup_in ns n)
