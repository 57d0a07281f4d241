-- What the call asks: columns that keep a tree whose path lengths are sums.
use Rattle.std.specs.Prelude.{ℕ, ◌≤◌, List, length, ℤ}
use Rattle.tree.specs.Shape.{Linked, PathSums}
use Rattle.search.specs.declared.Query.{Query}
use Rattle.search.specs.declared.NodeColumns.{NodeColumns}
use Rattle.search.specs.declared.LinkColumns.{LinkColumns}
use Rattle.search.specs.Find.{Ready}
use Rattle.joining.specs.Store.{ParentsIn}

-- the search can be asked, the parents stand in a column, and each path length is the parent's plus d
pub record Summed (n : ℕ) (a : Query) (xs ys : List ℤ) (path parent last prev : List ℕ) : Type 0 where
  pub ready : Ready n a xs ys path last prev
  pub linked : Linked ready.nodes
  pub in_parent : n ≤ length parent
  pub parents : ParentsIn ready.nodes parent
  pub sums : PathSums ready.nodes

-- the same of lent columns
abbrev pub SummedIn : ℕ → Query → NodeColumns → List ℕ → LinkColumns → Type 0
SummedIn n a v parent l = Summed n a v.xs.now v.ys.now v.path.now parent l.last.now l.prev.now
