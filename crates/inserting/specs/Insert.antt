-- The two ways to insert a terminal, on columns.
use Rattle.std.specs.Prelude.{ℕ, ◌≡◌, List, ℤ}
use Rattle.geometry.specs.declared.Point.{Point}
use Rattle.tree.specs.Tree.{Tree}
use Rattle.tree.specs.Route.{insert, insert_simple}
use Rattle.tree.specs.Shape.{PathSums}
use Rattle.search.specs.declared.Query.{Query}
use Rattle.tree.specs.Memory.{keepouts_of}
use Rattle.search.specs.declared.Found.{Found}
use Rattle.search.specs.Find.{Joins}
use Rattle.nearest.specs.Summed.{Summed}
use Rattle.joining.specs.declared.Counts.{Counts}
use Rattle.joining.specs.Store.{Store}
use Rattle.joining.specs.Standing.{Standing, Grows, Anything}
use Rattle.inserting.specs.declared.Way.{Way}
use Rattle.inserting.specs.declared.Way.TheVariants.{Simple, Search}

-- ---- at the closest node
-- a terminal at q has joined the closest node
abbrev pub InsertedSimple : Point → Counts → Store → Counts → Store → Type 0
InsertedSimple q = Grows Anything (λ t. insert_simple t q)

-- ---- either way
-- the query has the tree's limit and allowance
pub record QueryOf (a : Query) (t : Tree) : Type 0 where
  pub limit : t.limit ≡ a.limit
  pub allowed : t.allowed ≡ a.allowed

-- how a terminal is inserted: mode 0, or modes 1 and 2
abbrev pub step_of : Way → List ℤ → Tree → Point → Tree
step_of Simple ks = insert_simple
step_of Search ks = insert (keepouts_of ks)

-- the query's point has been inserted
abbrev pub Inserted : Way → List ℤ → Query → Counts → Store → Counts → Store → Type 0
Inserted way ks a = Grows (QueryOf a) (λ t. step_of way ks t a.point)

-- ---- what a way asks of a tree
-- the search: path lengths that are sums; mode 0: nothing
abbrev pub SummedFor : Way → Tree → Type 0
SummedFor Simple t = Unit {0}
SummedFor Search t = PathSums t.nodes

pub record Asked (way : Way) (a : Query) (t : Tree) : Type 0 where
  pub query : QueryOf a t
  pub sums : SummedFor way t

-- a tree stands in the columns, with room for a terminal and a Steiner node
abbrev pub Insertable : Way → Query → Counts → Store → Type 0
Insertable way a = Standing (Asked way a) 2 a.point

-- ---- the search, on columns
abbrev pub Searchable : ℕ → Query → Store → Type 0
Searchable n a c = Summed n a c.rows.xs c.rows.ys c.rows.path c.rows.parent c.links.last c.links.prev

abbrev pub FoundIn : ℕ → Query → Store → List ℤ → Found → Type 0
FoundIn n a c ks r = Joins n a c.rows.xs c.rows.ys c.rows.path c.links.last c.links.prev ks r
