-- The tree of a source and terminals in any order, in an arena.
use Rattle.std.specs.Prelude.{ℕ, ◌+◌, ◌≤◌, ◌≡◌, List, length, ℤ, pos}
use Rattle.geometry.specs.declared.Point.{Point}
use Rattle.geometry.specs.Laws.{Within}
use Rattle.allowance.specs.Allowance.{allowed_of}
use Rattle.tree.specs.Limits.{reach, most_terminals, no_limit}
use Rattle.tree.specs.Route.{route}
use Rattle.tree.specs.WellFormed.{Counted}
use Rattle.job.specs.declared.Mode.{Mode}
use Rattle.job.specs.declared.Mode.TheVariants.{Simple, Steiners, Constraints}
use Rattle.tree.specs.Memory.{points_of, keepouts_of}
use Rattle.sorting.specs.Points.{Even}
use Rattle.inserting.specs.declared.Way.TheVariants as W
use Rattle.inserting.specs.Route.{RoutedColumns}
use Rattle.tables.specs.declared.Table.{Table}
use Rattle.tables.specs.Table.{table_store, table_tree}
use Rattle.route.specs.declared.Choice.{Choice}
use Rattle.route.specs.Routing.{way_of}

-- how a mode routes, with W: the way to join, the tree limit and the allowance
abbrev pub choice_of : Mode → Point → ℕ → Choice
choice_of Simple s w = record { way = W.Simple; query = record { point = s; limit = no_limit; allowed = pos no_limit } }
choice_of Steiners s w = record { way = W.Search; query = record { point = s; limit = no_limit; allowed = pos no_limit } }
choice_of (Constraints m) s w = record { way = W.Search; query = record { point = s; limit = w; allowed = allowed_of w m } }

pub record Plannable (px py : List ℤ) (s : Point) : Type 0 where
  pub even : Even px py
  pub few : length px ≤ most_terminals
  pub source : Within reach s

-- the table has the tree of terminals in the order given, by a choice, and carries w
pub record TableRouted (ks px py : List ℤ) (c : Choice) (w : ℕ) (t : Table) : Type 0 where
  pub columns : RoutedColumns c.way ks px py c.query t.arena.counts (table_store t)
  pub limit : t.limit ≡ c.query.limit
  pub allowed : t.allowed ≡ c.query.allowed
  pub farthest : t.farthest ≡ w

-- the table is the tree that the definition gives
pub record Planned (ks px py : List ℤ) (s : Point) (mode : Mode) (t : Table) : Type 0 where
  pub tree : table_tree t ≡ route (way_of mode) s (points_of px py) (keepouts_of ks)
  pub counted : Counted (table_tree t)
  pub next : t.arena.counts.terminal.0 ≡ length px + 1
