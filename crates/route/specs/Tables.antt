-- What a job's bytes get, the tree in columns.
use Rattle.std.specs.Prelude.{Result, Ok, Err, pos}
use Rattle.geometry.specs.declared.Point.{Point}
use Rattle.refusal.specs.declared.Refusal.{Refusal}
use Rattle.refusal.specs.Refusals.{number_of}
use Rattle.tree.specs.Limits.{no_limit}
use Rattle.tree.specs.Tree.{Tree}
use Rattle.tree.specs.Route.{rooted}
use Rattle.tables.specs.declared.Table.{Table}
use Rattle.tables.specs.Table.{table_tree}
use Rattle.route.specs.Routing.{Routing, refused, routed}

-- a tree that begins at a point: `worst_wirelength` is 2147483647, "for a tree made by hand" allowed is that, "with W 0"
abbrev pub begun : Point → Tree
begun s = rooted s (pos no_limit) 0 no_limit

-- the paper's number, or the tree
abbrev pub routing_in : Result Table Refusal → Routing
routing_in (Err e) = refused (number_of e)
routing_in (Ok t) = routed (table_tree t)
