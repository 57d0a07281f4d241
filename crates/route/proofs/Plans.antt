-- The plan for no terminals is the tree of the source alone.
use Rattle.std.proofs.Common.{◌≡◌, refl, ◌∙◌, List, [], ℤ}
use Rattle.geometry.specs.declared.Point.{Point}
use Rattle.tree.specs.Memory.{points_of}
use Rattle.tree.specs.Route.{inserts}
use Rattle.job.specs.declared.Mode.TheVariants.{Simple}
use Rattle.tables.specs.declared.Table.{Table}
use Rattle.tables.specs.Table.{table_tree}
use Rattle.route.specs.Plan.{Planned}
use Rattle.route.specs.Tables.{begun}

pub alone_is : {ks : List ℤ} {s : Point} (t : Table) → Planned ks [] [] s Simple t → table_tree t ≡ begun s
unfolding points_of inserts
alone_is t p = p.tree ∙ refl
