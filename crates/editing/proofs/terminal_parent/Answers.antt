-- `editing::terminal_parent`: the closest node, or the one that is named.
use Rattle.std.proofs.Common.{ap, ◌∙◌}
use Rattle.tree.specs.Measures.{found}
use Rattle.nearest.proofs.Closest.{near-points, closest_is}
use Rattle.tables.specs.Table.{tabled}
use Rattle.tables.proofs.TableSizes.{size}
use Rattle.editing.proofs.Refusing.{default_is, named_is}
use Rattle.editing.proofs.terminal_parent.Goals as goal

pub closest_node-requires : goal.closest_node-requires
closest_node-requires c =
    let v = tabled c.args.t.now in
    near-points v.formed (size c.args.t.now) v.keeps v.sized.rows v.few v.few c.requires

pub returns-in-None : goal.returns-in-None
returns-in-None c =
    let t = c.args.t.now in
    ap found (closest_is (size t) (tabled t).keeps _ c.closest_node.ensures) ∙ default_is t _ c.in-None.is

pub returns-in-Some : goal.returns-in-Some
returns-in-Some c = named_is c.args.t.now _ c.in-Some.is c.find_node.ensures
