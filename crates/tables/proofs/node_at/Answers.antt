-- `tables::node_at`: each field from its column.
use Rattle.std.proofs.Common.{get_or, ap, ◌∙◌}
use Rattle.tree.specs.Tree.{zero_figure}
use Rattle.tree.specs.Memory.{name_in, parent_in}
use Rattle.joining.proofs.Names.{parent_in-from}
use Rattle.tables.proofs.node_at.Goals as goal

pub returns : goal.returns
returns c =
    λ cs i. record {
      name = name_in (c.name_at.ensures i);
      parent = (ap parent_in c.parent_at.ensures ∙ parent_in-from _) i;
      point = c.point_at.ensures i;
      children = cs;
      path = get_or c.args.rows.now.path c.args.i 0;
      capacitance = zero_figure;
      delay = zero_figure;
    }
