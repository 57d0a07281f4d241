-- `reading::find_path`: 7 where no node has the name; else the path to the node that has it.
use Rattle.reading.proofs.Standing.{path-missing, path-low, path-found}
use Rattle.reading.proofs.find_path.Goals as goal

pub returns-in_default : goal.returns-in_default
returns-in_default c = path-missing c.args.t.now _ _ c.find_node.ensures c.in_default.is _

pub write_path-requires : goal.write_path-requires
write_path-requires c = path-low c.args.t.now _ _ c.find_node.ensures _ c.in-Some.is

pub returns : goal.returns
returns c = path-found c.args.t.now _ _ c.find_node.ensures _ c.in-Some.is c.write_path.ensures
