-- `editing::steiner_parent`: the source, or the node that is named.
use Rattle.editing.proofs.Refusing.{default_is, named_is}
use Rattle.editing.proofs.steiner_parent.Goals as goal

pub returns-in-Some : goal.returns-in-Some
returns-in-Some c = named_is c.args.t.now 0 c.in-Some.is c.find_node.ensures
