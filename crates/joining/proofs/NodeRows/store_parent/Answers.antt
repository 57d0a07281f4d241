-- `joining::NodeRows::store_parent`: a store in the column of parents.
use Rattle.joining.proofs.Blocks.{put_parent}
use Rattle.joining.proofs.NodeRows.store_parent.Goals as goal

pub returns : goal.returns
returns c = let r = c.args.self.now in put_parent r.points r.path r.marks _ _ c.requires c.from.ensures
