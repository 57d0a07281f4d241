-- `tree_bytes::write_tree_bytes`: what the writer writes.
use Rattle.std.proofs.Common.{rules}
use Rattle.tree_bytes.proofs.write_tree_bytes.Goals as goal

pub returns : goal.returns
returns c =
    c.write_measured.ensures _ (record { measures = λ m none p. search (rules, p.met, p.shows, p.leaves); writes = λ r out' p. search (rules, p.met, p.shows, p.leaves) })
