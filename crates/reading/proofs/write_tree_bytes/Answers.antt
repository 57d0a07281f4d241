-- `reading::write_tree_bytes`: of the arena's nodes. The search finds this too, but refuses a wrong body only by a limit of its own.
use Rattle.std.proofs.Common.{rules}
use Rattle.geometry.specs.Signed.{In32, home}
use Rattle.output.proofs.Answering.{answers_of}
use Rattle.tree_bytes.specs.TreeBytes.{bytes_of}
use Rattle.reading.proofs.Standing.{nodes_lent}
use Rattle.reading.proofs.write_tree_bytes.Goals as goal

pub returns : goal.returns
returns c =
    let t = c.args.t.now in
    let a : In32 t.allowed = search rules in
    answers_of (λ i. bytes_of (nodes_lent t c.lend.ensures i) (home a i) t.farthest) c.write_tree_bytes.ensures
