-- `GlobalRoutingTree::from_table`: the nodes are packed, and the links stay.
use Rattle.std.proofs.Common.{rules}
use Rattle.geometry.specs.Signed.{In32}
use Rattle.global_router.proofs.Packed.{packed}
use Rattle.global_router.proofs.GlobalRoutingTree.from_table.Goals as goal

pub returns : goal.returns
returns c =
    let allowed : In32 c.args.t.now.allowed = search rules in
    (packed c.args.t.now c.nodes_of-nodes.result c.nodes_of-nodes.ensures allowed).0

pub invariant_of-result : goal.invariant_of-result
invariant_of-result c =
    let allowed : In32 c.args.t.now.allowed = search rules in
    record { stored = ∣ (packed c.args.t.now c.nodes_of-nodes.result c.nodes_of-nodes.ensures allowed).1 ∣₁ }
