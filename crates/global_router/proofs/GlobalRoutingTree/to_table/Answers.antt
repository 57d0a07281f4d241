-- `GlobalRoutingTree::to_table`: the nodes' rows are stored, and the links stay.
use Rattle.std.proofs.Common.{rules}
use Rattle.geometry.specs.Signed.{In32}
use Rattle.global_router.proofs.Unpacked.{unpackable, unpacked}
use Rattle.global_router.proofs.GlobalRoutingTree.to_table.Goals as goal

pub rows_of-rows-requires : goal.rows_of-rows-requires
rows_of-rows-requires c = unpackable c.args.self.now

pub returns : goal.returns
returns c =
    let allowed : In32 c.args.self.now.allowed = search rules in
    (unpacked c.args.self.now c.rows_of-rows.result c.rows_of-rows.ensures.packs c.rows_of-rows.ensures.sized allowed).0

pub invariant_of-result : goal.invariant_of-result
invariant_of-result c =
    let allowed : In32 c.args.self.now.allowed = search rules in
    record { stands = ∣ (unpacked c.args.self.now c.rows_of-rows.result c.rows_of-rows.ensures.packs c.rows_of-rows.ensures.sized allowed).1 ∣₁ }
