-- `hand_inserts::link_between`: three changes of links, one after the other.
use Rattle.std.proofs.Common.{arith}
use Rattle.joining.proofs.Blocks.{column-most}
use Rattle.hand_inserts.proofs.link_between.Goals as goal

pub detach-requires-clause-p_lt_most_nodes : goal.detach-requires-clause-p_lt_most_nodes
detach-requires-clause-p_lt_most_nodes c =
    let m = column-most 0 c.args.links.now in
    (omega (arith, c.requires.in_p, m), omega (arith, c.requires.in_c, m))

pub append_child-requires : goal.append_child-requires
append_child-requires c =
    let m = column-most 0 c.args.links.now in
    (omega (arith, c.requires.in_p, m), omega (arith, c.requires.in_s, m))

pub attach_last-requires : goal.attach_last-requires
attach_last-requires c =
    let m = column-most 0 c.args.links.now in
    (omega (arith, c.requires.in_s, m), omega (arith, c.requires.in_c, m))
