-- `search::blocked`: the keepouts that are left decide as all of them do.
use Rattle.tree.specs.Search.{blocked}
use Rattle.search.proofs.Keepouts.{left_hit, left_next, left_none}
use Rattle.search.proofs.blocked.Goals as goal

pub returns-then-stops_branch : goal.returns-then-stops_branch
unfolding blocked
returns-then-stops_branch c =
    let s = c.in-Some.ensures.steps.1 in
    left_hit c.loop-k.invariant _ _ s.0 s.1 c.keepout_at.ensures c.stops_branch.ensures c.if-stops_branch.true

pub loop-k-preserved : goal.loop-k-preserved
loop-k-preserved c =
    let t = c.in-Some.ensures.steps in
    left_next c.loop-k.invariant _ _ t.1.0 t.1.1 c.keepout_at.ensures c.stops_branch.ensures c.if-stops_branch.false t.0

pub returns : goal.returns
unfolding blocked
returns c = left_none c.loop-k.invariant c.in-None.ensures.steps.1.0
