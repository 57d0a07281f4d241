-- `search::Search::examine_children`: at the head of the loop, the children that are left give the same walk as all of them.
use Rattle.std.proofs.Common.{arith}
use Rattle.std.proofs.Math.ListN.{length, get_or}
use Rattle.search.proofs.Chains.{chain-short}
use Rattle.search.proofs.ChildTurns.{ends, here, room, is_child, less, pushes, skips}
use Rattle.search.proofs.Search.examine_children.Goals as goal
use Rattle.search.proofs.Search.examine_children.Goals.{then-step, else-step}

pub examine-step-requires : goal.examine-step-requires
examine-step-requires c =
    let r = c.requires.near_children in r.each _ (is_child r.few c.loop-child.invariant c.in-Some.is)

pub bounds-stack-top : goal.bounds-stack-top
bounds-stack-top c =
    let v = c.loop-child.invariant in
    omega (arith, room c.requires.near_children.few v c.in-Some.is, v.size, c.requires.in_stack)

pub child_before-child-requires : goal.child_before-child-requires
child_before-child-requires c = here c.requires.near_children.few c.loop-child.invariant c.in-Some.is

pub overflow_add-looks : goal.overflow_add-looks
overflow_add-looks c =
    let prev = c.args.self.now.links.prev.now in
    omega (arith, c.loop-child.invariant.counted, c.requires.near_children.few, chain-short (length prev) prev (get_or c.args.self.now.links.last.now c.args.at.node.0 0))

pub loop-child-smaller : goal.loop-child-smaller
loop-child-smaller c = less c.requires.near_children.few c.loop-child.invariant c.in-Some.is c.child_before-child.ensures

pub loop-child-preserved : goal.loop-child-preserved
loop-child-preserved c =
    let few = c.requires.near_children.few in
    let v = c.loop-child.invariant in
    elim c.if-step.branch [
      | then-step w ↦ pushes few v c.in-Some.is c.examine-step.ensures w.if-step.true
          (omega (arith, room few v c.in-Some.is, v.size, c.requires.in_stack)) w.stack-is w.top-is c.child_before-child.ensures
      | else-step w ↦ skips few v c.in-Some.is c.examine-step.ensures w.if-step.false w.stack-is w.top-is c.child_before-child.ensures
    ]

pub returns : goal.returns
returns c = ends c.requires.near_children.few c.loop-child.invariant c.in_default.is
