-- `search::Search::walk`: at the head of the loop, what is left of the walk gives the same answer as the whole; safety says that the popped node and its children fit.
use Rattle.std.proofs.Common.{false, refl, ap, arith}
use Rattle.search.specs.declared.Best.{Best}
use Rattle.search.specs.declared.Join.TheVariants.{Onto}
use Rattle.search.specs.Walk.{node_index}
use Rattle.search.proofs.WalkTurns.{begins, finishes, runs-out}
use Rattle.search.proofs.Popping.{reach_popped, in_links, linked, in_stack, near, fits, again}
use Rattle.search.proofs.Search.walk.Goals as goal

pub loop-turn-init : goal.loop-turn-init
loop-turn-init c =
    begins _ _ _ _ _ _ _ _ c.args.stack.now _ refl c.requires.stack_nonzero
    (λ i. record { join = Onto (node_index 0); best = c.max.ensures i; within = false }) c.requires.safe_on (omega arith)

pub view_at-at-requires : goal.view_at-at-requires
view_at-at-requires c = reach_popped c.requires.tree_columns c.loop-turn.invariant (omega arith)

pub examine_children-r-requires-clause-in_links : goal.examine_children-r-requires-clause-in_links
examine_children-r-requires-clause-in_links c = in_links c.requires.tree_columns c.loop-turn.invariant (omega arith) c.view_at-at.ensures

pub examine_children-r-requires-clause-near_children : goal.examine_children-r-requires-clause-near_children
examine_children-r-requires-clause-near_children c = near c.requires.tree_columns c.loop-turn.invariant (omega arith) c.view_at-at.ensures

pub examine_children-r-requires-clause-chained : goal.examine_children-r-requires-clause-chained
examine_children-r-requires-clause-chained c = linked c.requires.tree_columns c.loop-turn.invariant (omega arith) c.view_at-at.ensures

pub examine_children-r-requires-clause-in_stack : goal.examine_children-r-requires-clause-in_stack
examine_children-r-requires-clause-in_stack c =
    let v = c.loop-turn.invariant in
    in_stack c.requires.tree_columns v (omega arith) c.view_at-at.ensures v.size

pub overflow_add-looks : goal.overflow_add-looks
overflow_add-looks c = record { fits = fits c.requires.tree_columns c.loop-turn.invariant (omega arith) c.view_at-at.ensures c.examine_children-r.ensures }

pub loop-turn-preserved : goal.loop-turn-preserved
loop-turn-preserved c = again c.requires.tree_columns c.loop-turn.invariant (omega arith) c.view_at-at.ensures c.examine_children-r.ensures c.examine_children-r.auto.stack (omega arith)

pub returns-after-loop-turn : goal.returns-after-loop-turn
returns-after-loop-turn c =
    let z = runs-out _ _ _ _ _ _ _ _ tt _ _ _ _ _ c.loop-turn.invariant (omega arith) in
    record { join = ap (λ (b : Best). b.join) z.0; looks = z.1 }

pub returns-then-top-eq0 : goal.returns-then-top-eq0
returns-then-top-eq0 c =
    let z = finishes _ _ _ _ _ _ _ _ tt _ _ _ _ _ c.loop-turn.invariant (omega arith) in
    record { join = ap (λ (b : Best). b.join) z.0; looks = z.1 }
