-- `measures::worst_below`: the longest run so far and the longest of the children that are left; the levels fall.
use Rattle.std.proofs.Common.{ℕ, List, refl, ap, sym, subst, ◌∙◌, arith}
use Rattle.tree.specs.Measures.{worst_below}
use Rattle.measures.proofs.Lending.{reads}
use Rattle.measures.proofs.Reading.{near_read}
use Rattle.measures.proofs.Children.{siblings_of}
use Rattle.measures.specs.Standing.{nodes_in}
use Rattle.measures.specs.Chains.{rest_of}
use Rattle.measures.proofs.Longest.{Longest, worst-none, starts, stops, here, child_near, run_low, raised, max_is}
use Rattle.measures.proofs.+worst_below.Goals as goal

pub returns-then-left-eq0 : goal.returns-then-left-eq0
returns-then-left-eq0 t c = (worst-none _ _ _ c.if-left-eq0.true, omega arith)

pub point_at-p-requires : goal.point_at-p-requires
point_at-p-requires t c = omega (arith, c.from-i.ensures, c.requires.0, (reads c.args.tree).few)

pub last_child-next-requires : goal.last_child-next-requires
last_child-next-requires t c = omega (arith, c.from-i.ensures, c.requires.0, (reads c.args.tree).few)

pub invariant_of-c-items : goal.invariant_of-c-items
invariant_of-c-items t c =
    record { stand = ∣ siblings_of (reads c.args.tree) _ (omega (arith, c.from-i.ensures, c.requires.0)) c.last_child-next.ensures ∣₁ }

pub loop-c-init : goal.loop-c-init
loop-c-init t c =
    subst (λ (r : List ℕ). Longest (nodes_in c.args.tree.arena.now) c.args.tree.arena.now.counts.nodes c.args.left c.from-i.result r 0) (sym (ap rest_of c.into_iter-c-iterator.ensures.into_iter_gives))
    (starts _ _ _ _ _ (reads c.args.tree) refl c.last_child-next.ensures (omega (arith, c.from-i.ensures, c.requires.0)) c.if-left-eq0.false)

pub point_at-q-requires : goal.point_at-q-requires
point_at-q-requires t c =
    omega (arith, here _ _ _ _ _ (reads c.args.tree) c.loop-c.invariant c.in-Some.ensures.steps c.from.ensures, c.from.ensures, (reads c.args.tree).few)

pub worst_below-below-requires : goal.worst_below-below-requires
worst_below-below-requires t c =
    let z = c.loop-c.invariant.some in (
      omega (arith, c.decreases),
      (here _ _ _ _ _ (reads c.args.tree) c.loop-c.invariant c.in-Some.ensures.steps c.from.ensures, omega (arith, c.requires.1)),
    )

pub distance-requires : goal.distance-requires
distance-requires t c =
    let v = reads c.args.tree in (
      near_read v _ (omega (arith, c.from-i.ensures, c.requires.0)) _ refl c.point_at-p.ensures,
      child_near _ _ _ _ _ v c.loop-c.invariant c.in-Some.ensures.steps c.from.ensures c.point_at-q.ensures,
    )

pub overflow_add-run : goal.overflow_add-run
overflow_add-run t c =
    let b = c.worst_below-below.ensures in
    let low = run_low _ _ _ _ _ (reads c.args.tree) c.loop-c.invariant c.in-Some.ensures.steps c.from.ensures (omega (arith, c.from-i.ensures, c.requires.0)) c.point_at-p.ensures c.point_at-q.ensures c.distance.ensures b.0 b.1 in
    omega (arith, c.requires.1, low)

pub loop-c-preserved : goal.loop-c-preserved
loop-c-preserved t c =
    let b = c.worst_below-below.ensures in
    raised _ _ _ _ _ (reads c.args.tree) c.loop-c.invariant c.in-Some.ensures.steps c.from.ensures (omega (arith, c.from-i.ensures, c.requires.0))
    c.point_at-p.ensures c.point_at-q.ensures c.distance.ensures b.0 b.1 (c.max-longest.ensures ∙ max_is _ _)

pub returns : goal.returns
returns t c =
    (stops _ _ _ _ _ (reads c.args.tree) c.loop-c.invariant c.in-None.ensures.steps.0 ∙ ap (worst_below _ c.args.left) c.from-i.ensures, c.loop-c.invariant.small)
