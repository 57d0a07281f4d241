-- `lists::put_kind`: the nodes of the kind before i are written.
use Rattle.std.proofs.Common.{◌≡◌, ◌<◌, rules, ap, arith}
use Rattle.tree.specs.Memory.{type_number}
use Rattle.wire.specs.Puts.{puts_none}
use Rattle.measures.proofs.Lending.{reads}
use Rattle.measures.proofs.KindsOf.{kind_read, same_kind}
use Rattle.lists.proofs.Paths.{list_none, list_all, lists_it, leaves_it}
use Rattle.lists.proofs.put_kind.Goals as goal
use Rattle.lists.proofs.put_kind.Goals.{then-eq, else-eq}

pub loop-i-init : goal.loop-i-init
loop-i-init c = list_none _ _ _ _ _ (puts_none _ _ (omega arith) (omega arith))

pub loop-i-preserved : goal.loop-i-preserved
loop-i-preserved c =
    let h : c.loop-i.i < c.args.tree.arena.now.counts.nodes = omega arith in
    let e = kind_read (reads c.args.tree) _ h c.from.ensures c.kind_at.ensures in
    elim c.if-eq.branch [
      | then-eq w ↦
          let k : c.kind_at.result ≡ c.args.which = search (rules, c.eq.ensures) in
          rw (w.out-is, w.p-is) (lists_it _ _ _ _ _ c.loop-i.invariant h e (ap type_number k) w.put-p.ensures)
      | else-eq w ↦
          let k : (c.kind_at.result ≡ c.args.which → ⊥) = search (rules, c.eq.ensures) in
          rw (w.out-is, w.p-is) (leaves_it _ _ _ _ _ c.loop-i.invariant h e (λ z. k (same_kind _ _ z)))
    ]

pub returns : goal.returns
returns c = list_all _ _ _ _ _ c.loop-i.invariant (reads c.args.tree).size (omega arith)
