-- `tree_bytes::count_of`: the nodes of the kind before i.
use Rattle.std.proofs.Common.{◌≡◌, ◌<◌, rules, refl, ap, arith}
use Rattle.tree.specs.Memory.{type_number}
use Rattle.measures.proofs.Lending.{reads}
use Rattle.measures.proofs.KindsOf.{kind_read, same_kind}
use Rattle.tree_bytes.proofs.Counting.{count_none, count-all, counts_it, leaves_it}
use Rattle.tree_bytes.proofs.count_of.Goals as goal
use Rattle.tree_bytes.proofs.count_of.Goals.{then-eq, else-eq}

pub loop-i-init : goal.loop-i-init
loop-i-init c = count_none _ _ _

pub loop-i-preserved : goal.loop-i-preserved
loop-i-preserved c =
    let h : c.loop-i.i < c.args.tree.arena.now.counts.nodes = omega arith in
    let e = kind_read (reads c.args.tree) _ h refl c.kind_at.ensures in
    elim c.if-eq.branch [
      | then-eq w ↦
          let k : c.kind_at.result ≡ c.args.which = search (rules, c.eq.ensures) in
          rw w.m-is (counts_it _ _ _ c.loop-i.invariant h e (ap type_number k))
      | else-eq w ↦
          let k : (c.kind_at.result ≡ c.args.which → ⊥) = search (rules, c.eq.ensures) in
          rw w.m-is (leaves_it _ _ _ c.loop-i.invariant h e (λ z. k (same_kind _ _ z)))
    ]

pub returns : goal.returns
returns c = count-all _ _ _ c.loop-i.invariant (reads c.args.tree).size (omega arith)
