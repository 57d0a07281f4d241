-- `Chain::next`: the child that comes is the first of the chain, and the one before it leads on.
use Rattle.std.proofs.Common.{refl, arith}
use Rattle.measures.proofs.Lending.{reads}
use Rattle.measures.proofs.Children.{chain-none, child_low, siblings_before, chain_step, shorter}
use Rattle.measures.proofs.Stepping.{siblings_in, stays_none}
use Rattle.measures.proofs.ChainIterator.next.Goals as goal

pub returns-in_err-c-clause-steps : goal.returns-in_err-c-clause-steps
returns-in_err-c-clause-steps c =
    stays_none c.args.self.now c.from_residual.ensures (chain-none (reads c.args.self.now.tree) (siblings_in c.args.self.now.stand) c.in_err-c.was)

pub child_before-self-requires : goal.child_before-self-requires
child_before-self-requires c =
    let v = reads c.args.self.now.tree in
    omega (arith, child_low v (siblings_in c.args.self.now.stand) c.in_ok-c.was, c.from.ensures, v.few)

pub invariant_of-self : goal.invariant_of-self
invariant_of-self c =
    record { stand = ∣ siblings_before (reads c.args.self.now.tree) (siblings_in c.args.self.now.stand) c.in_ok-c.was _ c.from.ensures c.child_before-self.ensures ∣₁ }

pub returns-clause-steps : goal.returns-clause-steps
returns-clause-steps c = chain_step (reads c.args.self.now.tree) (siblings_in c.args.self.now.stand) c.in_ok-c.was _ c.from.ensures c.child_before-self.ensures

pub returns-clause-goes : goal.returns-clause-goes
returns-clause-goes c =
    let s = shorter (reads c.args.self.now.tree) (siblings_in c.args.self.now.stand) c.in_ok-c.was _ c.from.ensures c.child_before-self.ensures in
    record { on = λ f. (tt, f, s); keeps = tt; rests = λ f. tt }
