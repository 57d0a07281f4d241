-- `tree_bytes::place`: the siblings that come make the place.
use Rattle.std.proofs.Common.{refl, ◌∙◌, inl, arith}
use Rattle.std.proofs.lemmas.Iterator.Consumers.{count_from_yields_List, YieldsList-from_first}
use Rattle.measures.specs.Chains.{rest_of}
use Rattle.measures.proofs.Lending.{reads}
use Rattle.tree_bytes.proofs.Places.{place-source, earlier}
use Rattle.tree_bytes.proofs.place.Goals as goal

pub returns-in_default : goal.returns-in_default
returns-in_default c = place-source (reads c.args.tree) _ c.requires c.in_default.ensures

pub child_before-next-requires : goal.child_before-next-requires
child_before-next-requires c = omega (arith, c.requires, (reads c.args.tree).few)

pub invariant_of-count : goal.invariant_of-count
invariant_of-count c = record { stand = ∣ (earlier (reads c.args.tree) _ c.requires c.in-Some.ensures c.child_before-next.ensures).siblings ∣₁ }

pub count-requires-clause-fits : goal.count-requires-clause-fits
count-requires-clause-fits c =
    let s = earlier (reads c.args.tree) _ c.requires c.in-Some.ensures c.child_before-next.ensures in
    inl (omega (arith, s.is, s.few))

pub overflow_cast-result : goal.overflow_cast-result
overflow_cast-result c =
    let s = earlier (reads c.args.tree) _ c.requires c.in-Some.ensures c.child_before-next.ensures in
    omega (arith, c.count.ensures.bound, s.is, s.few)

pub returns : goal.returns
returns c =
    let s = earlier (reads c.args.tree) _ c.requires c.in-Some.ensures c.child_before-next.ensures in
    count_from_yields_List _ _ c.count.ensures.ran (YieldsList-from_first (λ x. x.0) rest_of _ refl) ∙ s.is
