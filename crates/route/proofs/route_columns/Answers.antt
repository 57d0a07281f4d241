-- `route::route_columns`: a well-formed tree stands in the arena that the route filled, with the choice's figures.
use Rattle.std.proofs.Common.{rules, sym, subst}
use Rattle.std.specs.Prelude.{ℤ}
use Rattle.geometry.specs.Signed.{In32, home}
use Rattle.tables.specs.Held.{TreeIn}
use Rattle.route.proofs.Planning.{routed_held}
use Rattle.route.proofs.route_columns.Goals as goal

pub invariant_of-result : goal.invariant_of-result
invariant_of-result c =
    let f : In32 c.args.c.query.allowed = search rules in
    let v = c.requires in
    let h = routed_held c.args.px.now c.args.py.now c.args.ks.now c.args.c c.args.w v.plannable v.small _ c.route_sorted.ensures in
    record { stands = ∣ subst (λ (z : ℤ). TreeIn c.route_sorted.new.arena c.args.c.query.limit z c.args.w) (sym (home f)) h ∣₁ }
