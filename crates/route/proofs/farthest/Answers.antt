-- `route::farthest`: w, and the terminals that are left.
use Rattle.std.proofs.Common.{sym, ap, subst, arith, rules, ◌∙◌}
use Rattle.geometry.specs.Geometry.{dist}
use Rattle.geometry.specs.Laws.{Within}
use Rattle.tree.specs.Limits.{reach}
use Rattle.route.proofs.Scanning.{scanned_starts, scanned_turn, scanned_ends}
use Rattle.route.proofs.farthest.Goals as goal

pub loop-i-init : goal.loop-i-init
loop-i-init c = scanned_starts _ _ _ c.requires.0.both

pub distance-d-requires : goal.distance-d-requires
distance-d-requires c = (c.requires.1, subst (Within reach) (sym c.point_at.ensures) (c.requires.0.near c.loop-i.i (omega arith)))

pub loop-i-preserved : goal.loop-i-preserved
loop-i-preserved c =
    scanned_turn _ _ _ _ _ c.loop-i.invariant (omega arith) _ _ (c.distance-d.ensures ∙ ap (dist c.args.s) c.point_at.ensures) (search rules)

pub returns : goal.returns
returns c = scanned_ends _ _ _ _ _ c.loop-i.invariant (omega arith)
