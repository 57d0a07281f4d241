-- `search::judge`: a branch that is past what was found is not taken; the nearest point is the definition's.
use Rattle.std.proofs.Common.{◌≡◌, ap, sym, subst, ◌∙◌, Option}
use Rattle.geometry.specs.declared.Point.{Point}
use Rattle.geometry.specs.Laws.{Within, nearest-within}
use Rattle.tree.specs.Limits.{reach}
use Rattle.tree.specs.Search.{nearest_on}
use Rattle.search.specs.declared.Best.{Best}
use Rattle.search.specs.declared.NodeView.{NodeView}
use Rattle.search.specs.declared.Query.{Query}
use Rattle.search.specs.Thin.{judged_at, judged}
use Rattle.search.proofs.Judging.{judged-past}
use Rattle.search.proofs.judge.Goals as goal

at_nearest : (a : Query) (P C : NodeView) (b : Best) (n : Point) (f : Option Best) → f ≡ judged_at a P C b n → n ≡ nearest_on P.point C.point a.point
    → record { near = n; found = f } ≡ judged a P C b
at_nearest a P C b n f ef en = λ i. record { near = en i; found = (ef ∙ ap (judged_at a P C b) en) i }

pub distance-d-requires : goal.distance-d-requires
distance-d-requires c =
    (subst (λ (n : Point). Within reach n) (sym c.nearest_on-n.ensures) (nearest-within _ c.requires.p c.requires.c), c.requires.within)

pub returns-then-is_past : goal.returns-then-is_past
returns-then-is_past c =
    at_nearest c.args.query c.args.at c.args.to c.args.b _ _ (judged-past c.args.query c.args.at c.args.to _ c.args.b _ c.distance-d.ensures (sym c.is_past.ensures ∙ c.if-is_past.true)) c.nearest_on-n.ensures

pub returns : goal.returns
returns c = at_nearest c.args.query c.args.at c.args.to c.args.b _ _ c.judge_at.ensures c.nearest_on-n.ensures

pub judge_at-requires-clause-within : goal.judge_at-requires-clause-within
judge_at-requires-clause-within c =
    subst (λ (n : Point). Within reach n) (sym c.nearest_on-n.ensures) (nearest-within _ c.requires.p c.requires.c)
