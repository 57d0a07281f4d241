-- `search::judge_at`: the numbers of the branch are the definition's, so the take and what is kept are.
use Rattle.std.proofs.Common.{refl, ◌∙◌, arith}
use Rattle.geometry.specs.Laws.{dist-small}
use Rattle.search.proofs.Judging.{judged-yes, judged_no}
use Rattle.search.proofs.judge_at.Goals as goal

pub overflow_add-l : goal.overflow_add-l
overflow_add-l c = omega (arith, c.requires.near.path, c.distance-e.ensures, dist-small c.requires.near.p c.requires.within)

pub overflow_add-l-2 : goal.overflow_add-l-2
overflow_add-l-2 c =
    omega (
      arith,
      c.requires.near.path,
      c.distance-e.ensures,
      c.requires.d_value,
      dist-small c.requires.near.p c.requires.within,
      dist-small c.requires.within c.requires.near.within,
    )

pub returns-then-not-takes : goal.returns-then-not-takes
returns-then-not-takes c =
    judged_no _ _ _ _ _ _ _ _ _ c.requires.d_value c.distance-e.ensures c.allows-w.ensures c.takes.ensures c.if-not-takes.true

pub returns : goal.returns
returns c =
    judged-yes _ _ _ _ _ _ _ _ _ c.requires.d_value c.distance-e.ensures c.allows-w.ensures c.takes.ensures _ _ c.if-not-takes.false
    c.join_at.ensures refl
