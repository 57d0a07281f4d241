-- `removing::close_up`: each buffer by itself.
use Rattle.removing.proofs.Moving.{at-index, at-count}
use Rattle.removing.proofs.close_up.Goals as goal

pub returns-clause-closed : goal.returns-clause-closed
returns-clause-closed c =
    let e = c.from-at.ensures in
    let p = c.close_points.ensures in
    let m = c.close_marks.ensures in
    let l = c.close_all_links.ensures in
    at-count c.from-n.ensures
    (record {
      rows = record { xs = at-index e p.xs; ys = at-index e p.ys; path = at-index e (c.close_gap.ensures 0); parent = m.parents; kind = m.kinds; number = m.numbers };
      last = l.lasts;
      prev = l.prevs;
      next = l.nexts;
    })
