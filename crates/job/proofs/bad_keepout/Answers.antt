-- `job::bad_keepout`: any keepout.
use Rattle.std.proofs.Common.{◌≡◌, true, false, ap, refl, rules, arith, ℕ, ◌+◌, ◌*◌, ◌∙◌}
use Rattle.std.proofs.lemmas.Iterator.{cases_from_any, YieldsList-from_range}
use Rattle.tree.specs.Search.{any_of}
use Rattle.job.specs.Layout.{row, keepouts_at}
use Rattle.job.specs.Job.{rectangle_from, terminal_count, invalid_keepout}
use Rattle.job.proofs.Row.{any_is}
use Rattle.job.proofs.bad_keepout.Goals as goal

pub returns : goal.returns
returns c =
    let b = c.args.s.now in
    let k = c.keepout_count.result in
    let at = keepouts_at (terminal_count b) in
    let one = λ (i : ℕ). invalid_keepout (rectangle_from b (at + 16 * i)) in
    let run = cases_from_any _ _ _ (λ i. one i ≡ true) (λ i. one i ≡ false) c.any.ensures.ran (YieldsList-from_range 0 k k refl (omega arith)) (λ x q k. search rules) (λ x q k. search rules) in
    any_is (rectangle_from b) 16 at invalid_keepout k _ run ∙ ap (λ (n : ℕ). any_of invalid_keepout (row (rectangle_from b) 16 at n)) c.keepout_count.ensures
