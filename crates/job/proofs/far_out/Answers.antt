-- `job::far_out`: the source, and then any terminal.
use Rattle.std.proofs.Common.{◌≡◌, true, false, ap, refl, rules, arith, ℕ, ◌+◌, ◌*◌, ◌∙◌}
use Rattle.std.proofs.lemmas.Iterator.{cases_from_any, YieldsList-from_range}
use Rattle.geometry.proofs.Chains.{or_then}
use Rattle.tree.specs.Search.{any_of}
use Rattle.job.specs.Layout.{row}
use Rattle.job.specs.Job.{point_from, outside}
use Rattle.job.proofs.Row.{any_is}
use Rattle.job.proofs.far_out.Goals as goal

pub returns-else-outside : goal.returns-else-outside
returns-else-outside c =
    let b = c.args.s.now in
    let t = c.terminal_count.result in
    let one = λ (i : ℕ). outside (point_from b (32 + 8 * i)) in
    let run = cases_from_any _ _ _ (λ i. one i ≡ true) (λ i. one i ≡ false) c.any.ensures.ran (YieldsList-from_range 0 t t refl (omega arith)) (λ x q k. search rules) (λ x q k. search rules) in
    or_then (c.outside.ensures ∙ ap outside c.source_of.ensures) c.if-outside.false
    (any_is (point_from b) 8 32 outside t _ run ∙ ap (λ (n : ℕ). any_of outside (row (point_from b) 8 32 n)) c.terminal_count.ensures)
