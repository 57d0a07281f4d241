-- `editing::any_invalid`: the keepouts that are left decide as all of them do.
use Rattle.std.proofs.Common.{◌≡◌, ap, rules, List, ℤ}
use Rattle.tree.specs.Memory.{keepouts_of}
use Rattle.tree.specs.Search.{any_of}
use Rattle.job.specs.Job.{invalid_keepout}
use Rattle.editing.proofs.Chunks.{any_left}
use Rattle.editing.proofs.any_invalid.Goals as goal

pub returns : goal.returns
returns c =
    let all = ap (λ (l : List ℤ). any_of invalid_keepout (keepouts_of l)) c.chunks_exact.ensures.rest in
    any_left invalid_keepout c.args.ks.now _ (λ x q k. search rules) (λ x q k. search rules) c.chunks_exact.result c.any.new.self _ (record { four = c.chunks_exact.ensures.size; is = all }) c.any.ensures.ran
