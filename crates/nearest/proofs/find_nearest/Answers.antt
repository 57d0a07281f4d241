-- `nearest::find_nearest`: the distances, the two least ranks with them, and what these tell.
use Rattle.std.proofs.Common.{ap, ◌∙◌, leb, rules}
use Rattle.geometry.specs.Signed.{In32}
use Rattle.search.proofs.Judging.{allowed-yes}
use Rattle.nearest.proofs.Standing.{rankable}
use Rattle.nearest.proofs.Telling.{right}
use Rattle.nearest.proofs.find_nearest.Goals as goal

pub two_least-requires : goal.two_least-requires
two_least-requires c = rankable c.requires c.put_distances.ensures

pub returns : goal.returns
returns c =
    let f : In32 c.args.query.allowed = search rules in
    right c.args.query c.requires c.put_distances.ensures _ (λ l. ap (leb l) c.unsigned_abs.ensures.value ∙ allowed-yes _ f c.if-query-lt0.false l) c.two_least.ensures c.alone.result c.alone.ensures
