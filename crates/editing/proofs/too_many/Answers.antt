-- `too_many`: as many keepouts as there are four numbers for.
use Rattle.std.proofs.Common.{arith}
use Rattle.std.proofs.lemmas.Bool.Decides.{nat_tests}
use Rattle.search.proofs.Keepouts.{keepouts-length}
use Rattle.editing.proofs.too_many.Goals as goal

pub returns : goal.returns
returns c = let h = keepouts-length c.args.ks.now in grind (arith, nat_tests)
