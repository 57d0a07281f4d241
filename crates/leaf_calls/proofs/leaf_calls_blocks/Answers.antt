-- `leaf_calls_blocks`: the call's answer, its shapes brought home.
use Rattle.std.proofs.Common.{◌∙◌}
use Rattle.geometry.specs.Geometry.{blocks}
use Rattle.leaf_calls.proofs.Home.{rectangle_home}
use Rattle.leaf_calls.proofs.leaf_calls_blocks.Goals as goal

pub returns : goal.returns
returns c =
    let f = c.ranges in
    c.blocks-2.ensures
    ∙ (λ i. blocks ((c.rectangle.ensures ∙ rectangle_home f.xl f.xu f.yl f.yu) i) ((c.rectangle-2.ensures ∙ rectangle_home f.xl2 f.xu2 f.yl2 f.yu2) i))
