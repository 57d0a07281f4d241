-- `leaf_calls_contains`: the call's answer, its shapes brought home.
use Rattle.std.proofs.Common.{◌∙◌}
use Rattle.geometry.specs.Geometry.{contains}
use Rattle.leaf_calls.proofs.Home.{point-home, rectangle_home}
use Rattle.leaf_calls.proofs.leaf_calls_contains.Goals as goal

pub returns : goal.returns
returns c =
    let f = c.ranges in
    c.contains.ensures
    ∙ (λ i. contains ((c.rectangle.ensures ∙ rectangle_home f.xl f.xu f.yl f.yu) i) ((c.point.ensures ∙ point-home f.px f.py) i))
