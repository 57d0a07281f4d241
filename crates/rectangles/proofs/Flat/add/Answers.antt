-- `rectangles::add`: the four stores are those of `one_more`; without room nothing is added.
use Rattle.std.proofs.Common.{rules, arith, ◌<◌, ◌*◌, [], ◌∷◌, ◌∙◌}
use Rattle.std.proofs.Math.Seq.{sets}
use Rattle.geometry.specs.Signed.{InInterval, home}
use Rattle.rectangles.specs.Rectangles.{room}
use Rattle.rectangles.proofs.Gathering.{stored, one_more}
use Rattle.rectangles.proofs.Flat.add.Goals as goal

pub returns : goal.returns
returns c =
    let few : c.args.self.now.count < room = omega arith in
    let x : InInterval c.args.k.xcoord = search rules in
    let y : InInterval c.args.k.ycoord = search rules in
    one_more c.args.self.now c.args.k few _
    (stored c.args.self.now.bounds (4 * c.args.self.now.count) _ _ _ _
    ∙ (λ i. sets c.args.self.now.bounds (4 * c.args.self.now.count) (home x.lb i ∷ home x.ub i ∷ home y.lb i ∷ home y.ub i ∷ [])))
