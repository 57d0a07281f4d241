-- `rectangles::gather`: one rectangle more is gathered.
use Rattle.std.proofs.Common.{List, sym, subst}
use Rattle.std.proofs.lemmas.List.{take_more}
use Rattle.geometry.specs.declared.Rectangle.{Rectangle}
use Rattle.rectangles.specs.Rectangles.{Gathers}
use Rattle.rectangles.proofs.gather.Goals as goal

pub loop-k-preserved : goal.loop-k-preserved
loop-k-preserved c = subst (λ (ks : List Rectangle). Gathers ks c.add.new.self) (sym (take_more _ _ _ c.loop-k-test.true)) (c.add.ensures _ c.loop-k.invariant)
