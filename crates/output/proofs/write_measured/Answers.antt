-- `output::write_measured`: measured, then refused or written.
use Rattle.std.proofs.Common.{refl}
use Rattle.output.proofs.Answering.{refused, written}
use Rattle.output.proofs.write_measured.Goals as goal

pub returns-then-out-m : goal.returns-then-out-m
returns-then-out-m g c xs w =
    refused (w.measures _ _ (record { shown = _; shows = refl; left = _; met = c.put-m.ensures; leaves = refl })) _ c.requires.few c.if-out-m.true

pub returns : goal.returns
returns g c xs w =
    written (w.measures _ _ (record { shown = _; shows = refl; left = _; met = c.put-m.ensures; leaves = refl })) _ c.requires.few c.if-out-m.false
    (w.writes _ _ (record { shown = _; shows = refl; left = _; met = c.put.ensures; leaves = refl }))
