-- `job::point_from`: kept, though the goal closes alone: of a wrong program the search only reaches a limit.
use Rattle.std.proofs.Common.{◌∙◌}
use Rattle.geometry.specs.Signed.{home}
use Rattle.job.proofs.point_from.Goals as goal

pub returns : goal.returns
returns c =
    λ i.
    record {
      xcoord = (home (record { sfits = c.i32_at.type_inv }) ∙ c.i32_at.ensures) i;
      ycoord = (home (record { sfits = c.i32_at-2.type_inv }) ∙ c.i32_at-2.ensures) i;
    }
