-- What every accepted job has. `proofs/Accepted.antt` shows it: `read_job b ≡ accepted j → Accepted j`.
use Rattle.std.specs.Prelude.{◌≡◌, false, ◌≤◌, length}
use mathlib.Core.List.{Memᴰ}
use Rattle.geometry.specs.declared.Point.{Point}
use Rattle.geometry.specs.declared.Rectangle.{Rectangle}
use Rattle.geometry.specs.Geometry.{invalid}
use Rattle.geometry.specs.Laws.{Within}
use Rattle.tree.specs.Limits.{reach, most_terminals, most_keepouts}
use Rattle.job.specs.Job.{Job}

-- neither interval of a keepout has its lower bound above its upper one
pub record Valid (k : Rectangle) : Type 0 where
  pub xcoord : invalid k.xcoord ≡ false
  pub ycoord : invalid k.ycoord ≡ false

pub record Accepted (j : Job) : Type 0 where
  pub few-terminals : length j.terminals ≤ most_terminals
  pub few-keepouts : length j.keepouts ≤ most_keepouts
  pub source : Within reach j.source
  pub terminals : {p : Point} → Memᴰ p j.terminals → Within reach p
  pub keepouts : {k : Rectangle} → Memᴰ k j.keepouts → Valid k
