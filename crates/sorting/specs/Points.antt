-- Points in two columns, and what sorting does to them.
use Rattle.std.specs.Prelude.{ℕ, ◌<◌, ◌≡◌, List, length, ℤ}
use Rattle.geometry.specs.declared.Point.{Point}
use Rattle.geometry.specs.Laws.{Within}
use Rattle.tree.specs.Limits.{reach}
use Rattle.tree.specs.Memory.{point_at, points_of}
use Rattle.tree.specs.Route.{sort}

pub record Even (px py : List ℤ) : Type 0 where
  pub both : length py ≡ length px
  pub near : (k : ℕ) → k < length px → Within reach (point_at px py k)

pub record Sorted (px py : List ℤ) (s : Point) (px' py' : List ℤ) : Type 0 where
  pub is : points_of px' py' ≡ sort s (points_of px py)
  pub even : Even px' py'
  pub size : length px' ≡ length px
