-- The least rank and the next: what the loop finds, and when the least is of a branch that is alone the nearest.
use Rattle.std.specs.Prelude.{ℕ, ◌/◌, ◌%◌, ◌≤◌, ◌<◌, ◌≡◌, ◌≢◌, Option, Some, None, List, leb, ℤ, pos}
use Rattle.std.specs.Int.Signed.{le_z}
use Rattle.geometry.specs.declared.Point.{Point}
use Rattle.geometry.specs.Geometry.{dist}
use Rattle.tree.specs.Search.{nearest_on}
use Rattle.tree.specs.declared.NodeIndex.{NodeIndex}
use Rattle.search.specs.declared.Join.{Join}
use Rattle.search.specs.declared.Query.{Query}
use Rattle.search.specs.Branch.{join_at}
use Rattle.tree.specs.Memory.{point_at}
use Rattle.search.specs.Walk.{view_at}
use Rattle.nearest.specs.declared.Least.{Least}
use Rattle.nearest.specs.Ranks.{branch_indices, beyond, no_rank, branch_rank, entry}

-- of the ranks r 1 .. r (n - 1), the least (no_rank where there is none), and a second that no other is below
pub record TwoLeast (r : ℕ → ℕ) (n : ℕ) (l : Least) : Type 0 where
  pub least : (c : ℕ) → 0 < c → c < n → l.first ≤ r c
  pub some : l.first < no_rank → (c : ℕ) × (0 < c) × (c < n) × (l.first ≡ r c)
  pub second : (c : ℕ) → 0 < c → c < n → r c ≢ l.first → l.second ≤ r c

-- the branch that ends at c is within the allowance, and every other is farther or beyond
pub record Sole (r : ℕ → ℕ) (n c : ℕ) : Type 0 where
  pub some : 0 < c
  pub in_n : c < n
  pub within : r c < beyond
  pub nearer : (b : ℕ) → 0 < b → b < n → b ≢ c → r c / branch_indices < r b / branch_indices

-- an answer that is sure: the least is within the allowance, and the next has a greater D
abbrev pub Told : Least → Option NodeIndex → Type 0
Told l (Some c) = (l.first < beyond) × (l.first / branch_indices < l.second / branch_indices) × (c.0 ≡ l.first % branch_indices)
Told l None = Unit {0}

-- the ranks of the branches of a tree in columns
abbrev pub rank_in : ℕ → Query → List ℤ → List ℤ → List ℕ → List ℕ → ℕ → ℕ
rank_in allowed a xs ys path parent = branch_rank (λ i. dist (point_at xs ys i) a.point) (entry path) (entry parent) allowed

-- the branch to c is alone the nearest in the columns; the allowance is not negative, and stands as a number
pub record SoleIn (n : ℕ) (a : Query) (xs ys : List ℤ) (path parent : List ℕ) (c : ℕ) : Type 0 where
  pub allowed : ℕ
  pub reads : (l : ℕ) → leb l allowed ≡ le_z (pos l) a.allowed
  pub sole : Sole (rank_in allowed a xs ys path parent) n c

-- an answer that is sure is right
abbrev pub Right : ℕ → Query → List ℤ → List ℤ → List ℕ → List ℕ → Option NodeIndex → Type 0
Right n a xs ys path parent (Some c) = SoleIn n a xs ys path parent c.0
Right n a xs ys path parent None = Unit {0}

-- where q joins on the branch from p to c
abbrev pub join_on : Point → List ℤ → List ℤ → List ℕ → ℕ → ℕ → Join
join_on q xs ys path p c = join_at (nearest_on (point_at xs ys p) (point_at xs ys c) q) (view_at xs ys path p) (view_at xs ys path c)
