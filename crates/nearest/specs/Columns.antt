-- Points near the one that is asked about; the column of their distances; and a tree whose path lengths are sums, as it stands in columns.
use Rattle.std.specs.Prelude.{ℕ, ◌+◌, ◌≤◌, ◌<◌, ◌≡◌, List, length, get_or, ℤ}
use Rattle.geometry.specs.declared.Point.{Point}
use Rattle.geometry.specs.Geometry.{dist}
use Rattle.geometry.specs.Laws.{Within}
use Rattle.tree.specs.Limits.{reach, longest_path, most_nodes}
use Rattle.tree.specs.Memory.{point_at}

-- the i-th point and q are within the limit
pub record NearAt (q : Point) (xs ys : List ℤ) (i : ℕ) : Type 0 where
  pub in_xs : i < length xs
  pub in_ys : i < length ys
  pub near : Within reach (point_at xs ys i)
  pub within : Within reach q

-- n points, one at least and no more than a tree's, and q are within the limit
pub record NearPoints (n : ℕ) (q : Point) (xs ys : List ℤ) : Type 0 where
  pub some : 0 < n
  pub few : n ≤ most_nodes
  pub each : (i : ℕ) → i < n → NearAt q xs ys i

-- the first n numbers of e are the distances from the points to q
pub record Distances (n : ℕ) (q : Point) (xs ys : List ℤ) (e : List ℕ) : Type 0 where
  pub in_e : n ≤ length e
  pub each : (i : ℕ) → i < n → get_or e i 0 ≡ dist (point_at xs ys i) q

-- each node but the first has a parent, and its path length is the parent's plus d
pub record SummedColumns (n : ℕ) (q : Point) (xs ys : List ℤ) (path parent : List ℕ) : Type 0 where
  pub points : NearPoints n q xs ys
  pub in_path : n ≤ length path
  pub in_parent : n ≤ length parent
  pub long : (i : ℕ) → i < n → get_or path i 0 ≤ longest_path
  pub up : (c : ℕ) → 0 < c → c < n → get_or parent c 0 < n
  pub sums : (c : ℕ) → 0 < c → c < n → get_or path c 0 ≡ get_or path (get_or parent c 0) 0 + dist (point_at xs ys (get_or parent c 0)) (point_at xs ys c)
