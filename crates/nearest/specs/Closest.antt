-- The closest node, and the rank of a node: its distance, then its index, as one number.
use Rattle.std.specs.Prelude.{ℕ, ◌+◌, ◌*◌, ◌<◌, ◌≡◌, List, length, ℤ}
use Rattle.geometry.specs.declared.Point.{Point}
use Rattle.geometry.specs.Geometry.{dist}
use Rattle.tree.specs.Tree.{Node, node_at}
use Rattle.tree.specs.Route.{closest}
use Rattle.tree.specs.Memory.{point_at}

-- more than any index of a node, and few enough for a rank of 32 bits
abbrev pub node_indices : ℕ
node_indices = 256

-- node i in the order of distance to q, then of index
abbrev pub node_rank : List ℤ → List ℤ → Point → ℕ → ℕ
node_rank xs ys q i = dist (point_at xs ys i) q * node_indices + i

-- n nodes whose points stand in columns
pub record Points (ns : List Node) (n : ℕ) (xs ys : List ℤ) : Type 0 where
  pub size : length ns ≡ n
  pub points : (i : ℕ) → i < n → point_at xs ys i ≡ (node_at ns i).point

-- r is the closest to q of the first i nodes, whatever nodes the points belong to
abbrev pub ClosestOf : ℕ → ℕ → List ℤ → List ℤ → Point → ℕ → Type 0
ClosestOf i n xs ys q r = (ns : List Node) → Points ns n xs ys → r ≡ closest ns q i
