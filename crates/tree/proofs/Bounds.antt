-- What is kept as a tree grows by the search: path lengths are sums from the source at s, and each terminal's path is under its ceiling. Demand 3's
-- own words stand in route/specs/Demand3.antt; these records are what is carried from one joining to the next.
use Rattle.std.proofs.Common.{◌≡◌, List, ℕ, ◌≤◌, ◌<◌, length, ℤ, pos}
use lib.Signed.{◌≤ℤ◌}
use Rattle.geometry.specs.declared.Point.{Point}
use Rattle.geometry.specs.Geometry.{dist}
use Rattle.tree.specs.Tree.{Node, terminal, node_at}
use Rattle.tree.specs.Shape.{PathSums, name_of}

pub record Measured (s : Point) (ns : List Node) : Type 0 where
  pub source-point : (node_at ns 0).point ≡ s
  pub source-path : (node_at ns 0).path ≡ 0
  pub paths : PathSums ns

-- a terminal at distance d from the source, and its path of length l: where d is within the allowance, l is too; where it is not, l is at most w
pub record Ceiling (allowed : ℤ) (w d l : ℕ) : Type 0 where
  pub inside : pos d ≤ℤ allowed → pos l ≤ℤ allowed
  pub outside : (pos d ≤ℤ allowed → ⊥) → l ≤ w

abbrev pub Bounded : Point → ℤ → ℕ → List Node → Type 0
Bounded s allowed w ns = (i k : ℕ) → i < length ns → name_of ns i ≡ terminal k → Ceiling allowed w (dist s (node_at ns i).point) (node_at ns i).path
