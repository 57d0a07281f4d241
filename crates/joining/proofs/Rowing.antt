-- What is read of a node is near and short, so a point on a branch is near, and the sums of path lengths fit.
use Rattle.std.proofs.Common.{ℕ, ◌+◌, ◌≤◌, ◌≡◌, sym, subst, arith, Fits, w32}
use Rattle.geometry.specs.declared.Point.{Point}
use Rattle.geometry.specs.Geometry.{dist}
use Rattle.geometry.specs.Laws.{Within, nearest-within, dist-small}
use Rattle.tree.specs.Limits.{longest_path, reach}
use Rattle.tree.specs.Search.{nearest_on}

pub nearest_near : (a b q n : Point) → n ≡ nearest_on a b q → Within reach a → Within reach b → Within reach n
nearest_near a b q n e f g = subst (Within reach) (sym e) (nearest-within q f g)

pub path_fits : {x d : ℕ} (a b : Point) → d ≡ dist a b → Within reach a → Within reach b → x ≤ longest_path → Fits w32 (x + d)
path_fits a b e f g h = omega (arith, dist-small f g, e, h)

pub paths_fit : {x d d' : ℕ} (a b b' : Point) → d ≡ dist a b → d' ≡ dist b b' → Within reach a → Within reach b → Within reach b' → x ≤ longest_path → Fits w32 (x + d + d')
paths_fit a b b' e e' f g g' h = omega (arith, dist-small f g, dist-small g g', e, e', h)
