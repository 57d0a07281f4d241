-- Coordinates stay within the limit: a new point is given within it, and a Steiner node lies in the box of two points that are.
use Rattle.std.proofs.Common.{List, ℕ}
use Rattle.geometry.specs.declared.Point.{Point}
use Rattle.tree.specs.Tree.{Node, node_at}
use Rattle.tree.specs.Search.{Join, onto, split}
use Rattle.tree.specs.Route.{joined}
use Rattle.tree.specs.Shape.{Linked}
use Rattle.geometry.specs.Laws.{Within, nearest-within}
use Rattle.tree.specs.WellFormed.{Fits}
use Rattle.tree.proofs.Measuring.{Core}
use Rattle.tree.proofs.Adding.{adds_attach, every_adds}
use Rattle.tree.proofs.Every.{every_split}
use Rattle.tree.proofs.Routing.{tip}

abbrev pub Spread : ℕ → List Node → Type 0
Spread M ns = (i : ℕ) → Within M (node_at ns i).point

module _ (M : ℕ) (s : Point) (ns : List Node) (st te : ℕ) (q : Point) (g : Linked ns) (all : Spread M ns) (new : Within M q) where
  abbrev In : Core → Type 0
  In x = Within M x.point

  pub spread_joined : (j : Join) → Fits ns j → Spread M (joined ns st te q j)
  unfolding joined
  spread_joined (onto p) h = every_adds (adds_attach ns p (tip s ns st te q g p) h) In all new
  spread_joined (split p c) h = every_split In ns all st te q p c g h new (nearest-within q (all p) (all c))
