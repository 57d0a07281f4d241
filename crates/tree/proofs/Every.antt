-- What holds of the name, point and path of every node holds after a branch is split, where it holds of those of the new nodes: a joining changes no old
-- node's. (For one more node it is `every_adds` in Adding.)
use Rattle.std.proofs.Common.{◌≡◌, sym, ap, subst, ◌∙◌, List, ℕ, suc, ◌+◌, length}
use Rattle.std.proofs.Math.Decide.{ℕ_discrete}
use Rattle.geometry.specs.declared.Point.{Point}
use Rattle.geometry.specs.Geometry.{dist}
use Rattle.tree.specs.Tree.{Node, terminal, steiner, at, node_at}
use Rattle.tree.specs.Search.{split, branch}
use Rattle.tree.specs.Route.{joined}
use Rattle.tree.specs.Shape.{Linked}
use Rattle.tree.proofs.Measuring.{Core, core, core_tip, core_knot, core_rest}

module _ (P : Core → Type 0) (ns : List Node) (all : (i : ℕ) → P (core (node_at ns i))) where
  module _ (st te : ℕ) (q : Point) (p c : ℕ) (g : Linked ns) (link : (node_at ns c).parent ≡ at p) where
    abbrev N : Point
    N = (branch (node_at ns p) (node_at ns c) q).near

    abbrev run : ℕ
    run = (node_at ns p).path + dist (node_at ns p).point N

    abbrev M : List Node
    M = joined ns st te q (split p c)

    pub every_split : P (record { name = terminal te; point = q; path = run + dist N q }) → P (record { name = steiner st; point = N; path = run }) → (i : ℕ) → P (core (node_at M i))
    every_split new knot i = by (ℕ_discrete i (length ns)) (ℕ_discrete i (suc (length ns)))
      where
        by : Dec (i ≡ length ns) → Dec (i ≡ suc (length ns)) → P (core (node_at M i))
        by (yes e) f = subst P (sym (ap (λ (k : ℕ). core (node_at M k)) e ∙ core_tip ns st te q p c g link)) new
        by (no e) (yes f) = subst P (sym (ap (λ (k : ℕ). core (node_at M k)) f ∙ core_knot ns st te q p c g link)) knot
        by (no e) (no f) = subst P (sym (core_rest ns st te q p c g link i e f)) (all i)
