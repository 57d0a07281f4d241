-- The total after a joining: what is added is the distance to the node that is joined, or to the point of the branch. Edges are compared one by one, and
-- all but those of the new nodes and of the branch end stay.
use Rattle.std.proofs.Common.{◌≡◌, refl, ap, ap₂, ◌∙◌, ◌≢◌, ⊎_elim, List, [], ℕ, zero, suc, ◌+◌, ◌<◌, arith, length}
use Rattle.std.proofs.Math.Decide.{dec_lt}
use Rattle.geometry.specs.declared.Point.{Point}
use Rattle.geometry.specs.Geometry.{dist}
use Rattle.tree.specs.Tree.{Node, Parent, none, at, node_at, sum_to, edge, to_parent, total}
use Rattle.tree.specs.Search.{split, branch}
use Rattle.tree.specs.Route.{attach, joined}
use Rattle.tree.specs.Shape.{Linked}
use Rattle.geometry.specs.Laws.{on_edge}
use Rattle.tree.proofs.Nodes.{length-attach, length-split}
use Rattle.tree.proofs.Linking.{child_in, parent_in_lem, not_own, parent-attach, Over, over_c, over_t, over_s, over_old, parent-split}
use Rattle.tree.proofs.Measuring.{Core, core_new, core_old, core_tip, core_knot, core_rest}

sum_same : (n : ℕ) (f g : ℕ → ℕ) → ((j : ℕ) → j < n → f j ≡ g j) → sum_to n f ≡ sum_to n g
unfolding sum_to
sum_same zero f g h = refl
sum_same (suc n) f g h = omega (arith, sum_same n f g (λ j l. h j (omega arith)), h n (omega arith))

-- one term smaller by d
sum_one : (n c d : ℕ) (f g : ℕ → ℕ) → c < n → ((j : ℕ) → j < n → j ≢ c → f j ≡ g j) → f c + d ≡ g c → sum_to n f + d ≡ sum_to n g
unfolding sum_to
sum_one zero c d f g l h e = absurd (omega arith)
sum_one (suc n) c d f g l h e = by (dec_lt c n) (λ k. sum_one n c d f g k (λ j r. h j (omega arith)) e)
  where
    by : Dec (c < n) → (c < n → sum_to n f + d ≡ sum_to n g) → sum_to n f + f n + d ≡ sum_to n g + g n
    by (yes k) ih = omega (arith, ih k, h n (omega arith) (omega arith))
    by (no k) ih =
        let z : c ≡ n = omega arith in
        omega (arith, sum_same n f g (λ j r. h j (omega arith) (omega arith)), ap f z, ap g z)

edge-keeps : (ns ms : List Node) (j : ℕ) → (node_at ms j).parent ≡ (node_at ns j).parent → (node_at ms j).point ≡ (node_at ns j).point
    → ((x : ℕ) → (node_at ns j).parent ≡ at x → (node_at ms x).point ≡ (node_at ns x).point) → edge ms j ≡ edge ns j
edge-keeps ns ms j e f k = ap₂ (to_parent ms) f e ∙ by (node_at ns j).parent refl
  where
    by : (x : Parent) → (node_at ns j).parent ≡ x → to_parent ms (node_at ns j).point x ≡ to_parent ns (node_at ns j).point x
    by none d = refl
    by (at x) d = ap (λ (z : Point). dist z (node_at ns j).point) (k x d)

edge_at : (ns : List Node) (j x : ℕ) (Q P : Point) → (node_at ns j).parent ≡ at x → (node_at ns j).point ≡ Q → (node_at ns x).point ≡ P → edge ns j ≡ dist P Q
edge_at ns j x Q P e f h = ap₂ (to_parent ns) f e ∙ ap (λ (z : Point). dist z Q) h

module _ (ns : List Node) (p : ℕ) (n : Node) (h : p < length ns) (g : Linked ns) (up : n.parent ≡ at p) (leaf : n.children ≡ []) where
  pt_old : (j : ℕ) → j ≢ length ns → (node_at (attach ns p n) j).point ≡ (node_at ns j).point
  pt_old j d = ap (λ (x : Core). x.point) (core_old ns p n h j d)

  edge-attach : (j : ℕ) → j < length ns → edge (attach ns p n) j ≡ edge ns j
  edge-attach j l =
      ⊎_elim (λ r. absurd (omega (arith, r.0)))
      (λ r. edge-keeps ns (attach ns p n) j r.1 (pt_old j r.0) (λ x e. pt_old x (omega (arith, parent_in_lem g j x e))))
      (parent-attach ns p n h g up leaf j)

  edge_new : edge (attach ns p n) (length ns) ≡ dist (node_at ns p).point n.point
  edge_new =
      ⊎_elim
      (λ r. edge_at (attach ns p n) (length ns) p n.point _ r.1 (ap (λ (x : Core). x.point) (core_new ns p n h)) (pt_old p (omega arith)))
      (λ r. absurd (r.0 refl))
      (parent-attach ns p n h g up leaf (length ns))

  pub total-attach : total (attach ns p n) ≡ total ns + dist (node_at ns p).point n.point
  unfolding sum_to
  total-attach =
      ap (λ (k : ℕ). sum_to k (edge (attach ns p n))) (length-attach ns p n h)
      ∙ omega (arith, sum_same (length ns) (edge (attach ns p n)) (edge ns) edge-attach, edge_new)

module _ (ns : List Node) (st te : ℕ) (q : Point) (p c : ℕ) (g : Linked ns) (link : (node_at ns c).parent ≡ at p) where
  abbrev SP : List Node
  SP = joined ns st te q (split p c)

  abbrev near : Point
  near = (branch (node_at ns p) (node_at ns c) q).near

  pt-rest : (j : ℕ) → j < length ns → (node_at SP j).point ≡ (node_at ns j).point
  pt-rest j l = ap (λ (x : Core). x.point) (core_rest ns st te q p c g link j (omega arith) (omega arith))

  pt_knot : (node_at SP (suc (length ns))).point ≡ near
  pt_knot = ap (λ (x : Core). x.point) (core_knot ns st te q p c g link)

  edge-rest : (j : ℕ) → j < length ns → j ≢ c → edge SP j ≡ edge ns j
  edge-rest j l d = by (parent-split ns st te q p c g link j)
    where
      by : Over ns st te q p c g link j → edge SP j ≡ edge ns j
      by (over_c f r) = absurd (d f)
      by (over_t f r) = absurd (omega arith)
      by (over_s f r) = absurd (omega arith)
      by (over_old f f' f'' r) = edge-keeps ns SP j r (pt-rest j l) (λ x e. pt-rest x (parent_in_lem g j x e))

  edge_end : edge SP c ≡ dist near (node_at ns c).point
  edge_end = by (parent-split ns st te q p c g link c)
    where
      by : Over ns st te q p c g link c → edge SP c ≡ dist near (node_at ns c).point
      by (over_c f r) = edge_at SP c _ _ _ r (pt-rest c (child_in g c p link)) pt_knot
      by (over_t f r) = absurd (omega (arith, child_in g c p link))
      by (over_s f r) = absurd (omega (arith, child_in g c p link))
      by (over_old f f' f'' r) = absurd (f refl)

  edge_tip : edge SP (length ns) ≡ dist near q
  edge_tip = by (parent-split ns st te q p c g link (length ns))
    where
      by : Over ns st te q p c g link (length ns) → edge SP (length ns) ≡ dist near q
      by (over_c f r) = absurd (omega (arith, child_in g c p link))
      by (over_t f r) = edge_at SP _ _ _ _ r (ap (λ (x : Core). x.point) (core_tip ns st te q p c g link)) pt_knot
      by (over_s f r) = absurd (omega arith)
      by (over_old f f' f'' r) = absurd (f' refl)

  edge_knot : edge SP (suc (length ns)) ≡ dist (node_at ns p).point near
  edge_knot = by (parent-split ns st te q p c g link (suc (length ns)))
    where
      by : Over ns st te q p c g link (suc (length ns)) → edge SP (suc (length ns)) ≡ dist (node_at ns p).point near
      by (over_c f r) = absurd (omega (arith, child_in g c p link))
      by (over_t f r) = absurd (omega arith)
      by (over_s f r) = edge_at SP _ p _ _ r pt_knot (pt-rest p (parent_in_lem g c p link))
      by (over_old f f' f'' r) = absurd (f'' refl)

  pub total-split : total SP ≡ total ns + dist near q
  unfolding sum_to
  total-split =
      ap (λ (n : ℕ). sum_to n (edge SP)) (length-split ns st te q p c (parent_in_lem g c p link) (child_in g c p link) (not_own g c p link))
      ∙ omega (
        arith,
        edge_tip,
        edge_knot,
        sum_one (length ns) c (dist (node_at ns p).point near) (edge SP) (edge ns) (child_in g c p link) edge-rest
            (omega (arith, edge_end, edge_at ns c p _ _ link refl refl, on_edge (node_at ns p).point (node_at ns c).point q)),
      )
