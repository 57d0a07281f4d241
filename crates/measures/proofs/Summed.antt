-- The total: the distance from a node to its parent, and the loop that sums it.
use Rattle.std.proofs.Common.{ℕ, ◌+◌, ◌*◌, ◌≤◌, ◌<◌, ◌≡◌, refl, ap, sym, ◌∙◌, List, add-one, arith, length, get_or, None, Some}
use Rattle.geometry.specs.declared.Point.{Point}
use Rattle.geometry.specs.Geometry.{dist}
use Rattle.geometry.specs.Laws.{Within, dist-small}
use Rattle.tree.specs.Limits.{across, reach}
use Rattle.tree.specs.Tree.{Node, node_at, sum_to, to_parent, edge, total}
use Rattle.tree.specs.Memory.{point_at}
use Rattle.tree.specs.declared.NodeIndex.{NodeIndex}
use Rattle.joining.specs.Store.{Columns, index_from}
use Rattle.measures.proofs.Reading.{Read, parent_is, parent_low, point_read, near_read}

pub near_by : {p q : Point} {d : ℕ} → Within reach p → Within reach q → d ≡ dist p q → d ≤ across
near_by {p} {q} {d} a b e = omega (arith, dist-small {M = reach} a b)

module _ {ns : List Node} {c : Columns} {n : ℕ} (v : Read ns c n) (i : ℕ) (h : i < n) where
  pub edge_none : None ≡ index_from (get_or c.rows.parent i 0) → 0 ≡ edge ns i
  edge_none e = sym (ap (to_parent ns (node_at ns i).point) (parent_is v i h e))

  -- from i to its parent q, which is read at k
  module _ {q : NodeIndex} (e : Some q ≡ index_from (get_or c.rows.parent i 0)) {k : ℕ} (ek : k ≡ q.0) where
    pub parent_near : {a : Point} → a ≡ point_at c.rows.xs c.rows.ys k → Within reach a
    parent_near ea = near_read v q.0 (parent_low v i h e refl) k ek ea

    pub edge-some : {a b : Point} {d : ℕ} → a ≡ point_at c.rows.xs c.rows.ys k → b ≡ point_at c.rows.xs c.rows.ys i → d ≡ dist a b → (d ≡ edge ns i) × (d ≤ across)
    edge-some ea eb ed = (
      ed
          ∙ (λ j. dist (point_read v q.0 (parent_low v i h e refl) k ek ea j) (point_read v i h i refl eb j))
          ∙ sym (ap (to_parent ns (node_at ns i).point) (parent_is v i h e)),
      near_by (parent_near ea) (near_read v i h i refl eb) ed,
    )

pub record Summed (ns : List Node) (n i sum : ℕ) : Type 0 where
  pub low : i ≤ n
  pub is : sum ≡ sum_to i (edge ns)
  pub small : sum ≤ across * i

module _ (ns : List Node) (n : ℕ) where
  pub sum-none : Summed ns n 0 0
  unfolding sum_to
  sum-none = record { low = omega arith; is = refl; small = omega arith }

  pub sum_more : {i sum d : ℕ} → Summed ns n i sum → i < n → d ≡ edge ns i → d ≤ across → Summed ns n (i + 1) (sum + d)
  unfolding sum_to
  sum_more {i} {sum} {d} v h e s = record { low = omega arith; is = rw (add-one i) (omega (arith, v.is)); small = omega (arith, v.small) }

  pub sum-all : {i sum : ℕ} → Summed ns n i sum → length ns ≡ n → n ≤ i → (sum ≡ total ns) × (sum ≤ across * n)
  sum-all {i} {sum} v e h = (v.is ∙ ap (λ (k : ℕ). sum_to k (edge ns)) (omega (arith, v.low)), omega (arith, v.small, v.low))
