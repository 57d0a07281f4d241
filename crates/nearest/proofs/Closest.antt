-- The loop over the nodes that keeps the closest: its start, a turn, its end. It keeps the least rank, a distance and an index in one number: of two nodes the
-- later has the lesser rank just where it is closer. And what a caller has to show, and is told, where a tree's nodes stand in columns.
use Rattle.std.proofs.Common.{ℕ, ◌+◌, ◌%◌, ◌≤◌, ◌<◌, min, ◌≡◌, refl, ap, sym, subst, ◌∙◌, Bool, true, false, cond, List, arith, add-one, ltb, ℤ, length}
use Rattle.std.proofs.Math.Decide.{dec_lt}
use borrow.Author.Tests.{lt-ltb, le-ltb}
use Rattle.geometry.specs.declared.Point.{Point}
use Rattle.geometry.specs.Geometry.{dist}
use Rattle.geometry.specs.Laws.{Within}
use Rattle.tree.specs.Limits.{most_nodes, reach}
use Rattle.tree.specs.Tree.{Node, Tree, node_at}
use Rattle.tree.specs.Route.{closest}
use Rattle.tree.specs.WellFormed.{WellFormed}
use Rattle.tree.specs.Memory.{point_at}
use Rattle.joining.specs.Store.{Columns, SizedRows, Keeps}
use Rattle.nearest.specs.Closest.{node_indices, node_rank, Points, ClosestOf}
use Rattle.nearest.specs.Columns.{NearPoints}

-- `node` is the closest of the first i nodes, and `best` its rank
pub record Ranked (n : ℕ) (xs ys : List ℤ) (q : Point) (best i : ℕ) : Type 0 where
  pub node : ℕ
  pub low : i ≤ n
  pub before : node < i
  pub is : best ≡ node_rank xs ys q node
  pub nearest : ClosestOf i n xs ys q node

module _ (n : ℕ) (xs ys : List ℤ) (q : Point) where
  abbrev far : ℕ → ℕ
  far i = dist (point_at xs ys i) q

  pub starts : 0 < n → {r : ℕ} → r ≡ node_rank xs ys q 0 → Ranked n xs ys q r 1
  unfolding closest
  starts h e = record { node = 0; low = omega arith; before = omega arith; is = e; nearest = λ ns p. by (ltb (dist (node_at ns 0).point q) (dist (node_at ns 0).point q)) }
    where
      by : (t : Bool) → ◌≡◌ {A = ℕ} 0 (cond t 0 0)
      by true = refl
      by false = refl

  module _ {best i : ℕ} (v : Ranked n xs ys q best i) where
    -- the definition's turn, with the columns' points
    next : i < n → (ns : List Node) → Points ns n xs ys → closest ns q (i + 1) ≡ cond (ltb (far i) (far v.node)) i v.node
    unfolding closest
    next more ns p =
        let found : closest ns q i ≡ v.node = sym (v.nearest ns p) in
        let new : dist (node_at ns i).point q ≡ far i = ap (λ (x : Point). dist x q) (sym (p.points i more)) in
        let old : dist (node_at ns (closest ns q i)).point q ≡ far v.node
        = ap (λ (j : ℕ). dist (node_at ns j).point q) found ∙ ap (λ (x : Point). dist x q) (sym (p.points v.node (omega (arith, v.before)))) in
        ap (closest ns q) (add-one i) ∙ (λ j. cond (ltb (new j) (old j)) i (found j))

    -- a strict test keeps the lowest index on ties
    pub turn : n ≤ most_nodes → i < n → {r best' : ℕ} → r ≡ node_rank xs ys q i → best' ≡ min best r → Ranked n xs ys q best' (i + 1)
    turn few more {r} {best'} er eb = by (dec_lt (far i) (far v.node))
      where
        by : Dec (far i < far v.node) → Ranked n xs ys q best' (i + 1)
        by (yes h) =
            record {
              node = i;
              low = omega arith;
              before = omega arith;
              is = omega (arith, v.is, v.before, er, eb);
              nearest = λ ns p. sym (next more ns p ∙ ap (λ (t : Bool). cond t i v.node) (lt-ltb (far i) (far v.node) h));
            }
        by (no h) =
            record {
              node = v.node;
              low = omega arith;
              before = omega (arith, v.before);
              is = omega (arith, v.is, v.before, er, eb);
              nearest = λ ns p. sym (next more ns p ∙ ap (λ (t : Bool). cond t i v.node) (le-ltb (far i) (far v.node) (omega arith)));
            }

    pub ends : n ≤ most_nodes → n ≤ i → {r : ℕ} → r ≡ best % node_indices → ClosestOf n n xs ys q r
    ends few h {r} e ns p =
        let d : r ≡ v.node = omega (arith, v.is, v.low, v.before, e) in
        d ∙ v.nearest ns p ∙ ap (closest ns q) (omega (arith, v.low))

-- ---- for a caller whose columns keep a tree's nodes
module _ {ns : List Node} {n : ℕ} (size : length ns ≡ n) {c : Columns} (keeps : Keeps ns c) where
  points : Points ns n c.rows.xs c.rows.ys
  points = record { size = size; points = λ i h. sym (ap (λ (x : Node). x.point) (keeps.rows i (omega arith))) }

  pub closest_is : (q : Point) {p : ℕ} → ClosestOf n n c.rows.xs c.rows.ys q p → p ≡ closest ns q (length ns)
  closest_is q e = e ns points ∙ ap (closest ns q) (sym size)

pub near-points : {t : Tree} → WellFormed t → {n : ℕ} → length t.nodes ≡ n → {c : Columns} → Keeps t.nodes c → {m : ℕ} → SizedRows m c.rows → n ≤ m → n ≤ most_nodes
    → {q : Point} → Within reach q → NearPoints n q c.rows.xs c.rows.ys
near-points f size keeps s room few w =
    record {
      some = omega (arith, f.linked.some);
      few = few;
      each = λ i h.
          record {
            in_xs = omega (arith, s.xs);
            in_ys = omega (arith, s.ys);
            near = subst (Within reach) (sym ((points size keeps).points i h)) (f.near i);
            within = w;
          };
    }
