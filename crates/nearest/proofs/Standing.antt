-- Columns that keep a tree whose path lengths are sums are what the loops ask for: every node but the source has a parent, and every branch a rank.
use Rattle.std.proofs.Common.{ℕ, ◌+◌, ◌≤◌, ◌<◌, ◌≡◌, sym, ◌∙◌, Bool, true, false, cond, List, arith, length, get_or, eqb, ℤ}
use Rattle.geometry.specs.declared.Point.{Point}
use Rattle.geometry.specs.Geometry.{dist}
use Rattle.geometry.specs.Laws.{dist-small, dist-sym, triangle}
use Rattle.tree.specs.Limits.{across, no_node}
use Rattle.tree.specs.Tree.{Node, none, at, node_at}
use Rattle.tree.proofs.Linking.{parent_in_lem}
use Rattle.search.specs.declared.Query.{Query}
use Rattle.tree.specs.Memory.{point_at}
use Rattle.search.proofs.TreeWalk.{ready_sound}
use Rattle.joining.specs.Store.{parent_from}
use Rattle.nearest.specs.Summed.{Summed}
use Rattle.nearest.specs.Ranks.{AllRankable}
use Rattle.nearest.specs.Columns.{Distances, SummedColumns}

module _ {n : ℕ} {a : Query} {xs ys : List ℤ} {path parent last prev : List ℕ} (v : Summed n a xs ys path parent last prev) where
  abbrev ns : List Node
  ns = v.ready.nodes

  pub here : (i : ℕ) → i < n → i < length ns
  here i h = omega (arith, v.ready.size)

  pub point_is : (i : ℕ) → i < n → point_at xs ys i ≡ (node_at ns i).point
  point_is i h = v.ready.kept.points i (here i h)

  pub path_is : (i : ℕ) → i < n → get_or path i 0 ≡ (node_at ns i).path
  path_is i h = v.ready.kept.paths i (here i h)

  pub parent_of : (c : ℕ) → 0 < c → c < n → (node_at ns c).parent ≡ at (get_or parent c 0)
  unfolding parent_from
  parent_of c p h = by (eqb (get_or parent c 0) no_node) (v.parents c (here c h))
    where
      by : (t : Bool) → (node_at ns c).parent ≡ cond t none (at (get_or parent c 0)) → (node_at ns c).parent ≡ at (get_or parent c 0)
      by true e = absurd (omega (arith, v.linked.others c (here c h) e))
      by false e = e

  pub parent-low : (c : ℕ) → 0 < c → c < n → get_or parent c 0 < n
  parent-low c p h = omega (arith, v.ready.size, parent_in_lem v.linked c _ (parent_of c p h))

  sums : (c : ℕ) → 0 < c → c < n → get_or path c 0 ≡ get_or path (get_or parent c 0) 0 + dist (point_at xs ys (get_or parent c 0)) (point_at xs ys c)
  sums c p h =
      let l = parent-low c p h in
      path_is c h ∙ v.sums c _ (parent_of c p h) ∙ (λ i. sym (path_is _ l) i + dist (sym (point_is _ l) i) (sym (point_is c h) i))

  pub summed_columns : SummedColumns n a.point xs ys path parent
  summed_columns =
      let k = ready_sound v.ready in
      record {
        points =
            record {
              some = omega (arith, v.ready.size, v.linked.some);
              few = v.ready.small;
              each = λ i h. record { in_xs = omega (arith, k.in_prev, k.in_xs); in_ys = omega (arith, k.in_prev, k.in_ys); near = k.near i h; within = k.within };
            };
        in_path = omega (arith, k.in_prev, k.in_path);
        in_parent = v.in_parent;
        long = k.long;
        up = parent-low;
        sums = sums;
      }

-- ---- with the distances to the point
module _ {n : ℕ} {q : Point} {xs ys : List ℤ} {path parent e : List ℕ} (v : SummedColumns n q xs ys path parent) (d : Distances n q xs ys e) where
  near : (i : ℕ) → i < n → get_or e i 0 ≤ across
  near i h = let p = v.points.each i h in omega (arith, d.each i h, dist-small p.near p.within)

  short : (c : ℕ) → 0 < c → c < n → get_or path c 0 ≤ get_or path (get_or parent c 0) 0 + get_or e (get_or parent c 0) 0 + get_or e c 0
  short c p h =
      let P = point_at xs ys (get_or parent c 0) in
      let C = point_at xs ys c in
      omega (arith, v.sums c p h, d.each c h, d.each (get_or parent c 0) (v.up c p h), triangle P q C, dist-sym C q)

  pub rankable : AllRankable n e path parent
  rankable c p h =
      let l = v.up c p h in
      record {
        few = omega (arith, v.points.few);
        in_e = omega (arith, d.in_e);
        in_path = omega (arith, v.in_path);
        in_parent = omega (arith, v.in_parent);
        up_e = omega (arith, d.in_e);
        up-path = omega (arith, v.in_path);
        near = near c h;
        up-near = near _ l;
        up-long = v.long _ l;
        short = short c p h;
      }
