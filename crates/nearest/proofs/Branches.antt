-- What is alone the nearest in the columns is so in the tree. The idea: L and 2·D of a branch are sums and differences of the columns' numbers.
use Rattle.std.proofs.Common.{ℕ, zero, suc, ◌+◌, ◌*◌, ◌/◌, ◌≤◌, ◌<◌, ◌≡◌, sym, ap, subst, ◌∙◌, true, List, arith, get_or, ℤ, pos}
use lib.Signed.{le_z}
use borrow.Author.Tests.{le-leb, leb-true}
use Rattle.geometry.specs.declared.Point.{Point}
use Rattle.geometry.specs.Geometry.{dist}
use Rattle.geometry.specs.Laws.{via-parent, twice_near}
use Rattle.tree.specs.Tree.{Node, at, node_at}
use Rattle.tree.specs.Search.{Branch, branch}
use Rattle.tree.proofs.Linking.{none-at, child_in, at_inj}
use Rattle.tree.proofs.Nearest as T
use Rattle.search.specs.declared.Query.{Query}
use Rattle.tree.specs.Memory.{point_at}
use Rattle.nearest.specs.Summed.{Summed}
use Rattle.nearest.specs.Ranks.{branch_indices, length_by, twice_by, entry}
use Rattle.nearest.specs.Sole.{SoleIn, rank_in}
use Rattle.nearest.proofs.Ranking.{within_of, twice_of}
use Rattle.nearest.proofs.Standing.{point_is, path_is, parent_of, parent-low}

module _ {n : ℕ} {a : Query} {xs ys : List ℤ} {path parent last prev : List ℕ} (v : Summed n a xs ys path parent last prev) where
  abbrev ns : List Node
  ns = v.ready.nodes

  abbrev B : ℕ → ℕ → Branch
  B x b = branch (node_at ns x) (node_at ns b) a.point

  abbrev to_point : ℕ → ℕ
  to_point i = dist (point_at xs ys i) a.point

  -- what the columns say of the branch that ends at b
  record Measured (x b : ℕ) : Type 0 where
    some : 0 < b
    in_n : b < n
    L : (B x b).L ≡ length_by to_point (entry path) (entry parent) b
    D : 2 * (B x b).D ≡ twice_by to_point (entry path) (entry parent) b

  measured_up : (b : ℕ) → 0 < b → b < n → Measured (get_or parent b 0) b
  measured_up b p h =
      let x = get_or parent b 0 in
      let l = parent-low v b p h in
      let P = (node_at ns x).point in
      let C = (node_at ns b).point in
      let up : (node_at ns b).path ≡ (node_at ns x).path + dist P C = v.sums b x (parent_of v b p h) in
      let ex = ap (λ (y : Point). dist y a.point) (point_is v x l) in
      let eb = ap (λ (y : Point). dist y a.point) (point_is v b h) in
      record {
        some = p;
        in_n = h;
        L = omega (arith, via-parent P C a.point, path_is v x l, ex);
        D = omega (arith, twice_near P C a.point, path_is v x l, path_is v b h, ex, eb, up);
      }

  measured : (x b : ℕ) → (node_at ns b).parent ≡ at x → Measured x b
  measured x b e =
      let h : b < n = omega (arith, v.ready.size, child_in v.linked b x e) in
      let p : 0 < b = positive b e in
      subst (λ (y : ℕ). Measured y b) (at_inj (sym (parent_of v b p h) ∙ e)) (measured_up b p h)
    where
      positive : (i : ℕ) → (node_at ns i).parent ≡ at x → 0 < i
      positive zero e = none-at (sym v.linked.top ∙ e)
      positive (suc i) e = omega arith

  module _ {c : ℕ} (s : SoleIn n a xs ys path parent c) where
    inside : (x b : ℕ) → Measured x b → le_z (pos (B x b).L) a.allowed ≡ true → length_by to_point (entry path) (entry parent) b ≤ s.allowed
    inside x b m e = omega (arith, m.L, leb-true (B x b).L s.allowed (s.reads (B x b).L ∙ e))

    -- within the allowance a rank tells D
    rank_tells : (x b : ℕ) → Measured x b → length_by to_point (entry path) (entry parent) b ≤ s.allowed
        → 2 * (B x b).D ≡ rank_in s.allowed a xs ys path parent b / branch_indices
    rank_tells x b m h = m.D ∙ sym (twice_of to_point (entry path) (entry parent) s.allowed b (omega (arith, m.in_n, v.ready.small)) h)

    pub alone_there : T.Alone ns a.allowed a.point (get_or parent c 0) c
    alone_there =
        let w = s.sole in
        let x = get_or parent c 0 in
        let m = measured_up c w.some w.in_n in
        let h = within_of to_point (entry path) (entry parent) s.allowed c w.within in
        record {
          parent = parent_of v c w.some w.in_n;
          within = sym (s.reads (B x c).L) ∙ le-leb (B x c).L s.allowed (omega (arith, m.L));
          nearer = λ y b e n l.
              let k = measured y b e in
              omega (arith, rank_tells x c m h, rank_tells y b k (inside y b k l), w.nearer b k.some k.in_n n);
        }
