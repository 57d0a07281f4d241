-- The place on a branch that is alone the nearest is where the search joins. The idea: without keepouts no branch is skipped; and any two trees that the columns
-- keep have the same answer, so that it is enough to know one of them.
use Rattle.std.proofs.Common.{ℕ, ◌+◌, ◌<◌, ◌≡◌, refl, sym, ap, subst, ◌∙◌, false, List, arith, length, get_or, ℤ, Option, Some}
use Rattle.geometry.specs.declared.Point.{Point}
use Rattle.tree.specs.declared.NodeIndex.{NodeIndex}
use Rattle.tree.specs.Tree.{Node, node_at}
use Rattle.tree.specs.Search as T
use Rattle.tree.proofs.Nearest.{alone_found}
use Rattle.tree.proofs.Looking.{looks_every}
use Rattle.search.specs.declared.Join.{Join}
use Rattle.search.specs.declared.Found.{Found}
use Rattle.search.specs.declared.Query.{Query}
use Rattle.search.specs.declared.NodeView.{NodeView}
use Rattle.tree.specs.Memory.{keepouts_of}
use Rattle.search.specs.Branch.{join_at}
use Rattle.search.specs.Walk.{view_at}
use Rattle.search.specs.Columns.{InReach, found_on, looks_on}
use Rattle.search.specs.Find.{join_of, Joins}
use Rattle.search.proofs.Keepouts.{scan_ends}
use Rattle.search.proofs.Defined.{view_of, join_is}
use Rattle.search.proofs.TreeWalk.{views_are, joins}
use Rattle.nearest.specs.Summed.{Summed}
use Rattle.nearest.specs.Columns.{SummedColumns}
use Rattle.nearest.specs.Sole.{SoleIn, Right, join_on}
use Rattle.nearest.proofs.Standing.{here, parent-low}
use Rattle.nearest.proofs.Branches.{alone_there}

-- an answer that is sure, as it was matched
pub sure : {n : ℕ} {a : Query} {xs ys : List ℤ} {path parent : List ℕ} {c : NodeIndex} (r : Option NodeIndex) → r ≡ Some c → Right n a xs ys path parent r → SoleIn n a xs ys path parent c.0
sure {n} {a} {xs} {ys} {path} {parent} r e h = subst (Right n a xs ys path parent) e h

-- both ends of its branch stand in the columns
pub in_columns : {n : ℕ} {q : Point} {xs ys : List ℤ} {path parent : List ℕ} → SummedColumns n q xs ys path parent → {c : ℕ} → 0 < c → c < n
    → (c < length parent) × InReach xs ys path c × InReach xs ys path (get_or parent c 0)
in_columns {n} {q} {xs} {ys} {path} {parent} v {c} p h = (omega (arith, v.in_parent), at_node_lem c h, at_node_lem _ (v.up c p h))
  where
    at_node_lem : (i : ℕ) → i < n → InReach xs ys path i
    at_node_lem i l = let p = v.points.each i l in record { in_xs = p.in_xs; in_ys = p.in_ys; in_path = omega (arith, v.in_path) }

-- the place, from its parts: i is c's index, P and C are what is read of the branch's ends, and m is its nearest point
pub place_of : (q : Point) (xs ys : List ℤ) (path parent : List ℕ) (c : ℕ) {i : ℕ} {P C : NodeView} {m : Point} {r : Join} → i ≡ c → P ≡ view_at xs ys path (get_or parent i 0)
    → C ≡ view_at xs ys path c → m ≡ T.nearest_on P.point C.point q → r ≡ join_at m P C → r ≡ join_on q xs ys path (get_or parent c 0) c
place_of q xs ys path parent c {i} {P} {C} {m} {r} ei e_p e_c em er =
    let at-parent : P ≡ view_at xs ys path (get_or parent c 0) = e_p ∙ ap (λ (j : ℕ). view_at xs ys path (get_or parent j 0)) ei in
    er ∙ ap (λ (x : Point). join_at x P C) em ∙ (λ j. join_at (T.nearest_on (at-parent j).point (e_c j).point q) (at-parent j) (e_c j))

module _ {n : ℕ} {a : Query} {xs ys : List ℤ} {path parent last prev : List ℕ} (v : Summed n a xs ys path parent last prev)
    (ks : List ℤ) (few : length ks < 4) where
  abbrev ns : List Node
  ns = v.ready.nodes

  clear : (P C m q : Point) → T.blocked (keepouts_of ks) P C m q ≡ false
  unfolding T.blocked
  clear P C m q = sym (scan_ends _ ks 0 refl few)

  there_is : {c : ℕ} → SoleIn n a xs ys path parent c → join_of (join_on a.point xs ys path (get_or parent c 0) c) ≡ T.find (T.blocked (keepouts_of ks)) ns a.limit a.allowed a.point
  there_is {c} s =
      let w = s.sole in
      let p = get_or parent c 0 in
      let P : view_at xs ys path p ≡ view_of ns p = views_are v.ready.kept p (here v p (parent-low v c w.some w.in_n)) in
      let C : view_at xs ys path c ≡ view_of ns c = views_are v.ready.kept c (here v c w.in_n) in
      (λ i. join_of (join_at (T.nearest_on (P i).point (C i).point a.point) (P i) (C i)))
      ∙ sym (join_is ns p c (T.nearest_on (node_at ns p).point (node_at ns c).point a.point))
      ∙ sym (alone_found v.linked (T.blocked (keepouts_of ks)) clear a.limit (alone_there v s))

  -- every branch is examined
  every : T.looked (T.blocked (keepouts_of ks)) ns a.limit a.allowed a.point + 1 ≡ n
  every = looks_every ns v.linked (T.blocked (keepouts_of ks)) a.limit a.allowed a.point clear ∙ v.ready.size

  -- what the columns' walk answers is right in every tree that they keep
  same-tree : Joins n a xs ys path last prev ks (record { join = found_on n a xs ys path last prev ks; looks = looks_on n a xs ys path last prev ks })
  same-tree = joins n a xs ys path last prev ks _ (record { join = refl; looks = refl })

  pub joins-there : {c : ℕ} {r : Found} {j : Join} → SoleIn n a xs ys path parent c → j ≡ join_on a.point xs ys path (get_or parent c 0) c → r.join ≡ j → r.looks + 1 ≡ n
      → Joins n a xs ys path last prev ks r
  joins-there s e ej el ms size t k =
      let here = same-tree ns v.ready.size v.ready.tree v.ready.kept in
      let there = same-tree ms size t k in
      record {
        join = ap join_of (ej ∙ e) ∙ there_is s ∙ sym here.join ∙ there.join;
        looks = omega (arith, el, every, here.looks, there.looks);
      }
