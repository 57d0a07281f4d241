-- The loop over a node's children, from the last to the first: the longest run so far and the longest of those that are left make the longest of all.
use Rattle.std.proofs.Common.{ℕ, zero, suc, ◌+◌, ◌-◌, ◌*◌, ◌≤◌, ◌<◌, max, ◌≡◌, refl, ap, sym, subst, ◌∙◌, inl, inr, List, [], ◌∷◌, ◌++◌, reverse, arith, length, get_or, Option}
use mathlib.Core.List.{reverse-cons}
use Rattle.geometry.specs.declared.Point.{Point}
use Rattle.geometry.specs.Geometry.{dist}
use Rattle.geometry.specs.Laws.{Within}
use Rattle.tree.specs.Limits.{across, reach}
use Rattle.tree.specs.Tree.{Node, node_at}
use Rattle.tree.specs.Measures.{greatest, worst_below, worst}
use Rattle.std.specs.Ordering.{ord_max, nat_cmp}
use Rattle.std.proofs.lemmas.Bool.Decides.{nat_tests}
use Rattle.tree.specs.declared.NodeIndex.{NodeIndex}
use Rattle.joining.specs.Store.{Columns, index_from}
use Rattle.search.specs.Columns.{Has}
use Rattle.measures.specs.Children.{chain_at}
use Rattle.measures.proofs.Children.{siblings_of, children_read}
use Rattle.tree.specs.Memory.{point_at}
use Rattle.measures.proofs.Reading.{Read, point_read, near_read}
use Rattle.measures.proofs.Summed.{near_by}

-- the library's `max`
pub max_is : (a b : ℕ) → ord_max nat_cmp a b ≡ max a b
max_is a b = grind (arith, nat_tests)

greatest_snoc : (f : ℕ → ℕ) (xs : List ℕ) (c : ℕ) → greatest f (xs ++ (c ∷ [])) ≡ max (greatest f xs) (f c)
unfolding greatest
greatest_snoc f [] c = omega arith
greatest_snoc f (x ∷ xs) c = omega (arith, greatest_snoc f xs c)

greatest-reverse : (f : ℕ → ℕ) (xs : List ℕ) → greatest f (reverse xs) ≡ greatest f xs
unfolding greatest
greatest-reverse f [] = refl
greatest-reverse f (x ∷ xs) = ap (greatest f) (reverse-cons x xs) ∙ greatest_snoc f (reverse xs) x ∙ omega (arith, greatest-reverse f xs)

-- from node i to its child c, and on down with one level less
abbrev pub run_by : List Node → ℕ → ℕ → ℕ → ℕ
run_by ns left i c = dist (node_at ns i).point (node_at ns c).point + worst_below ns (left - 1) c

worst_step : (ns : List Node) (left i : ℕ) → (left ≡ 0 → ⊥) → worst_below ns left i ≡ greatest (run_by ns left i) (node_at ns i).children
unfolding worst_below
worst_step ns zero i f = absurd (f refl)
worst_step ns (suc left) i f = let e : left ≡ suc left - 1 = omega arith in ap (λ (m : ℕ). greatest (λ c. dist (node_at ns i).point (node_at ns c).point + worst_below ns m c) (node_at ns i).children) e

pub worst-none : (ns : List Node) (left i : ℕ) → left ≡ 0 → 0 ≡ worst_below ns left i
unfolding worst_below
worst-none ns zero i e = refl
worst-none ns (suc left) i e = absurd (omega arith)

-- over the children that are left
pub record Longest (ns : List Node) (n left i : ℕ) (rest : List ℕ) (best : ℕ) : Type 0 where
  pub some : left ≡ 0 → ⊥
  pub small : best ≤ across * left
  pub below : (x : ℕ) → Has x rest → x < n
  pub is : max best (greatest (run_by ns left i) rest) ≡ worst_below ns left i

module _ (ns : List Node) (c : Columns) (n left i : ℕ) (v : Read ns c n) where
  pub starts : {k : ℕ} {child : Option NodeIndex} → k ≡ i → child ≡ index_from (get_or c.last k 0) → i < n → (left ≡ 0 → ⊥) → Longest ns n left i (chain_at c.prev child) 0
  starts {k} e ex h f =
      let in_n : k < n = omega arith in
      let kids = children_read v k in_n ex ∙ ap (λ (x : ℕ). reverse (node_at ns x).children) e in
      record {
        some = f;
        small = omega arith;
        below = (siblings_of v k in_n ex).below;
        is = omega (arith, ap (greatest (run_by ns left i)) kids, greatest-reverse (run_by ns left i) (node_at ns i).children, worst_step ns left i f);
      }

  module _ {rest : List ℕ} {best : ℕ} (l : Longest ns n left i rest best) where
    pub stops : rest ≡ [] → best ≡ worst_below ns left i
    unfolding greatest
    stops e = omega (arith, l.is, ap (greatest (run_by ns left i)) e)

    -- at the child x, which is read at k: the run from p by q, and on
    module _ {x : ℕ} {rest' : List ℕ} (more : rest ≡ x ∷ rest') {k : ℕ} (e : k ≡ x) where
      pub here : x < n
      unfolding Has
      here = l.below x (subst (Has x) (sym more) (inl refl))

      pub child_near : {q : Point} → q ≡ point_at c.rows.xs c.rows.ys k → Within reach q
      child_near eq = near_read v x here k e eq

      module _ {p q : Point} {d b : ℕ} (in_n : i < n) (ep : p ≡ point_at c.rows.xs c.rows.ys i) (eq : q ≡ point_at c.rows.xs c.rows.ys k)
          (ed : d ≡ dist p q) (eb : b ≡ worst_below ns (left - 1) x) (sb : b ≤ across * (left - 1)) where
        pub run_low : d + b ≤ across * left
        run_low = let z = l.some in omega (arith, near_by (near_read v i in_n i refl ep) (child_near eq) ed)

        run_is : d + b ≡ run_by ns left i x
        run_is = λ j. (ed ∙ (λ m. dist (point_read v i in_n i refl ep m) (point_read v x here k e eq m))) j + eb j

        -- and the children before
        pub raised : {best' : ℕ} → best' ≡ max best (d + b) → Longest ns n left i rest' best'
        unfolding greatest Has
        raised eb' =
            record {
              some = l.some;
              small = omega (arith, l.small, run_low);
              below = λ y m. l.below y (subst (Has y) (sym more) (inr m));
              is = omega (arith, l.is, run_is, ap (greatest (run_by ns left i)) more);
            }

-- the levels of a whole tree
pub from_source : {ns : List Node} {c : Columns} {n : ℕ} → Read ns c n → {r : ℕ} → r ≡ worst_below ns n 0 → r ≡ worst ns
from_source {ns} v h = h ∙ ap (λ (k : ℕ). worst_below ns k 0) (sym v.size)
