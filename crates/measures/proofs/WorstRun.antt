-- The worst run is what the paper says, "the longest sum from source to any leaf": no node's Manhattan sum along its parents is longer, and a leaf's is as long.
use Rattle.std.proofs.Common.{ℕ, zero, suc, ◌+◌, ◌≤◌, ◌<◌, ◌≡◌, refl, ap, ⊎_elim, List, [], ◌∷◌, arith, length}
use Rattle.geometry.specs.Geometry.{dist}
use Rattle.tree.specs.Tree.{Node, Parent, none, at, node_at, to_parent, above, climbed}
use Rattle.tree.specs.Measures.{greatest, worst_below, worst}
use Rattle.tree.specs.Shape.{Linked}
use Rattle.tree.proofs.Climbing.{stay_sum}
use Rattle.tree.proofs.Linking.{child_in, parent_in_lem, counted}
use Rattle.tree.proofs.Deciding.{Tri, less, equal, more, tri}
use Rattle.tree.proofs.Searching.{Children, own, head_child, tail_child}
use Rattle.measures.proofs.Levels.{high, high-falls, worst_enough}
use Rattle.search.specs.Columns.{Has}
use Rattle.joining.proofs.Agree.{count-has}

module _ (ns : List Node) (g : Linked ns) where
  child-sum : (k c p : ℕ) → (node_at ns c).parent ≡ at p → climbed ns (suc k) c ≡ dist (node_at ns p).point (node_at ns c).point + climbed ns k p
  unfolding climbed
  child-sum k c p e = ap (λ (x : Parent). to_parent ns (node_at ns c).point x + climbed ns k (above c x)) e

  -- one more step adds nothing where the steps reach the source
  one_more : (k i : ℕ) → g.rank i ≤ k → climbed ns (suc k) i ≡ climbed ns k i
  one_more zero i r = by (node_at ns i).parent refl
    where
      by : (x : Parent) → (node_at ns i).parent ≡ x → climbed ns 1 i ≡ climbed ns 0 i
      by none e = omega (arith, stay_sum ns i 1 e, stay_sum ns i 0 e)
      by (at p) e = absurd (omega (arith, g.falls i p e))
  one_more (suc k) i r = by (node_at ns i).parent refl (one_more k)
    where
      by : (x : Parent) → (node_at ns i).parent ≡ x → ((p : ℕ) → g.rank p ≤ k → climbed ns (suc k) p ≡ climbed ns k p) → climbed ns (suc (suc k)) i ≡ climbed ns (suc k) i
      by none e ih = omega (arith, stay_sum ns i (suc (suc k)) e, stay_sum ns i (suc k) e)
      by (at p) e ih = omega (arith, child-sum (suc k) i p e, child-sum k i p e, ih p (omega (arith, g.falls i p e)))

  -- the sum along a node's parents
  abbrev pub sum_of : ℕ → ℕ
  sum_of i = climbed ns (length ns) i

  pub sum-child : (c p : ℕ) → (node_at ns c).parent ≡ at p → sum_of c ≡ dist (node_at ns p).point (node_at ns c).point + sum_of p
  sum-child c p e =
      let s = g.small c (child_in g c p e) in
      let f = g.falls c p e in
      omega (arith, one_more (length ns) c (omega arith), child-sum (length ns) c p e)

  -- ---- no sum is longer
  greatest-has : (f : ℕ → ℕ) (c : ℕ) (cs : List ℕ) → Has c cs → f c ≤ greatest f cs
  unfolding Has greatest
  greatest-has f c [] h = absurd h
  greatest-has f c (x ∷ cs) h = ⊎_elim (λ (e : x ≡ c). omega (arith, ap f e)) (λ (k : Has c cs). omega (arith, greatest-has f c cs k)) h

  greatest-low : (f f' : ℕ → ℕ) → ((c : ℕ) → f c ≤ f' c) → (cs : List ℕ) → greatest f cs ≤ greatest f' cs
  unfolding greatest
  greatest-low f f' h [] = omega arith
  greatest-low f f' h (c ∷ cs) = omega (arith, h c, greatest-low f f' h cs)

  -- what a child gives
  abbrev run : ℕ → ℕ → ℕ → ℕ
  run left i c = dist (node_at ns i).point (node_at ns c).point + worst_below ns left c

  deeper : (left i : ℕ) → worst_below ns left i ≤ worst_below ns (suc left) i
  unfolding worst_below
  deeper zero i = omega arith
  deeper (suc left) i = greatest-low (run left i) (run (suc left) i) (λ c. omega (arith, deeper left c)) (node_at ns i).children

  any_deeper : (left extra i : ℕ) → worst_below ns left i ≤ worst_below ns (left + extra) i
  any_deeper left zero i =
      let e : left ≡ left + 0 = omega arith in
      omega (arith, ap (λ (k : ℕ). worst_below ns k i) e)
  any_deeper left (suc extra) i =
      let e : suc (left + extra) ≡ left + suc extra = omega arith in
      omega (arith, any_deeper left extra i, deeper (left + extra) i, ap (λ (k : ℕ). worst_below ns k i) e)

  from_source : (left : ℕ) → worst_below ns left 0 ≤ worst ns
  from_source left =
      let e : left + length ns ≡ length ns + left = omega arith in
      omega (arith, any_deeper left (length ns) 0, ap (λ (k : ℕ). worst_below ns k 0) e, worst_enough ns g left)

  by_child : (left p c : ℕ) → (node_at ns c).parent ≡ at p → run left p c ≤ worst_below ns (suc left) p
  unfolding worst_below
  by_child left p c e = greatest-has (run left p) c (node_at ns p).children (count-has c (node_at ns p).children (omega (arith, counted g c p e)))

  longest : (k i left : ℕ) → i < length ns → g.rank i ≤ k → sum_of i + worst_below ns left i ≤ worst ns
  longest zero i left h r = by (node_at ns i).parent refl
    where
      by : (x : Parent) → (node_at ns i).parent ≡ x → sum_of i + worst_below ns left i ≤ worst ns
      by none e = omega (arith, stay_sum ns i (length ns) e, ap (worst_below ns left) (g.others i h e), from_source left)
      by (at p) e = absurd (omega (arith, g.falls i p e))
  longest (suc k) i left h r = by (node_at ns i).parent refl (longest k)
    where
      by : (x : Parent) → (node_at ns i).parent ≡ x → ((p left : ℕ) → p < length ns → g.rank p ≤ k → sum_of p + worst_below ns left p ≤ worst ns) → sum_of i + worst_below ns left i ≤ worst ns
      by none e ih = omega (arith, stay_sum ns i (length ns) e, ap (worst_below ns left) (g.others i h e), from_source left)
      by (at p) e ih = omega (arith, sum-child i p e, by_child left p i e, ih p (suc left) (parent_in_lem g i p e) (omega (arith, g.falls i p e)))

  pub none_longer : (i : ℕ) → i < length ns → sum_of i ≤ worst ns
  none_longer i h = omega (arith, longest (g.rank i) i 0 h (omega arith))

  -- ---- a leaf's is as long
  -- a child whose run is the greatest
  record Top (f : ℕ → ℕ) (p : ℕ) (cs : List ℕ) : Type 0 where
    child : ℕ
    own_child : (node_at ns child).parent ≡ at p
    is : greatest f cs ≡ f child

  top : (f : ℕ → ℕ) (p c : ℕ) (cs : List ℕ) → Children ns p (c ∷ cs) → Top f p (c ∷ cs)
  unfolding greatest
  top f p c [] k = record { child = c; own_child = head_child ns g p c [] k; is = omega arith }
  top f p c (d ∷ cs) k = by (top f p d cs (tail_child ns g p c (d ∷ cs) k)) (tri (f c) (greatest f (d ∷ cs)))
    where
      by : Top f p (d ∷ cs) → Tri (f c) (greatest f (d ∷ cs)) → Top f p (c ∷ d ∷ cs)
      by t (less a) = record { child = t.child; own_child = t.own_child; is = omega (arith, t.is) }
      by t (equal a) = record { child = t.child; own_child = t.own_child; is = omega (arith, t.is) }
      by t (more a) = record { child = c; own_child = head_child ns g p c (d ∷ cs) k; is = omega arith }

  pub record Leaf (sum : ℕ) : Type 0 where
    pub leaf : ℕ
    pub in_tree : leaf < length ns
    pub no_child : (node_at ns leaf).children ≡ []
    pub sum_is : sum_of leaf ≡ sum

  leaf_below : (left i : ℕ) → i < length ns → high ns g i ≤ left → Leaf (sum_of i + worst_below ns left i)
  unfolding worst_below greatest
  leaf_below zero i h r = absurd (omega (arith, g.small i h))
  leaf_below (suc left) i h r = by (node_at ns i).children refl (own ns g i) (leaf_below left)
    where
      by : (cs : List ℕ) → (node_at ns i).children ≡ cs → Children ns i cs → ((c : ℕ) → c < length ns → high ns g c ≤ left → Leaf (sum_of c + worst_below ns left c))
          → Leaf (sum_of i + greatest (run left i) (node_at ns i).children)
      by [] e k ih = record { leaf = i; in_tree = h; no_child = e; sum_is = omega (arith, ap (greatest (run left i)) e) }
      by (c ∷ cs) e k ih =
          let t = top (run left i) i c cs k in
          let l = ih t.child (child_in g t.child i t.own_child) (omega (arith, high-falls ns g i t.child t.own_child)) in
          record {
            leaf = l.leaf;
            in_tree = l.in_tree;
            no_child = l.no_child;
            sum_is = omega (arith, l.sum_is, sum-child t.child i t.own_child, t.is, ap (greatest (run left i)) e);
          }

  pub as_long : Leaf (worst ns)
  as_long =
      let l = leaf_below (length ns) 0 g.some (omega arith) in
      record { leaf = l.leaf; in_tree = l.in_tree; no_child = l.no_child; sum_is = omega (arith, l.sum_is, stay_sum ns 0 (length ns) g.top) }
