-- As many levels as there are nodes are enough for the worst run: a child's rank is above its parent's, and no rank reaches the number of nodes.
use Rattle.std.proofs.Common.{ℕ, zero, suc, ◌+◌, ◌-◌, ◌≤◌, ◌<◌, ◌≡◌, refl, ap, List, [], ◌∷◌, arith, length}
use Rattle.geometry.specs.Geometry.{dist}
use Rattle.tree.specs.Tree.{Node, at, node_at}
use Rattle.tree.specs.Measures.{greatest, worst_below, worst}
use Rattle.tree.specs.Shape.{Linked}
use Rattle.tree.proofs.Linking.{child_in}
use Rattle.tree.proofs.Searching.{Children, own, head_child, tail_child}

module _ (ns : List Node) (g : Linked ns) where
  -- how many levels a node can have below it, itself counted
  abbrev pub high : ℕ → ℕ
  high i = length ns - g.rank i

  pub high-falls : (p c : ℕ) → (node_at ns c).parent ≡ at p → high c < high p
  high-falls p c e = omega (arith, g.falls c p e, g.small c (child_in g c p e))

  pub no_children : (i : ℕ) → high i ≤ 0 → (node_at ns i).children ≡ []
  no_children i h = by (node_at ns i).children (own ns g i)
    where
      by : (cs : List ℕ) → Children ns i cs → cs ≡ []
      by [] k = refl
      by (c ∷ cs) k = absurd (omega (arith, high-falls i c (head_child ns g i c cs k)))

  greatest-same : (p : ℕ) (f f' : ℕ → ℕ) → ((c : ℕ) → (node_at ns c).parent ≡ at p → f c ≡ f' c) → (cs : List ℕ) → Children ns p cs → greatest f cs ≡ greatest f' cs
  unfolding greatest
  greatest-same p f f' e [] k = refl
  greatest-same p f f' e (c ∷ cs) k =
      omega (arith, e c (head_child ns g p c cs k), greatest-same p f f' e cs (tail_child ns g p c cs k))

  pub levels_enough : (left more i : ℕ) → high i ≤ left → worst_below ns (left + more) i ≡ worst_below ns left i
  unfolding worst_below greatest
  levels_enough zero zero i h = refl
  levels_enough zero (suc more) i h =
      let e : 0 + suc more ≡ suc more = omega arith in
      rw e (ap (greatest (λ c. dist (node_at ns i).point (node_at ns c).point + worst_below ns more c)) (no_children i h))
  levels_enough (suc left) more i h =
      let e : suc left + more ≡ suc (left + more) = omega arith in
      rw e
      (greatest-same i (λ c. dist (node_at ns i).point (node_at ns c).point + worst_below ns (left + more) c) (λ c. dist (node_at ns i).point (node_at ns c).point + worst_below ns left c)
      (λ c k. omega (arith, levels_enough left more c (omega (arith, high-falls i c k)))) (node_at ns i).children (own ns g i))

  pub worst_enough : (more : ℕ) → worst_below ns (length ns + more) 0 ≡ worst ns
  worst_enough more = levels_enough (length ns) more 0 (omega arith)
