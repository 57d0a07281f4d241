-- A node's children from the last to the first, as a loop or a recursion over their links meets them.
use Rattle.std.proofs.Common.{ℕ, ◌<◌, ◌≡◌, refl, ap, sym, subst, ◌∙◌, inl, inr, List, [], ◌∷◌, reverse, arith, length, get_or, Option, None, Some}
use Rattle.tree.specs.Limits.{no_node}
use Rattle.tree.specs.Tree.{Node, node_at}
use Rattle.tree.specs.declared.NodeIndex.{NodeIndex}
use Rattle.search.specs.Columns.{Has, chain, Chained}
use Rattle.search.proofs.Chains.{Unrolled, unroll, ended}
use Rattle.joining.specs.Store.{Columns, index_from, link_in}
use Rattle.joining.proofs.Names.{link_in-from}
use Rattle.measures.specs.Children.{chain_at, Siblings}
use Rattle.measures.proofs.Reading.{Read}

-- a link that is read is the number that stands there
pub link_read : {child : Option NodeIndex} (x : ℕ) → child ≡ index_from x → link_in child ≡ x
link_read x e = ap link_in e ∙ link_in-from x

pub siblings_from : {prev : List ℕ} {n : ℕ} {child : Option NodeIndex} (x : ℕ) → child ≡ index_from x → Chained prev x → ((y : ℕ) → Has y (chain prev x) → y < n) → Siblings prev n child
siblings_from {prev} {n} {child} x e links below =
    let l : link_in child ≡ x = link_read x e in
    record {
      read = e ∙ ap index_from (sym l);
      links = subst (Chained prev) (sym l) links;
      below = λ y m. below y (subst (λ (z : ℕ). Has y (chain prev z)) l m);
    }

module _ {ns : List Node} {c : Columns} {n : ℕ} (v : Read ns c n) where
  -- the last child that is read of node p
  module _ (p : ℕ) (h : p < n) {child : Option NodeIndex} (e : child ≡ index_from (get_or c.last p 0)) where
    pub siblings_of : Siblings c.prev n child
    siblings_of = siblings_from (get_or c.last p 0) e (v.links p h) (λ x m. v.below p x h m)

    pub children_read : chain_at c.prev child ≡ reverse (node_at ns p).children
    children_read = ap (chain c.prev) (link_read (get_or c.last p 0) e) ∙ v.kids p h

  module _ {child : Option NodeIndex} (s : Siblings c.prev n child) where
    pub chain-none : child ≡ None → chain_at c.prev child ≡ []
    chain-none e = ended c.prev (link_in child) v.ends (ap link_in e)

    -- at the child i
    module _ {i : NodeIndex} (e : child ≡ Some i) where
      some_link : link_in child ≡ no_node → ⊥
      some_link z =
          let f : Some i ≡ index_from no_node = sym e ∙ s.read ∙ ap index_from z in
          let g : ◌≡◌ {A = Option NodeIndex} (Some i) None = f in
          cc

      rest : Unrolled c.prev (link_in child)
      rest = unroll c.prev (link_in child) v.ends s.links some_link

      at_child : link_in child ≡ i.0
      at_child = ap link_in e

      pub child_low : i.0 < n
      unfolding Has
      child_low = subst (λ (x : ℕ). x < n) at_child (s.below (link_in child) (subst (Has (link_in child)) (sym rest.is) (inl refl)))

      -- and the sibling before it, as it is read at k
      module _ (k : ℕ) (ek : k ≡ i.0) {before : Option NodeIndex} (eb : before ≡ index_from (get_or c.prev k 0)) where
        same : get_or c.prev k 0 ≡ get_or c.prev (link_in child) 0
        same = ap (λ (x : ℕ). get_or c.prev x 0) (ek ∙ sym at_child)

        linked : before ≡ index_from (get_or c.prev (link_in child) 0)
        linked = eb ∙ ap index_from same

        pub siblings_before : Siblings c.prev n before
        unfolding Has
        siblings_before = siblings_from (get_or c.prev (link_in child) 0) linked rest.after (λ x m. s.below x (subst (Has x) (sym rest.is) (inr m)))

        pub chain_step : chain_at c.prev child ≡ i.0 ∷ chain_at c.prev before
        chain_step = rest.is ∙ (λ j. at_child j ∷ chain c.prev (sym (link_read (get_or c.prev (link_in child) 0) linked) j))

        pub shorter : length (chain_at c.prev before) < length (chain_at c.prev child)
        shorter = omega (arith, ap length chain_step)
