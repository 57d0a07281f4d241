-- What a function reads in columns where a tree stands: rows, links and points in range, and the nodes that they are.
use Rattle.std.proofs.Common.{ℕ, zero, suc, ◌≤◌, ◌<◌, ◌≡◌, ap, sym, subst, ◌∙◌, List, reverse, arith, length, get_or, Option, Some}
use Rattle.geometry.specs.declared.Point.{Point}
use Rattle.geometry.specs.Laws.{Within}
use Rattle.tree.specs.Limits.{most_nodes, no_node, reach}
use Rattle.tree.specs.Tree.{Node, Name, source, steiner, terminal, node_at}
use Rattle.tree.specs.Measures.{number_of}
use Rattle.tree.specs.Shape as Shape
use Rattle.tree.specs.Shape.{Given}
use Rattle.tree.specs.Memory.{point_at, parent_in}
use Rattle.search.specs.Columns.{Has, chain, Chain, Chained}
use Rattle.search.specs.Find.{examined}
use Rattle.tree.specs.declared.NodeIndex.{NodeIndex}
use Rattle.joining.specs.Store.{Columns, row_at, node_from, index_from, nodes_of}
use Rattle.joining.proofs.Names.{parent_in-from}
use Rattle.joining.proofs.Agree.{child_of_lem}
use Rattle.joining.proofs.Reading.{children_are, nodes_are}
use Rattle.tree.proofs.Linking.{child_in, parent_in_lem}
use Rattle.tree.proofs.Forming.{terminals-few}
use Rattle.measures.specs.Standing.{Held}

pub record Read (ns : List Node) (c : Columns) (n : ℕ) : Type 0 where
  pub size : length ns ≡ n
  pub few : n ≤ most_nodes
  pub in_prev : n ≤ length c.prev
  pub ends : length c.prev ≤ no_node
  pub rows : (i : ℕ) → i < n → node_at ns i ≡ node_from (row_at c.rows i) (node_at ns i).children
  pub near : (i : ℕ) → i < n → Within reach (point_at c.rows.xs c.rows.ys i)
  pub kids : (p : ℕ) → p < n → chain c.prev (get_or c.last p 0) ≡ reverse (node_at ns p).children
  pub links : (p : ℕ) → p < n → Chained c.prev (get_or c.last p 0)
  pub below : (p x : ℕ) → p < n → Has x (chain c.prev (get_or c.last p 0)) → x < n
  pub linked : Shape.Linked ns
  -- "a new Steiner number would pass 250" is refused, so a number is a byte
  pub numbers : (i : ℕ) → i < n → number_of (node_at ns i).name ≤ most_nodes

module _ {c : Columns} {n : ℕ} (s : Held n c) where
  here : (i : ℕ) → i < n → i < length s.tree.nodes
  here i h = omega (arith, s.size)

  kids_are : (p : ℕ) → p < n → chain c.prev (get_or c.last p 0) ≡ examined s.tree.nodes p
  kids_are p h = children_are s.tree s.formed (omega (arith, s.size, s.few)) (length c.rows.xs) c s.sized s.keeps (omega (arith, s.size, s.room)) p (here p h)

  number-low : (i : ℕ) → i < n → number_of (node_at s.tree.nodes i).name ≤ most_nodes
  number-low zero h = omega (arith, ap number_of s.formed.named.source_name)
  number-low (suc i) h = by (node_at s.tree.nodes (suc i)).name (s.formed.named.given (suc i) (omega arith) (here (suc i) h))
    where
      by : (x : Name) → Given s.tree.next_steiner s.tree.next_terminal x → number_of x ≤ most_nodes
      by source g = omega arith
      by (steiner k) g = omega (arith, s.numbers, g.1)
      by (terminal k) g = omega (arith, s.few, s.size, terminals-few s.formed, g.1)

  read_tree : Read s.tree.nodes c n
  read_tree =
      record {
        size = s.size;
        few = s.few;
        in_prev = omega (arith, s.room, s.sized.prev);
        ends = omega (arith, s.sized.prev, s.sized.few);
        rows = λ i h. s.keeps.rows i (here i h);
        near = λ i h. subst (Within reach) (ap (λ (x : Node). x.point) (s.keeps.rows i (here i h))) (s.formed.near i);
        kids = kids_are;
        links = λ p h. record { is = subst (Chain c.prev (get_or c.last p 0)) (sym (kids_are p h)) (s.keeps.children p (here p h)) };
        below = λ p x h m. omega (arith, s.size, child_in s.formed.linked x p (child_of_lem s.tree.nodes s.formed.linked p x (subst (Has x) (kids_are p h) m)));
        linked = s.formed.linked;
        numbers = number-low;
      }

  pub nodes-same : nodes_of c n ≡ s.tree.nodes
  nodes-same =
      ap (nodes_of c) (sym s.size)
      ∙ nodes_are s.tree s.formed (omega (arith, s.size, s.few)) (length c.rows.xs) c s.sized s.keeps (omega (arith, s.size, s.room))

  -- the columns' nodes, as they are read
  pub read : Read (nodes_of c n) c n
  read = subst (λ (ns : List Node). Read ns c n) (sym nodes-same) read_tree

-- ---- a row
module _ {ns : List Node} {c : Columns} {n : ℕ} (v : Read ns c n) (i : ℕ) (h : i < n) where
  pub point_is : (node_at ns i).point ≡ point_at c.rows.xs c.rows.ys i
  point_is = ap (λ (x : Node). x.point) (v.rows i h)

  -- the parent that is read
  module _ {p : Option NodeIndex} (e : p ≡ index_from (get_or c.rows.parent i 0)) where
    pub parent_is : (node_at ns i).parent ≡ parent_in p
    parent_is = ap (λ (x : Node). x.parent) (v.rows i h) ∙ sym (parent_in-from (get_or c.rows.parent i 0)) ∙ ap parent_in (sym e)

    pub parent_low : {q : NodeIndex} → p ≡ Some q → q.0 < n
    parent_low {q} f = omega (arith, v.size, parent_in_lem v.linked i q.0 (parent_is ∙ ap parent_in f))

  -- the point that is read at k, which is i
  pub point_read : {p : Point} (k : ℕ) → k ≡ i → p ≡ point_at c.rows.xs c.rows.ys k → p ≡ (node_at ns i).point
  point_read k e f = f ∙ ap (point_at c.rows.xs c.rows.ys) e ∙ sym point_is

  pub near_read : {p : Point} (k : ℕ) → k ≡ i → p ≡ point_at c.rows.xs c.rows.ys k → Within reach p
  near_read k e f = subst (Within reach) (sym (f ∙ ap (point_at c.rows.xs c.rows.ys) e)) (v.near i h)
