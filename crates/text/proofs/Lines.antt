-- A node's line in parts, and a node or a list of children as what was written for it.
use Rattle.std.proofs.Common.{◌≡◌, refl, sym, ap, ◌∙◌, List, [], ◌∷◌, ◌++◌, reverse, append_assoc, append-nil, ℕ, zero, suc, ◌+◌, ◌-◌, ◌≤◌, ◌<◌, add-one, arith, length, get_or, Option, None, Some}
use mathlib.Core.List.{reverse-cons, reverse-reverse}
use Rattle.tree.specs.Tree.{Node, node_at}
use Rattle.tree.specs.Memory.{name_in}
use Rattle.tree.specs.declared.NodeIndex.{NodeIndex}
use Rattle.joining.specs.declared.Row.{Row}
use Rattle.joining.specs.Store.{Columns, row_at, index_from}
use Rattle.measures.proofs.Reading.{Read}
use Rattle.text.specs.Text.{indent, line_of, node_line, each, text_from, text_of}
use Rattle.measures.specs.Children.{chain_at, Siblings}
use Rattle.measures.proofs.Children.{siblings_of, children_read, chain-none, chain_step}

pub indent-none : [] ≡ indent 0
unfolding indent
indent-none = refl

-- two spaces more, after those that stand
pub indent_more : (k : ℕ) → indent k ++ (32 ∷ 32 ∷ []) ≡ indent (k + 1)
unfolding indent
indent_more zero = refl
indent_more (suc k) = rw add-one (ap (λ (l : List ℕ). 32 ∷ 32 ∷ l) (indent_more k ∙ ap indent (add-one k)))

-- ---- a node
text_none : (ns : List Node) (left level i : ℕ) → left ≡ 0 → node_line level (node_at ns i) ≡ text_from ns left level i
unfolding text_from
text_none ns zero level i h = refl
text_none ns (suc left) level i h = absurd (omega arith)

text_some : (ns : List Node) (left level i : ℕ) → (left ≡ 0 → ⊥)
    → node_line level (node_at ns i) ++ each (text_from ns (left - 1) (level + 1)) (node_at ns i).children ≡ text_from ns left level i
unfolding text_from
text_some ns zero level i h = absurd (h refl)
text_some ns (suc left) level i h = let e : suc left - 1 ≡ left = omega arith in rw (e, add-one level)

each_snoc : (f : ℕ → List ℕ) (xs : List ℕ) (c : ℕ) → each f (xs ++ (c ∷ [])) ≡ each f xs ++ f c
unfolding each
each_snoc f [] c = append-nil (f c)
each_snoc f (x ∷ xs) c = ap (λ (l : List ℕ). f x ++ l) (each_snoc f xs c) ∙ sym (append_assoc (f x) (each f xs) (f c))

module _ {ns : List Node} {c : Columns} {n : ℕ} (v : Read ns c n) where
  -- node i as it is read at k: its row, and its last child
  module _ (left level i : ℕ) {k : ℕ} {row : Row} (h : i < n) (e : k ≡ i) (er : row ≡ row_at c.rows k) where
    line_is : line_of level (name_in row.name) row.point ≡ node_line level (node_at ns i)
    line_is = rw (er, e) (sym (ap (node_line level) (v.rows i h)))

    pub node-none : left ≡ 0 → line_of level (name_in row.name) row.point ≡ text_from ns left level i
    node-none z = line_is ∙ text_none ns left level i z

    module _ {child : Option NodeIndex} {k' : ℕ} (e' : k' ≡ i) (ec : child ≡ index_from (get_or c.last k' 0)) where
      last : child ≡ index_from (get_or c.last i 0)
      last = ec ∙ ap (λ (j : ℕ). index_from (get_or c.last j 0)) e'

      pub children-below : Siblings c.prev n child
      children-below = siblings_of v i h last

      pub node-some : (left ≡ 0 → ⊥)
          → line_of level (name_in row.name) row.point ++ each (text_from ns (left - 1) (level + 1)) (reverse (chain_at c.prev child)) ≡ text_from ns left level i
      node-some z =
          (λ j. line_is j ++ each (text_from ns (left - 1) (level + 1)) ((ap reverse (children_read v i h last) ∙ reverse-reverse (node_at ns i).children) j))
          ∙ text_some ns left level i z

  -- ---- a list of children
  module _ {child : Option NodeIndex} (s : Siblings c.prev n child) (f : ℕ → List ℕ) where
    pub none_left : child ≡ None → [] ≡ each f (reverse (chain_at c.prev child))
    unfolding each
    none_left e = sym (ap (λ (l : List ℕ). each f (reverse l)) (chain-none v s e))

    pub with_last : {i : NodeIndex} → child ≡ Some i → {k : ℕ} → k ≡ i.0 → {before : Option NodeIndex} → before ≡ index_from (get_or c.prev k 0)
        → each f (reverse (chain_at c.prev before)) ++ f i.0 ≡ each f (reverse (chain_at c.prev child))
    with_last {i} e {k} ek {before} eb =
        sym (each_snoc f (reverse (chain_at c.prev before)) i.0)
        ∙ ap (each f) (sym (ap reverse (chain_step v s e k ek eb) ∙ reverse-cons i.0 (chain_at c.prev before)))

-- ---- the whole
pub whole : {ns : List Node} {c : Columns} {n : ℕ} → Read ns c n → text_from ns n 0 0 ≡ text_of ns
whole {ns} v = ap (λ (k : ℕ). text_from ns k 0 0) (sym v.size)
