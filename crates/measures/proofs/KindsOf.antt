-- A node's kind as it is read, and the nodes of a kind one node further.
use Rattle.std.proofs.Common.{◌≡◌, refl, ap, sym, ◌∙◌, Bool, List, [], ◌∷◌, ◌++◌, append-nil, ℕ, zero, suc, ◌+◌, ◌<◌, add-one, arith, get_or, eqb}
use borrow.Author.Tests.{eq-eqb, ne_eqb}
use Rattle.tree.specs.Tree.{Node, node_at}
use Rattle.tree.specs.Measures.{kind_of, those}
use Rattle.tree.specs.Memory.{type_number, type_of}
use Rattle.tree.specs.declared.NodeType.{NodeType}
use Rattle.tree.specs.declared.NodeType.TheVariants as T
use Rattle.joining.specs.Store.{Columns, name_from}
use Rattle.measures.proofs.Reading.{Read}

pub kind-named : (k n : ℕ) → type_number (type_of k) ≡ kind_of (name_from k n)
kind-named zero n = refl
kind-named (suc zero) n = refl
kind-named (suc (suc k)) n = refl

module _ {ns : List Node} {c : Columns} {n : ℕ} (v : Read ns c n) (i : ℕ) (h : i < n) where
  -- the kind that is read at k, which is i
  pub kind_read : {t : NodeType} {k : ℕ} → k ≡ i → t ≡ type_of (get_or c.rows.kind k 0) → type_number t ≡ kind_of (node_at ns i).name
  kind_read ek e =
      ap type_number (e ∙ ap (λ (j : ℕ). type_of (get_or c.rows.kind j 0)) ek)
      ∙ kind-named (get_or c.rows.kind i 0) (get_or c.rows.number i 0)
      ∙ sym (ap (λ (y : Node). kind_of y.name) (v.rows i h))

-- kinds are told apart by their numbers
pub same_kind : (a b : NodeType) → type_number a ≡ type_number b → a ≡ b
same_kind T.Source T.Source e = refl
same_kind T.Source T.Steiner e = absurd (omega arith)
same_kind T.Source T.Terminal e = absurd (omega arith)
same_kind T.Steiner T.Source e = absurd (omega arith)
same_kind T.Steiner T.Steiner e = refl
same_kind T.Steiner T.Terminal e = absurd (omega arith)
same_kind T.Terminal T.Source e = absurd (omega arith)
same_kind T.Terminal T.Steiner e = absurd (omega arith)
same_kind T.Terminal T.Terminal e = refl

-- whether node i is of a kind
abbrev pub is_kind : ℕ → List Node → ℕ → Bool
is_kind k ns i = eqb (kind_of (node_at ns i).name) k

module _ (ns : List Node) (k i r : ℕ) (e : r ≡ kind_of (node_at ns i).name) where
  pub one_more : r ≡ k → those (is_kind k ns) i ++ (i ∷ []) ≡ those (is_kind k ns) (i + 1)
  unfolding those
  one_more f = rw (add-one i, eq-eqb (kind_of (node_at ns i).name) k (sym e ∙ f))

  pub none_more : (r ≡ k → ⊥) → those (is_kind k ns) i ≡ those (is_kind k ns) (i + 1)
  unfolding those
  none_more f = rw (add-one i, ne_eqb (kind_of (node_at ns i).name) k (λ g. f (e ∙ g))) (sym (append-nil (those (is_kind k ns) i)))
