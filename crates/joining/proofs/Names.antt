-- A name by its kind and number, and an index by the number for it in a column.
use Rattle.std.proofs.Common.{ℕ, ◌<◌, ◌≡◌, refl, Bool, true, false, cond, arith, eqb, None, Some}
use borrow.Author.Tests.{ne_eqb}
use Rattle.tree.specs.Limits.{no_node}
use Rattle.tree.specs.Tree.{none, at}
use Rattle.tree.specs.Measures.{kind_of, number_of}
use Rattle.tree.specs.Memory.{name_in, parent_in, named, type_of}
use Rattle.tree.specs.declared.NodeIndex.{NodeIndex}
use Rattle.tree.specs.declared.NodeName.{NodeName}
use Rattle.tree.specs.declared.NodeName.TheVariants.{Source, Steiner, Terminal}
use Rattle.search.specs.Walk.{node_index}
use Rattle.search.proofs.Chains.{link_from}
use Rattle.joining.specs.Store.{parent_from, index_from, link_in}

-- a name is that of its kind and number
pub named-again : (n : NodeName) → named (type_of (kind_of (name_in n))) (number_of (name_in n)) ≡ n
named-again Source = refl
named-again (Steiner k) = refl
named-again (Terminal k) = refl

-- the parent that a column's number names
pub parent_in-from : (p : ℕ) → parent_in (index_from p) ≡ parent_from p
unfolding parent_from
parent_in-from p = by (eqb p no_node)
  where
    by : (t : Bool) → parent_in (cond t None (Some (node_index p))) ≡ cond t none (at p)
    by true = refl
    by false = refl

-- the number of what a column's number names
pub link_in-from : (p : ℕ) → link_in (index_from p) ≡ p
link_in-from = link_from

-- and of an index that is no no_node
pub index_from-node : (i : NodeIndex) → i.0 < no_node → index_from i.0 ≡ Some i
index_from-node i h = rw (ne_eqb i.0 no_node (λ e. omega arith))
