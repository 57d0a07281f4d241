-- Rows of nodes: a node's row, and the loop that stores rows in columns. The rows before i are the nodes'.
use Rattle.std.proofs.Common.{ℕ, ◌+◌, ◌<◌, ◌≡◌, refl, sym, ap, subst, ◌∙◌, List, arith, length, get_or, Option, None, Some}
use Rattle.std.proofs.Math.Decide.{ℕ_discrete}
use Rattle.std.proofs.lemmas.List.{get_or_default}
use borrow.Author.Tests.{ne_eqb}
use Rattle.tree.specs.Limits.{most_nodes, no_node}
use Rattle.tree.specs.Tree.{at}
use Rattle.tree.specs.declared.NodeIndex.{NodeIndex}
use Rattle.tree.specs.declared.RoutingNode.{RoutingNode}
use Rattle.tree.specs.Memory.{name_in, parent_in, node_in}
use Rattle.joining.specs.declared.Row.{Row}
use Rattle.joining.specs.Store.{Rows, row_at, set_row, SizedRows, link_in, parent_from, node_from}
use Rattle.joining.proofs.Steps.{row_same, row_other, sized_row}
use Rattle.tables.specs.Nodes.{blank_node, Packs, Plain, Unpackable}

-- ---- a node's row
pub link_parent : (p : Option NodeIndex) → (parent_in p ≡ at no_node → ⊥) → parent_in p ≡ parent_from (link_in p)
unfolding parent_from
link_parent None h = refl
link_parent (Some i) h = rw (ne_eqb i.0 no_node (λ z. h (ap at z)))

pub row_is : (n : RoutingNode) → Plain n → (p : ℕ) → parent_in n.parent ≡ parent_from p
    → (cs : List ℕ) → node_in n cs ≡ node_from (record { point = n.pt; path = n.path_length; parent = record { 0 = p }; name = n.name }) cs
row_is n v p e cs =
    λ i. record { name = name_in n.name; parent = e i; point = n.pt; children = cs; path = n.path_length; capacitance = v.capacitance i; delay = v.delay i }

-- ---- the loop, at its head and in a turn
pub record Storing (nodes : List RoutingNode) (i : ℕ) (r : Rows) : Type 0 where
  pub sized : SizedRows most_nodes r
  pub packs : Packs r i nodes

module _ (nodes : List RoutingNode) (n : ℕ) (v : Unpackable nodes n) (i : ℕ) (h : i < n) (k : ℕ) (e : k ≡ i) (d : RoutingNode) where
  read_is : get_or nodes k d ≡ get_or nodes i blank_node
  read_is = ap (λ (j : ℕ). get_or nodes j d) e ∙ get_or_default nodes i d blank_node (omega (arith, v.size, v.few))

  pub plain : Plain (get_or nodes k d)
  plain = subst Plain (sym read_is) (v.plain i h)

  pub turn : (r : Rows) → Storing nodes i r → (row : Row) → ((cs : List ℕ) → node_in (get_or nodes k d) cs ≡ node_from row cs) → (r' : Rows) → r' ≡ set_row r i row → Storing nodes (i + 1) r'
  turn r s row f r' er = subst (Storing nodes (i + 1)) (sym er) (record { sized = sized_row most_nodes r i row s.sized; packs = record { size = v.size; is = λ j l cs. by j cs (ℕ_discrete j i) l } })
    where
      by : (j : ℕ) (cs : List ℕ) → Dec (j ≡ i) → j < i + 1 → node_in (get_or nodes j blank_node) cs ≡ node_from (row_at (set_row r i row) j) cs
      by j cs (yes q) l =
          ap (λ (x : RoutingNode). node_in x cs) (ap (λ (x : ℕ). get_or nodes x blank_node) q ∙ sym read_is)
          ∙ f cs ∙ ap (λ (x : Row). node_from x cs) (sym (ap (row_at (set_row r i row)) q ∙ row_same most_nodes r i row s.sized (omega (arith, v.few))))
      by j cs (no q) l = s.packs.is j (omega arith) cs ∙ ap (λ (x : Row). node_from x cs) (sym (row_other r i j row q))
