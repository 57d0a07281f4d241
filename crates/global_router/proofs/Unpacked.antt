-- A tree in memory, unpacked into a table: it is the same tree, and what memory shows of it holds of the table.
use Rattle.std.proofs.Common.{ℕ, ◌<◌, ◌≡◌, sym, ap, subst, ◌∙◌, reverse, arith, length, get_or, ℤ}
use mathlib.Core.List.{reverse-reverse}
use Rattle.geometry.specs.Signed.{In32, back, home}
use Rattle.tree.specs.Limits.{most_nodes, no_node}
use Rattle.tree.specs.Tree.{Node, at, node_at, blank}
use Rattle.tree.specs.WellFormed.{WellFormed}
use Rattle.tree.proofs.Linking.{parent_in_lem}
use Rattle.search.specs.Columns.{chain, Chain, Chained}
use Rattle.joining.specs.declared.Arena.{Arena}
use Rattle.joining.specs.declared.NodeRows.{NodeRows}
use Rattle.joining.specs.Buffers as B
use Rattle.joining.specs.Buffers.{rows_held}
use Rattle.joining.specs.Links.{ChildrenAre}
use Rattle.joining.specs.Store.{Columns, columns_of, row_at, node_from, node_of, nodes_of, SizedRows, Keeps}
use Rattle.joining.proofs.Reading.{length_upto, get_or-upto}
use Rattle.tables.specs.Nodes.{Packs, Unpackable}
use Rattle.tables.specs.Held.{tree_in, TreeIn}
use Rattle.global_router.specs.declared.GlobalRoutingTree.{GlobalRoutingTree}
use Rattle.global_router.specs.Stored as M
use Rattle.global_router.specs.Stored.{tree_of, counts_of, stored, Stored}
use Rattle.global_router.proofs.Packed.{upto_same}

-- ---- columns whose chains end keep the nodes that are read in them
module _ (c : Columns) (n : ℕ) (chains : (p : ℕ) → p < n → Chained c.prev (get_or c.last p 0)) where
  node_at_lem : (i : ℕ) → i < length (nodes_of c n) → node_at (nodes_of c n) i ≡ node_of c i
  unfolding node_at
  node_at_lem i h = get_or-upto (node_of c) blank n i (omega (arith, length_upto (node_of c) n))

  keeps_read : Keeps (nodes_of c n) c
  keeps_read =
      record {
        rows = λ i h. node_at_lem i h ∙ ap (λ (x : Node). node_from (row_at c.rows i) x.children) (sym (node_at_lem i h));
        children = λ p h. subst (λ (x : Node). ChildrenAre c.last c.prev p x.children) (sym (node_at_lem p h)) (own p (omega (arith, length_upto (node_of c) n)));
      }
    where
      own : (p : ℕ) → p < n → ChildrenAre c.last c.prev p (reverse (chain c.prev (get_or c.last p 0)))
      own p h = subst (Chain c.prev (get_or c.last p 0)) (sym (reverse-reverse (chain c.prev (get_or c.last p 0)))) (chains p h).is

module _ (g : GlobalRoutingTree) where
  abbrev v : Stored g
  v = stored g

  -- ---- each node can be kept in a row
  size : length (tree_of g).nodes ≡ g.count
  size = length_upto (M.node_stored g) g.count

  no_parent : (i : ℕ) → i < g.count → (M.node_stored g i).parent ≡ at no_node → ⊥
  unfolding node_at
  no_parent i h e =
      let is : node_at (tree_of g).nodes i ≡ M.node_stored g i = get_or-upto (M.node_stored g) blank g.count i h in
      omega (arith, size, v.few, parent_in_lem v.formed.linked i no_node (ap (λ (x : Node). x.parent) is ∙ e))

  pub unpackable : Unpackable g.nodes g.count
  unpackable =
      record {
        size = v.nodes;
        few = v.few;
        plain = λ i h. record { parent = no_parent i h; capacitance = (v.figures i h).0; delay = (v.figures i h).1 };
      }

  -- ---- as the code makes it, with the allowance as the code reads it back
  module _ (r : NodeRows) (packs : Packs (rows_held r) g.count g.nodes) (sized : SizedRows most_nodes (rows_held r)) where
    abbrev arena : Arena
    arena = record { nodes = r; links = g.links; counts = counts_of g }

    abbrev kept : Columns
    kept = columns_of (B.stored arena)

    nodes-same : nodes_of kept g.count ≡ (tree_of g).nodes
    nodes-same = upto_same (node_of kept) (M.node_stored g) g.count (λ i h. sym (packs.is i h _))

    unpacked_is : tree_in arena g.worst_wirelength g.allowed g.farthest ≡ tree_of g
    unpacked_is =
        λ i. record {
          nodes = nodes-same i;
          allowed = g.allowed;
          farthest = g.farthest;
          limit = g.worst_wirelength;
          next_steiner = g.next_steiner_id.0;
          next_terminal = g.next_terminal_id.0;
        }

    unpacked-kept : TreeIn arena g.worst_wirelength g.allowed g.farthest
    unpacked-kept =
        record {
          formed = subst WellFormed (sym unpacked_is) v.formed;
          keeps = keeps_read kept g.count v.chains;
          sized = record { rows = sized; last = v.last; prev = v.prev; few = omega arith };
          back = v.back;
          few = v.few;
          steiners = v.steiners;
          limit-small = v.limit-small;
          farthest-small = v.farthest-small;
        }

    pub unpacked : In32 g.allowed → (tree_in arena g.worst_wirelength (back g.allowed) g.farthest ≡ tree_of g) × TreeIn arena g.worst_wirelength (back g.allowed) g.farthest
    unpacked f = subst (λ (z : ℤ). (tree_in arena g.worst_wirelength z g.farthest ≡ tree_of g) × TreeIn arena g.worst_wirelength z g.farthest) (sym (home f)) (unpacked_is, unpacked-kept)
