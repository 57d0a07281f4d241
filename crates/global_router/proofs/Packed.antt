-- A table's tree, packed into nodes: it is the same tree, and what the table shows holds of it.
use Rattle.std.proofs.Common.{ℕ, zero, suc, ◌<◌, ◌≡◌, refl, sym, ap, subst, List, [], ◌∷◌, ◌++◌, arith, length, get_or, ℤ}
use Rattle.geometry.specs.Signed.{In32, back, home}
use Rattle.tree.specs.Limits.{most_nodes}
use Rattle.tree.specs.Tree.{Node, Tree}
use Rattle.tree.specs.WellFormed.{WellFormed}
use Rattle.tree.specs.declared.RoutingNode.{RoutingNode}
use Rattle.tree.proofs.Climbing.{reaches}
use Rattle.search.specs.Columns.{Chain, Chained}
use Rattle.joining.specs.Store.{node_of, up_to}
use Rattle.joining.proofs.Reading.{children_are}
use Rattle.tables.proofs.TableSizes.{size, few}
use Rattle.tables.specs.Nodes.{Packs}
use Rattle.tables.specs.declared.Table.{Table}
use Rattle.tables.specs.Table.{table_columns, table_links, table_tree, tabled, Tabled}
use Rattle.global_router.specs.Held.{node_held, counts_held, tree_held, StoredIn}

pub upto_same : (f g : ℕ → Node) (n : ℕ) → ((i : ℕ) → i < n → f i ≡ g i) → up_to f n ≡ up_to g n
unfolding up_to
upto_same f g zero h = refl
upto_same f g (suc n) h = λ i. upto_same f g n (λ k l. h k (omega arith)) i ++ (h n (omega arith) i ∷ [])

module _ (t : Table) (nodes : List RoutingNode) (packs : Packs (table_columns t).rows t.arena.counts.nodes nodes) where
  -- with the allowance as the code reads it back
  abbrev tree : ℤ → Tree
  tree allowed = tree_held nodes t.arena.links (counts_held t.arena.counts.nodes t.arena.counts.steiner t.arena.counts.terminal) t.limit allowed t.farthest

  abbrev Shown : ℤ → Type 0
  Shown allowed = StoredIn nodes t.arena.links (counts_held t.arena.counts.nodes t.arena.counts.steiner t.arena.counts.terminal) t.limit allowed t.farthest

  abbrev v : Tabled t
  v = tabled t

  nodes-same : (tree t.allowed).nodes ≡ (table_tree t).nodes
  nodes-same = upto_same (node_held nodes t.arena.links) (node_of (table_columns t)) t.arena.counts.nodes (λ i h. packs.is i h _)

  packed_is : tree t.allowed ≡ table_tree t
  packed_is =
      λ i. record {
        nodes = nodes-same i;
        allowed = t.allowed;
        farthest = t.farthest;
        limit = t.limit;
        next_steiner = t.arena.counts.steiner.0;
        next_terminal = t.arena.counts.terminal.0;
      }

  formed : WellFormed (tree t.allowed)
  formed = subst WellFormed (sym packed_is) v.formed

  chains : (p : ℕ) → p < t.arena.counts.nodes → Chained (table_links t).prev (get_or (table_links t).last p 0)
  chains p h =
      let l : p < length (table_tree t).nodes = omega (arith, size t) in
      record {
        is = subst (Chain (table_links t).prev (get_or (table_links t).last p 0)) (sym (children_are (table_tree t) v.formed (few t) most_nodes (table_columns t) v.sized v.keeps (few t) p l)) (v.keeps.children p l);
      }

  packed-stored : Shown t.allowed
  packed-stored =
      record {
        formed = formed;
        to_source = reaches formed.linked;
        few = v.few;
        steiners = v.steiners;
        limit-small = v.limit-small;
        farthest-small = v.farthest-small;
        figures = λ i h. (ap (λ (x : Node). x.capacitance) (packs.is i h []), ap (λ (x : Node). x.delay) (packs.is i h []));
        nodes = packs.size;
        last = v.sized.last;
        prev = v.sized.prev;
        back = v.back;
        chains = chains;
      }

  pub packed : In32 t.allowed → (tree (back t.allowed) ≡ table_tree t) × Shown (back t.allowed)
  packed f = subst (λ (z : ℤ). (tree z ≡ table_tree t) × Shown z) (sym (home f)) (packed_is, packed-stored)
