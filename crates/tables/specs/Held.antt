-- The tree that stands in an arena beside its figures, and when they keep it.
use Rattle.std.specs.Prelude.{ℕ, ◌+◌, ◌≤◌, ℤ}
use Rattle.std.specs.Coded.{le_prop}
use Rattle.std.proofs.Math.Logic.{∥∥₁_elim, ∥∥₁_map}
use Rattle.tree.specs.Limits.{across, most_nodes, no_limit}
use Rattle.tree.specs.Tree.{Tree}
use Rattle.tree.specs.WellFormed.{WellFormed}
use Rattle.tree.proofs.Merely.{formed_of}
use Rattle.joining.specs.declared.Arena.{Arena}
use Rattle.joining.specs.Links.{LinkedBack}
use Rattle.joining.specs.Store.{columns_of, nodes_of, Sized, Keeps}
use Rattle.joining.specs.Buffers.{links_in, stored}
use Rattle.joining.proofs.Merely.{back_of, keeps_of, sized_of}

abbrev pub tree_in : Arena → ℕ → ℤ → ℕ → Tree
tree_in a limit allowed farthest =
    record {
      nodes = nodes_of (columns_of (stored a)) a.counts.nodes;
      allowed = allowed;
      farthest = farthest;
      limit = limit;
      next_steiner = a.counts.steiner.0;
      next_terminal = a.counts.terminal.0;
    }

-- a well-formed tree in memory, within the limits
pub record TreeIn (a : Arena) (limit : ℕ) (allowed : ℤ) (farthest : ℕ) : Type 0 where
  pub formed : WellFormed (tree_in a limit allowed farthest)
  pub keeps : Keeps (tree_in a limit allowed farthest).nodes (columns_of (stored a))
  pub sized : Sized most_nodes (columns_of (stored a))
  pub back : LinkedBack most_nodes a.counts.nodes (links_in a.links)
  pub few : a.counts.nodes ≤ most_nodes
  pub steiners : a.counts.steiner.0 ≤ most_nodes + 1
  pub limit-small : limit ≤ no_limit
  pub farthest-small : farthest ≤ across

-- what a table's ghost field says is that one merely holds; nothing is lost by that
pub held_of : {a : Arena} {limit : ℕ} {allowed : ℤ} {farthest : ℕ} → ∥ TreeIn a limit allowed farthest ∥₁ → TreeIn a limit allowed farthest
held_of m =
    record {
      formed = formed_of _ (∥∥₁_map m (λ h. h.formed));
      keeps = keeps_of (∥∥₁_map m (λ h. h.keeps));
      sized = sized_of (∥∥₁_map m (λ h. h.sized));
      back = back_of (∥∥₁_map m (λ h. h.back));
      few = ∥∥₁_elim m le_prop (λ h. h.few);
      steiners = ∥∥₁_elim m le_prop (λ h. h.steiners);
      limit-small = ∥∥₁_elim m le_prop (λ h. h.limit-small);
      farthest-small = ∥∥₁_elim m le_prop (λ h. h.farthest-small);
    }
