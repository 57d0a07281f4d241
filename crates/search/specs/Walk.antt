-- The walk over the nodes: what it reads of a node, its stack, and when it is safe.
use Rattle.std.proofs.Math.ListN.{length}
use Rattle.std.specs.Prelude.{ℕ, zero, suc, ◌+◌, ◌≤◌, ◌<◌, max, ◌≡◌, false, cond, get_or, eqb, Option, None, Some, ℤ, List, [], ◌∷◌}
use Rattle.geometry.specs.declared.Rectangle.{Rectangle}
use Rattle.tree.specs.declared.NodeIndex.{NodeIndex}
use Rattle.tree.specs.Limits.{no_node}
use Rattle.tree.specs.Memory.{point_at}
use Rattle.search.specs.declared.Join.TheVariants.{Onto}
use Rattle.search.specs.declared.Best.{Best}
use Rattle.search.specs.declared.Query.{Query}
use Rattle.search.specs.declared.NodeView.{NodeView}
use Rattle.search.specs.declared.Examined.{Examined}
use Rattle.search.specs.declared.NodeColumns.{NodeColumns}
use Rattle.search.specs.Branch.{examine_branch}

-- ---- columns
abbrev pub node_index : ℕ → NodeIndex
node_index i = record { 0 = i }

-- the node that a column's number names, and the number for it
abbrev pub index_from : ℕ → Option NodeIndex
index_from i = cond (eqb i no_node) None (Some (node_index i))

abbrev pub link_in : Option NodeIndex → ℕ
link_in None = no_node
link_in (Some i) = i.0

abbrev pub view_at : List ℤ → List ℤ → List ℕ → ℕ → NodeView
view_at xs ys path i = record { node = node_index i; point = point_at xs ys i; path = get_or path i 0 }

abbrev pub view_in : NodeColumns → ℕ → NodeView
view_in v = view_at v.xs.now v.ys.now v.path.now

-- ---- the walk
pub record Walk : Type 0 where
  pub found : Best
  pub stack : List ℕ

abbrev pub start : Query → Best
start a = record { join = Onto (node_index 0); best = max a.limit 1; within = false }

module _ (ks : List Rectangle) (a : Query) (view : ℕ → NodeView) where
  -- a step's outcome on the stack
  abbrev pub after_branch : Examined → ℕ → List ℕ → Walk
  after_branch s c l = record { found = s.found; stack = cond s.pushed (c ∷ l) l }

  unfoldable pub examine_children : NodeView → List ℕ → Walk → Walk
  examine_children P [] e = e
  examine_children P (c ∷ cs) e = examine_children P cs (after_branch (examine_branch ks a P (view c) e.found) c e.stack)

  module _ (children : ℕ → List ℕ) where
    unfoldable pub walk : ℕ → List ℕ → Best → Best
    unfolding examine_children
    walk zero stack b = b
    walk (suc k) [] b = b
    walk (suc k) (p ∷ rest) b =
        let e = examine_children (view p) (children p) (record { found = b; stack = rest }) in
        walk k e.stack e.found

    -- how many branches it examines
    unfoldable pub looks : ℕ → List ℕ → Best → ℕ
    unfolding examine_children
    looks zero stack b = 0
    looks (suc k) [] b = 0
    looks (suc k) (p ∷ rest) b =
        let e = examine_children (view p) (children p) (record { found = b; stack = rest }) in
        length (children p) + looks k e.stack e.found

    -- the walk meets nodes below n, never has more than room nodes on the stack, and its fuel empties the stack
    unfoldable pub Safe : (n room : ℕ) → ℕ → List ℕ → Best → Type 0
    unfolding examine_children
    Safe n room zero stack b = stack ≡ []
    Safe n room (suc k) [] b = Unit {0}
    Safe n room (suc k) (p ∷ rest) b =
        let e = examine_children (view p) (children p) (record { found = b; stack = rest }) in
        (p < n) × ((length rest + length (children p) ≤ room) × Safe n room k e.stack e.found)
