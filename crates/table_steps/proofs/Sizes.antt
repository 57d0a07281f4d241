-- How many nodes there are after a step, and which Steiner number comes next: no more than the limits allow, where there was room.
use Rattle.std.proofs.Common.{ℕ, suc, ◌+◌, ◌≤◌, ◌<◌, ◌≡◌, refl, [], ◌∷◌, arith, length}
use Rattle.geometry.specs.declared.Point.{Point}
use Rattle.geometry.specs.Geometry.{dist}
use Rattle.tree.specs.Tree.{Tree, Name, source, steiner, terminal, at, node_at}
use Rattle.tree.specs.Search.{Join, onto, split}
use Rattle.tree.specs.Route.{new_node, joined, join, next_after, steiner_after, attached}
use Rattle.tree.specs.Edits.{Next, spliced}
use Rattle.tree.specs.WellFormed.{WellFormed, Fits, new_nodes}
use Rattle.tree.proofs.Nodes.{length-attach, length-split}
use Rattle.tree.proofs.Linking.{child_in, parent_in_lem, not_own}
use Rattle.tree.proofs.Splicing.{adds_splice}
use Rattle.tables.specs.declared.Table.{Table}
use Rattle.table_steps.specs.Steps.{steiner_in, new_number, NumberedTo}

module _ (t : Tree) (f : WellFormed t) where
  pub one_leaf : (n : Name) (q : Point) (p : ℕ) → p < length t.nodes → length (attached t n q p).nodes ≡ suc (length t.nodes)
  one_leaf n q p h = length-attach t.nodes p (new_node n p q [] 0) h

  pub one-between : (n : Name) (q : Point) (p c : ℕ) → (node_at t.nodes c).parent ≡ at p → length (spliced t n q p c).nodes ≡ suc (length t.nodes)
  one-between n q p c h = (adds_splice t.nodes p c (new_node n p q (c ∷ []) 0) f.linked h refl refl).long

  pub number-after : (n : Name) → Next t.next_steiner t.next_terminal n → (m : ℕ) → t.next_steiner ≤ m + 1 → NumberedTo m (steiner_in n) → steiner_after n t.next_steiner ≤ m + 1
  number-after source h m l r = l
  number-after (steiner k) h m l r = omega (arith, h, r)
  number-after (terminal k) h m l r = l

  pub joined-size : (q : Point) (j : Join) → Fits t.nodes j → length (join t q j).nodes ≡ length t.nodes + new_nodes j
  unfolding joined
  joined-size q (onto p) h = omega (arith, length-attach t.nodes p (new_node (terminal t.next_terminal) p q [] ((node_at t.nodes p).path + dist (node_at t.nodes p).point q)) h)
  joined-size q (split p c) h = omega (arith, length-split t.nodes t.next_steiner t.next_terminal q p c (parent_in_lem f.linked c p h) (child_in f.linked c p h) (not_own f.linked c p h))

-- the next Steiner number after a joining
pub joined_number : (t : Table) (j : Join) (m : ℕ) → t.arena.counts.steiner.0 ≤ m + 1 → NumberedTo m (new_number t.arena.counts j) → next_after t.arena.counts.steiner.0 j ≤ m + 1
joined_number t (onto p) m l r = l
joined_number t (split p c) m l r = omega (arith, r)
