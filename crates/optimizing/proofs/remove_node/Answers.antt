-- `optimizing::remove_node`: the child takes the node's place at the parent, and the columns close up.
use Rattle.std.proofs.Common.{ℕ, ◌≡◌, ◌<◌, Option, Some, get_or, arith, ap, sym, subst, refl, ◌∙◌}
use Rattle.std.specs.Prelude.{IsSome}
use Rattle.tree.specs.Limits.{most_nodes}
use Rattle.tree.specs.declared.NodeIndex.{NodeIndex}
use Rattle.joining.specs.declared.Arena.{Arena}
use Rattle.joining.specs.declared.Counts.{Counts}
use Rattle.joining.specs.Links.{Links}
use Rattle.joining.specs.Store.{Rows, Store, store, index_from}
use Rattle.joining.specs.Buffers.{column, links_in, stored}
use Rattle.joining.proofs.Blocks.{column-most}
use Rattle.removing.specs.Store.{Bypassable, StoreClosed, one_fewer}
use Rattle.removing.proofs.Testing.{index_is, index_given}
use Rattle.joining.specs.Standing.{Stands}
use Rattle.optimizing.specs.Removal.{LoneIn}
use Rattle.optimizing.proofs.Tidying.{in_columns, may_bypass, may_close, did_remove}
use Rattle.optimizing.proofs.remove_node.Goals as goal

module _ (a : Arena) (i : NodeIndex) (v : Stands (LoneIn i.0) a.counts (stored a)) where
  in_most : i.0 < most_nodes
  in_most = omega (arith, in_columns v, column-most 0 a.nodes.points)

  b : Bypassable i.0 (get_or (column 0 a.nodes.marks) i.0 0) (get_or (column 0 a.links) i.0 0) (column 0 a.nodes.marks) (links_in a.links)
  b = may_bypass i.0 a.counts (stored a) v _ _ refl refl

  -- what is read of node i, whose index is x
  module _ {x : ℕ} (e : x ≡ i.0) where
    above : {r : Option NodeIndex} → r ≡ index_from (get_or (column 0 a.nodes.marks) x 0) → r ≡ index_from (get_or (column 0 a.nodes.marks) i.0 0)
    above h = h ∙ ap (λ (y : ℕ). index_from (get_or (column 0 a.nodes.marks) y 0)) e

    below : {r : Option NodeIndex} → r ≡ index_from (get_or (column 0 a.links) x 0) → r ≡ index_from (get_or (column 0 a.links) i.0 0)
    below h = h ∙ ap (λ (y : ℕ). index_from (get_or (column 0 a.links) y 0)) e

    has_parent : {r : Option NodeIndex} → r ≡ index_from (get_or (column 0 a.nodes.marks) x 0) → IsSome r
    has_parent h = index_given _ (omega (arith, b.in_p, column-most 0 a.nodes.marks)) (above h)

    has_child : {r : Option NodeIndex} → r ≡ index_from (get_or (column 0 a.links) x 0) → IsSome r
    has_child h = index_given _ (omega (arith, b.in_c, column-most 0 a.nodes.marks)) (below h)

    parent_is : {r : Option NodeIndex} (p : NodeIndex) → r ≡ index_from (get_or (column 0 a.nodes.marks) x 0) → r ≡ Some p → p.0 ≡ get_or (column 0 a.nodes.marks) i.0 0
    parent_is p h k = index_is _ (sym k ∙ above h)

    child_is : {r : Option NodeIndex} (c : NodeIndex) → r ≡ index_from (get_or (column 0 a.links) x 0) → r ≡ Some c → c.0 ≡ get_or (column 0 a.links) i.0 0
    child_is c h k = index_is _ (sym k ∙ below h)

closed_from : {n i : ℕ} {r r' : Rows} {l : Links} {s : Store} → r ≡ r' → StoreClosed n i (store r l) s → StoreClosed n i (store r' l) s
closed_from {n = n} {i = i} {l = l} {s = s} e h = subst (λ (x : Rows). StoreClosed n i (store x l) s) e h

pub parent_at-requires : goal.parent_at-requires
parent_at-requires c = omega (arith, c.from-at.ensures, in_most c.args.arena.now c.args.i c.requires)

pub unwrap-p-requires : goal.unwrap-p-requires
unwrap-p-requires c = has_parent c.args.arena.now c.args.i c.requires c.from-at.ensures c.parent_at.ensures

pub last_child-requires : goal.last_child-requires
last_child-requires c = omega (arith, c.from-at.ensures, in_most c.args.arena.now c.args.i c.requires)

pub unwrap-c-requires : goal.unwrap-c-requires
unwrap-c-requires c = has_child c.args.arena.now c.args.i c.requires c.from-at.ensures c.last_child.ensures

pub bypass-requires : goal.bypass-requires
bypass-requires c =
    let p = parent_is c.args.arena.now c.args.i c.requires c.from-at.ensures c.unwrap-p.result c.parent_at.ensures c.unwrap-p.ensures in
    let d = child_is c.args.arena.now c.args.i c.requires c.from-at.ensures c.unwrap-c.result c.last_child.ensures c.unwrap-c.ensures in
    let b = may_bypass c.args.i.0 _ (stored c.args.arena.now) c.requires _ _ p d in
    record { sized = b.sized; in_i = b.in_i; in_p = b.in_p; in_c = omega (arith, b.in_i, b.in_c); linked = b.linked; has = b.has; backed = b.backed }

pub close_up-requires : goal.close_up-requires
close_up-requires c =
    let a = c.args.arena.now in
    let p = parent_is c.args.arena.now c.args.i c.requires c.from-at.ensures c.unwrap-p.result c.parent_at.ensures c.unwrap-p.ensures in
    let d = child_is c.args.arena.now c.args.i c.requires c.from-at.ensures c.unwrap-c.result c.last_child.ensures c.unwrap-c.ensures in
    let w = may_close c.args.i.0 a.counts (stored a) c.requires _ _ p d _ (ap (λ (k : Counts). k.nodes) c.bypass.ensures.counts) in
    (w.0, omega (arith, w.1, column-most 0 a.nodes.points))

pub returns : goal.returns
returns c =
    let a = c.args.arena.now in
    let o = c.bypass.ensures in
    let p = parent_is c.args.arena.now c.args.i c.requires c.from-at.ensures c.unwrap-p.result c.parent_at.ensures c.unwrap-p.ensures in
    let d = child_is c.args.arena.now c.args.i c.requires c.from-at.ensures c.unwrap-c.result c.last_child.ensures c.unwrap-c.ensures in
    did_remove c.args.i.0 a.counts (stored a) c.requires _ _ p d _ _ (record { links = o.links; parents = refl }) _ (ap (λ (k : Counts). k.nodes) o.counts) _
    (closed_from o.rows c.close_up.ensures.closed) _ (c.close_up.ensures.counts ∙ ap one_fewer o.counts)
