-- A leaf: what the code needs of a tree that stands in the columns, and that the tree with the leaf stands there after it.
use Rattle.std.proofs.Common.{ℕ, ◌<◌, ◌≡◌, sym, subst, [], arith, length}
use Rattle.geometry.specs.declared.Point.{Point}
use Rattle.tree.specs.Memory.{name_in}
use Rattle.tree.specs.declared.NodeName.{NodeName}
use Rattle.tree.specs.Route.{new_node}
use Rattle.joining.specs.declared.Counts.{Counts}
use Rattle.joining.specs.declared.Row.{Row}
use Rattle.joining.specs.Store.{Store}
use Rattle.joining.specs.Join.{Attachable, RowAttached}
use Rattle.joining.specs.Standing.{Standing}
use Rattle.joining.proofs.Growing.{stores-attach, sized-attach_in}
use Rattle.joining.proofs.Placing.{may_attach}
use Rattle.hand_inserts.specs.Insert.{new_row, counts_after, Below, LeafInserted}
use Rattle.hand_inserts.proofs.Naming.{row_new, counts-one}

module _ (n : NodeName) (p : ℕ) {q : Point} {k : Counts} {c : Store} (v : Standing (Below (name_in n) p) 1 q k c) (row : Row) (er : row ≡ new_row n q p) where
  pub may_leaf : (i : ℕ) → i < length c.rows.xs → Attachable c i row.parent.0
  may_leaf i h = subst (λ (x : Row). Attachable c i x.parent.0) (sym er) (record { sized = v.stands.sized; room = h; at = (may_attach v (omega arith) p v.stands.when.0).at })

  pub did_leaf : (c' : Store) → RowAttached c k.nodes row c' → (r : Counts) → r ≡ counts_after (name_in n) k → LeafInserted (name_in n) q p k c r c'
  did_leaf c' o₀ r ek =
      let o : RowAttached c k.nodes (new_row n q p) c' = subst (λ (x : Row). RowAttached c k.nodes x c') er o₀ in
      record {
        stores = λ t f h s.
            stores-attach t f k c s _ v.stands.sized (omega (arith, v.room)) p h.0 (new_node (name_in n) p q [] 0) _ c' o.rows o.links
            (row_new n q p [] (omega (arith, h.0, s.size, v.room, v.stands.sized.links.few))) r (counts-one (name_in n) k r ek);
        sized = sized-attach_in v.stands.tree v.stands.formed k c v.stands.stores _ v.stands.sized (omega (arith, v.room)) p v.stands.when.0 (new_node (name_in n) p q [] 0) _ c' o.rows o.links
            (row_new n q p [] (omega (arith, v.stands.when.0, v.stands.stores.size, v.room, v.stands.sized.links.few)));
      }
