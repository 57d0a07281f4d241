-- In a table's arena a tree stands.
use Rattle.std.proofs.Common.{refl, sym, subst, ℕ, arith}
use Rattle.tree.specs.Limits.{most_nodes}
use Rattle.tree.specs.Tree.{Tree}
use Rattle.joining.specs.Store.{SizedStore}
use Rattle.joining.specs.Standing.{Stores, Stands}
use Rattle.joining.proofs.Reading.{backs_of}
use Rattle.tables.specs.declared.Table.{Table}
use Rattle.tables.specs.Table.{table_columns, table_links, table_store, table_tree, Tabled, tabled}
use Rattle.tables.proofs.TableSizes.{size, few}

module _ (t : Table) where
  v : Tabled t
  v = tabled t

  pub stores : Stores (table_tree t) t.arena.counts (table_store t)
  stores =
      record {
        size = size t;
        steiner = refl;
        terminal = refl;
        keeps = v.keeps;
        backs = backs_of (table_tree t) v.formed (few t) most_nodes (table_columns t) v.sized v.keeps (few t) (table_links t).next (λ p h. v.back.agree p (omega (arith, size t)));
      }

  sized : SizedStore most_nodes (table_store t)
  sized = record { rows = v.sized.rows; links = record { last = v.sized.last; prev = v.sized.prev; next = v.back.size; few = v.sized.few } }

  pub stands : (When : Tree → Type 0) → When (table_tree t) → Stands When t.arena.counts (table_store t)
  stands When h =
      record {
        tree = table_tree t;
        formed = v.formed;
        stores = stores;
        when = h;
        sized = subst (λ (m : ℕ). SizedStore m (table_store t)) (sym v.sized.rows.xs) sized;
        fits = omega (arith, v.few, v.sized.rows.xs);
      }
