-- From a step on an arena to a step of a table: a tree stands in the table's arena before the step, and in the arena that the step leaves.
use Rattle.std.proofs.Common.{ℕ, ◌+◌, ◌≤◌, ◌≡◌, sym, ap, subst, ◌∙◌, arith, length, ℤ}
use Rattle.geometry.specs.declared.Point.{Point}
use Rattle.geometry.specs.Laws.{Within}
use Rattle.tree.specs.Limits.{most_nodes, reach}
use Rattle.tree.specs.Tree.{Tree}
use Rattle.tree.specs.WellFormed.{WellFormed}
use Rattle.joining.specs.declared.Arena.{Arena}
use Rattle.joining.specs.Store.{Columns, columns_of, nodes_of, SizedStore, Keeps}
use Rattle.joining.specs.Buffers.{stored}
use Rattle.joining.specs.Standing.{Stores, Standing, Grows, Became}
use Rattle.joining.proofs.Reading.{nodes_are, backed_of, sized-columns}
use Rattle.tables.specs.declared.Table.{Table}
use Rattle.tables.specs.Held.{tree_in, TreeIn}
use Rattle.tables.specs.Table.{table_store, table_tree, Tabled, tabled}
use Rattle.tables.proofs.Standing.{stores, stands}
use Rattle.table_steps.specs.Steps.{Stepped}

-- in the arena a stands the tree after the step, where the table's figures stay; so any table of these is one
pub record Steps (step : Tree → Tree) (t : Table) (a : Arena) : Type 0 where
  pub held : ∥ TreeIn a t.limit t.allowed t.farthest ∥₁
  pub is : (s : ∥ TreeIn a t.limit t.allowed t.farthest ∥₁) → Stepped step t (record { arena = a; limit = t.limit; allowed = t.allowed; farthest = t.farthest; stands = s })

module _ (t : Table) where
  v : Tabled t
  v = tabled t

  -- ---- before
  pub ready : (When : Tree → Type 0) (more : ℕ) (q : Point) → When (table_tree t) → t.arena.counts.nodes + more ≤ most_nodes → Within reach q → Standing When more q t.arena.counts (table_store t)
  ready When more q h room near =
      record { stands = stands t When h; room = omega (arith, room, v.sized.rows.xs); small = v.few; steiner = omega (arith, v.steiners); within = near }

  -- ---- after
  module _ (When : Tree → Type 0) (w : When (table_tree t)) (step : Tree → Tree) (f : WellFormed (step (table_tree t)))
      (low : length (step (table_tree t)).nodes ≤ most_nodes) (numbers : (step (table_tree t)).next_steiner ≤ most_nodes + 1) where
    -- of an arena, and figures beside it
    module _ (a : Arena) (g : Became (Grows When step) t.arena a) where
      s : Stores (step (table_tree t)) a.counts (stored a)
      s = g.stores (table_tree t) v.formed w (stores t)

      z : SizedStore most_nodes (stored a)
      z = subst (λ (m : ℕ). SizedStore m (stored a)) v.sized.rows.xs g.sized

      abbrev c : Columns
      c = columns_of (stored a)

      is : (limit : ℕ) (allowed : ℤ) (farthest : ℕ)
          → allowed ≡ (step (table_tree t)).allowed → farthest ≡ (step (table_tree t)).farthest → limit ≡ (step (table_tree t)).limit
          → tree_in a limit allowed farthest ≡ step (table_tree t)
      is limit allowed farthest ea ef el =
          λ i. record {
            nodes =
                (ap (nodes_of c) (sym s.size)
                ∙ nodes_are (step (table_tree t)) f low most_nodes c (sized-columns z) s.keeps low) i;
            allowed = ea i;
            farthest = ef i;
            limit = el i;
            next_steiner = sym s.steiner i;
            next_terminal = sym s.terminal i;
          }

    -- where the table's own figures stay
    pub stepping : (a : Arena) → Became (Grows When step) t.arena a → t.allowed ≡ (step (table_tree t)).allowed → t.farthest ≡ (step (table_tree t)).farthest
        → t.limit ≡ (step (table_tree t)).limit → Steps step t a
    stepping a g ea ef el =
        record {
          is = λ s. record { is = is a g t.limit t.allowed t.farthest ea ef el };
          held =
              ∣ record {
                formed = subst WellFormed (sym (is a g t.limit t.allowed t.farthest ea ef el)) f;
                keeps = subst (λ (x : Tree). Keeps x.nodes (c a g)) (sym (is a g t.limit t.allowed t.farthest ea ef el)) (s a g).keeps;
                sized = sized-columns (z a g);
                back =
                    record {
                      size = (z a g).links.next;
                      agree = λ p h. backed_of (step (table_tree t)) f low most_nodes (c a g) (sized-columns (z a g)) (s a g).keeps low (stored a).links.next (s a g).backs p (omega (arith, (s a g).size));
                    };
                few = omega (arith, (s a g).size, low);
                steiners = omega (arith, (s a g).steiner, numbers);
                limit-small = v.limit-small;
                farthest-small = v.farthest-small;
              } ∣₁;
        }

    -- a table whose arena is so, and whose figures are those of the step
    pub stepped : (r : Table) → Became (Grows When step) t.arena r.arena → r.allowed ≡ (step (table_tree t)).allowed → r.farthest ≡ (step (table_tree t)).farthest
        → r.limit ≡ (step (table_tree t)).limit → Stepped step t r
    stepped r g ea ef el = record { is = is r.arena g r.limit r.allowed r.farthest ea ef el }
