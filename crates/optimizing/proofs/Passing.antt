-- The loop over all nodes, from the highest index down: its start, a turn, its end. The idea: what is left of the pass, over the nodes that stand in the
-- columns, gives the optimized nodes, whatever tree stood there at first.
use Rattle.std.proofs.Common.{ℕ, suc, ◌+◌, ◌≤◌, ◌≡◌, refl, ap, sym, subst, ◌∙◌, Bool, true, false, cond, List, arith, add-one, length}
use Rattle.tree.specs.Tree.{Node, Tree}
use Rattle.tree.specs.WellFormed.{WellFormed}
use Rattle.tree.specs.Optimize.{lone, remove, optimized, with_nodes}
use Rattle.tree.proofs.Removing.{formed-remove, removed}
use Rattle.tree.proofs.Optimizing.{pass, pass_optimized}
use Rattle.joining.specs.declared.Counts.{Counts}
use Rattle.joining.specs.Store.{Store, SizedStore}
use Rattle.joining.specs.Standing.{Stores, Stands, Anything}
use Rattle.optimizing.specs.Removal.{NodeIn, tidied, Tidied, Optimized}

-- ---- one node
formed-tidied : (i : ℕ) (t : Tree) → WellFormed t → WellFormed (with_nodes t (tidied i t.nodes))
unfolding tidied
formed-tidied i t f = by (lone t.nodes i) refl
  where
    by : (b : Bool) → lone t.nodes i ≡ b → WellFormed (with_nodes t (cond b (remove i t.nodes) t.nodes))
    by true e = formed-remove t f i e
    by false e = f

-- no more than one goes
size-tidied : (i : ℕ) (t : Tree) → WellFormed t → (length (tidied i t.nodes) ≤ length t.nodes) × (length t.nodes ≤ suc (length (tidied i t.nodes)))
unfolding tidied
size-tidied i t f = by (lone t.nodes i) refl
  where
    by : (b : Bool) → lone t.nodes i ≡ b
        → (length (cond b (remove i t.nodes) t.nodes) ≤ length t.nodes) × (length t.nodes ≤ suc (length (cond b (remove i t.nodes) t.nodes)))
    by true e = (omega (arith, removed t f i e), omega (arith, removed t f i e))
    by false e = (omega arith, omega arith)

-- ---- the loop
-- of the tree t these nodes are left, and the nodes below i are yet to be asked
pub record Passed (t : Tree) (i : ℕ) (k : Counts) (s : Store) : Type 0 where
  pub nodes : List Node
  pub formed : WellFormed (with_nodes t nodes)
  pub stores : Stores (with_nodes t nodes) k s
  pub rest : pass i nodes ≡ optimized t.nodes

-- so of whatever tree stood there
pub record Under (k₀ : Counts) (s₀ : Store) (i : ℕ) (k : Counts) (s : Store) : Type 0 where
  pub low : i ≤ k.nodes
  pub room : k.nodes ≤ length s₀.rows.xs
  pub sized : SizedStore (length s₀.rows.xs) s
  pub passed : (t : Tree) → WellFormed t → Stores t k₀ s₀ → Passed t i k s

module _ (k₀ : Counts) (s₀ : Store) (v : Stands Anything k₀ s₀) where
  pub starts : Under k₀ s₀ k₀.nodes k₀ s₀
  starts =
      record {
        low = omega arith;
        room = v.fits;
        sized = v.sized;
        passed = λ t f st. record {
          nodes = t.nodes;
          formed = f;
          stores = st;
          rest = ap (λ (n : ℕ). pass n t.nodes) (sym st.size) ∙ pass_optimized t.nodes f.linked;
        };
      }

  module _ (i : ℕ) (k : Counts) (s : Store) (u : Under k₀ s₀ i k s) where
    abbrev now : Passed v.tree i k s
    now = u.passed v.tree v.formed v.stores

    module _ (j : ℕ) (e : j + 1 ≡ i) where
      pub stands : Stands (NodeIn j) k s
      stands =
          record {
            tree = with_nodes v.tree now.nodes;
            formed = now.formed;
            stores = now.stores;
            when = omega (arith, now.stores.size, u.low);
            sized = subst (λ (n : ℕ). SizedStore n s) (sym u.sized.rows.xs) u.sized;
            fits = omega (arith, u.room, u.sized.rows.xs);
          }

      pub turn : (r : Counts) (s' : Store) → Tidied j k s r s' → Under k₀ s₀ j r s'
      unfolding pass tidied
      turn r s' o =
          record {
            low = omega (arith, (after now).size, (size-tidied j _ now.formed).1, now.stores.size, u.low);
            room = omega (arith, (after now).size, (size-tidied j _ now.formed).0, now.stores.size, u.room);
            sized = subst (λ (n : ℕ). SizedStore n s') u.sized.rows.xs o.sized;
            passed = λ t f st.
                let x = u.passed t f st in
                record {
                  nodes = tidied j x.nodes;
                  formed = formed-tidied j _ x.formed;
                  stores = after x;
                  rest = ap (λ (n : ℕ). pass n x.nodes) (sym (add-one j) ∙ e) ∙ x.rest;
                };
          }
        where
          after : {t : Tree} (x : Passed t i k s) → Stores (with_nodes t (tidied j x.nodes)) r s'
          after {t} x = o.stores (with_nodes t x.nodes) x.formed (omega (arith, x.stores.size, u.low)) x.stores

    pub ends : i ≡ 0 → Optimized k₀ s₀ k s
    unfolding pass
    ends e =
        record {
          stores = λ t f h st.
              let x = u.passed t f st in
              subst (λ (ns : List Node). Stores (with_nodes t ns) k s) (ap (λ (n : ℕ). pass n x.nodes) (sym e) ∙ x.rest) x.stores;
          sized = u.sized;
        }
